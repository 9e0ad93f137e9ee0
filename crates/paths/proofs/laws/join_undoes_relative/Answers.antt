use Rattle.paths.proofs.Joins.{join_undoes_relative_lem}
use Rattle.paths.proofs.laws.join_undoes_relative.Goals as goal

pub returns : goal.returns
returns c = join_undoes_relative_lem
