use Rattle.paths.proofs.Joins.{parent_undoes_join_lem}
use Rattle.paths.proofs.laws.parent_undoes_join.Goals as goal

pub returns : goal.returns
returns c = parent_undoes_join_lem
