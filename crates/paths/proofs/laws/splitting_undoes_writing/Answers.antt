use Rattle.paths.proofs.Readings.{splitting_undoes_writing_lem}
use Rattle.paths.proofs.laws.splitting_undoes_writing.Goals as goal

pub returns : goal.returns
returns c = splitting_undoes_writing_lem
