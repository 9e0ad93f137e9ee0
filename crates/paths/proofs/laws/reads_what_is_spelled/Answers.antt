use Rattle.paths.proofs.Readings.{reads_what_is_spelled_lem}
use Rattle.paths.proofs.laws.reads_what_is_spelled.Goals as goal

pub returns : goal.returns
returns c = reads_what_is_spelled_lem
