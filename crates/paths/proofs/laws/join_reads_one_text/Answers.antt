use Rattle.paths.proofs.Joins.{join_reads_one_text_lem}
use Rattle.paths.proofs.laws.join_reads_one_text.Goals as goal

pub returns : goal.returns
returns c = join_reads_one_text_lem
