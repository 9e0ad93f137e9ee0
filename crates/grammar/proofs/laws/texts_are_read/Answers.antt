use Rattle.grammar.proofs.Answered.{reads}
use Rattle.grammar.proofs.laws.texts_are_read.Goals as goal

pub returns : goal.returns
returns c = reads
