use Rattle.grammar.proofs.Answered.{says}
use Rattle.grammar.proofs.Places.{text_or_longest}
use Rattle.grammar.proofs.laws.text_or_longest_start.Goals as goal

pub returns : goal.returns
returns c = record { stands = text_or_longest; told = says }
