use Rattle.grammar.proofs.Utf8.{texts_are_utf8_lem}
use Rattle.grammar.proofs.laws.texts_are_utf8.Goals as goal

pub returns : goal.returns
returns c = texts_are_utf8_lem
