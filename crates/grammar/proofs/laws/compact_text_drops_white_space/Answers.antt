use Rattle.grammar.proofs.Squeeze.{compact_drops}
use Rattle.grammar.proofs.laws.compact_text_drops_white_space.Goals as goal

pub returns : goal.returns
returns c = compact_drops
