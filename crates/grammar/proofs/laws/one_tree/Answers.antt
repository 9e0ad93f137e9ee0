use Rattle.grammar.proofs.Answered.{one_tree_lem}
use Rattle.grammar.proofs.laws.one_tree.Goals as goal

pub returns : goal.returns
returns c = one_tree_lem
