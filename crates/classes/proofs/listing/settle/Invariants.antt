use Rattle.std.proofs.Common.{vec_items}
use Rattle.classes.proofs.Turns.{SettleNodes, SettlePassed}
use Rattle.classes.proofs.listing.settle.Given as goal

abbrev pub invariant-loop-node : goal.invariant-loop-node
invariant-loop-node l = SettleNodes (vec_items l.nodes) l.sorted l.node-index × SettlePassed (vec_items l.nodes) (vec_items l.passed) (vec_items l.initial.passed) l.sorted l.node-index
