use Rattle.std.proofs.Common.{vec_items}
use Rattle.classes.proofs.Turns.{SiftNodes, SiftPassed}
use Rattle.classes.proofs.listing.sift.Given as goal

abbrev pub invariant-loop-one : goal.invariant-loop-one
invariant-loop-one l = SiftNodes (vec_items l.nodes) l.found l.one-index × SiftPassed (vec_items l.passed) l.found l.one-index
