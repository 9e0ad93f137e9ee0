use Rattle.std.proofs.Common.{length}
use Rattle.documents.proofs.Figures.{NumberAt}
use Rattle.documents.proofs.scan.number.Given as goal

abbrev pub invariant-loop-b : goal.invariant-loop-b
invariant-loop-b l = NumberAt l.initial.phase l.bytes l.phase l.rest

abbrev pub decreases-loop-b : goal.decreases-loop-b
decreases-loop-b l = length l.rest
