use Rattle.std.proofs.Common.{◌≡◌, length}
use Rattle.grammar.specs.Compact.{squeezed}
use Rattle.compact.proofs.squeeze.SqueezedIterator.next.Given as goal

-- the bytes passed over so far are all dropped
abbrev pub invariant-loop-b : goal.invariant-loop-b
invariant-loop-b l = squeezed l.self.place l.self.rest.now ≡ squeezed l.initial.self.place l.initial.self.rest.now

abbrev pub decreases-loop-b : goal.decreases-loop-b
decreases-loop-b l = length l.self.rest.now
