use Rattle.std.proofs.Common.{◌≤◌, length}
use Rattle.scripts.proofs.run.Run.on_store.Given as goal

abbrev pub invariant-loop-number : goal.invariant-loop-number
invariant-loop-number g l = length l.self.lines.rest.now ≤ length l.initial.self.lines.rest.now

abbrev pub decreases-loop-number : goal.decreases-loop-number
decreases-loop-number g l = length l.self.lines.rest.now
