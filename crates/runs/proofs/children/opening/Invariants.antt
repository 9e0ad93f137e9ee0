use Rattle.std.proofs.Common.{◌≡◌, ℕ, ◌-◌, ◌<◌, ◌≤◌, false, ◌++◌, length}
use Rattle.text.specs.Bytes.{before}
use Rattle.runs.specs.Places.{key_at}
use Rattle.runs.specs.Openings.{Passed}
use Rattle.runs.proofs.children.opening.Given as goal

abbrev pub invariant-loop-i : goal.invariant-loop-i
invariant-loop-i g l =
    (l.i ≤ length (g.R.PairRun.pairs l.run))
    × Passed (g.R.PairRun.pairs l.run) l.prefix l.after l.i
    × ((j : ℕ) → l.i ≤ j → j < length (g.R.PairRun.pairs l.run) → before (key_at (g.R.PairRun.pairs l.run) j) (l.prefix ++ l.after) ≡ false)

abbrev pub decreases-loop-i : goal.decreases-loop-i
decreases-loop-i g l = length (g.R.PairRun.pairs l.run) - l.i
