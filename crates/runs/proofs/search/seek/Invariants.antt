use Rattle.std.proofs.Common.{◌≡◌, ℕ, ◌-◌, ◌<◌, ◌≤◌, true, false, ◌++◌, length}
use Rattle.text.specs.Bytes.{before}
use Rattle.runs.specs.Places.{key_at}
use Rattle.runs.proofs.search.seek.Given as goal

abbrev pub invariant-loop-low : goal.invariant-loop-low
invariant-loop-low g l =
    (l.low ≤ l.high) × (l.high ≤ length (g.R.PairRun.pairs l.run))
    × ((i : ℕ) → i < l.low → before (key_at (g.R.PairRun.pairs l.run) i) (l.front ++ l.back) ≡ true)
    × ((i : ℕ) → l.high ≤ i → i < length (g.R.PairRun.pairs l.run) → before (key_at (g.R.PairRun.pairs l.run) i) (l.front ++ l.back) ≡ false)

abbrev pub decreases-loop-low : goal.decreases-loop-low
decreases-loop-low g l = l.high - l.low
