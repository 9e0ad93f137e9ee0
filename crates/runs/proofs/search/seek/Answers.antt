use Rattle.std.proofs.Common.{ℕ, ◌+◌, ◌-◌, ◌/◌, ◌++◌, sym, ap, ◌∙◌, arith}
use Rattle.text.specs.Bytes.{Bytes, before}
use Rattle.runs.proofs.ByPlace.{low_on, high_on}
use Rattle.runs.proofs.search.seek.Goals as goal

pub loop-low-preserved-then-comes_before : goal.loop-low-preserved-then-comes_before
loop-low-preserved-then-comes_before g c =
    let ps = g.R.PairRun.pairs c.args.run.now in
    let t : Bytes = c.args.front.now ++ c.args.back.now in
    let m : ℕ = c.loop-low.low + (c.loop-low.high - c.loop-low.low) / 2 in
    (omega arith, omega arith, low_on ps t m (g.R.PairRun.lawful c.args.run.now).ascends (omega arith) (ap (λ (k : Bytes). before k t) (sym c.key_at.ensures) ∙ sym c.if-comes_before.ensures), c.loop-low.invariant.3)

pub loop-low-preserved : goal.loop-low-preserved
loop-low-preserved g c =
    let ps = g.R.PairRun.pairs c.args.run.now in
    let t : Bytes = c.args.front.now ++ c.args.back.now in
    let m : ℕ = c.loop-low.low + (c.loop-low.high - c.loop-low.low) / 2 in
    (omega arith, omega arith, c.loop-low.invariant.2, high_on ps t m (g.R.PairRun.lawful c.args.run.now).ascends (ap (λ (k : Bytes). before k t) (sym c.key_at.ensures) ∙ sym c.if-comes_before.ensures))
