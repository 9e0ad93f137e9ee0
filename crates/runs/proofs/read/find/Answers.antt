use Rattle.std.proofs.Common.{ℕ, sym, ap, ◌∙◌, arith}
use Rattle.text.specs.Bytes.{Bytes, same}
use Rattle.text.proofs.Order.{same_eq}
use Rattle.runs.specs.Places.{key_at}
use Rattle.runs.proofs.Found.{absent_end, absent_here, present}
use Rattle.runs.proofs.read.find.Goals.{else-i-count-via-then-i-count+else-equal, else-i-count-via-else-i-count}
use Rattle.runs.proofs.read.find.Goals as goal

pub returns-then-equal : goal.returns-then-equal
returns-then-equal g c =
    let s = c.args.run.now in
    let ps = g.R.PairRun.pairs s in
    let k : Bytes = c.args.key.now in
    let i : ℕ = c.seek-i.result in
    let e = ap (same k) (sym c.key_at.ensures) ∙ sym c.if-equal.ensures in
    (omega arith, sym (same_eq k (key_at ps i) e), present ps (g.R.PairRun.lawful s).ascends k i c.seek-i.ensures (omega arith) e)

pub returns-else-i-count : goal.returns-else-i-count
returns-else-i-count g c =
    let s = c.args.run.now in
    let ps = g.R.PairRun.pairs s in
    let a = (g.R.PairRun.lawful s).ascends in
    let k : Bytes = c.args.key.now in
    elim c.else-i-count.branch [
      | else-i-count-via-then-i-count+else-equal w ↦ absent_here ps a k c.seek-i.result c.seek-i.ensures (omega arith) (ap (same k) (sym w.key_at.ensures) ∙ sym w.if-equal.ensures)
      | else-i-count-via-else-i-count w ↦ absent_end ps a k c.seek-i.result c.seek-i.ensures (omega arith)
    ]
