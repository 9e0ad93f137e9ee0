use Rattle.std.proofs.Common.{sym, arith}
use Rattle.documents.proofs.Words.{each_begin, each_more, each_all, each_end, each_bad}
use Rattle.documents.proofs.scan.follow.Goals as goal
use Rattle.documents.proofs.scan.follow.Goals.{in_default-via-in-Some+else-is_met_by, in_default-via-in_default}

pub loop-e-init : goal.loop-e-init
loop-e-init g c = each_begin _ _ c.args.expected.now c.args.bytes.now

pub returns-in_default : goal.returns-in_default
returns-in_default g c =
    elim c.in_default.branch [
      | in_default-via-in-Some+else-is_met_by w ↦ each_bad _ _ _ _ _ c.loop-e.e-index c.e-item.result c.loop-e-test.true c.e-item.is c.loop-e.invariant w.in-Some.tail.now w.in-Some.b.now w.in-Some.ensures.cases.0 (sym w.if-is_met_by.ensures)
      | in_default-via-in_default w ↦ each_end _ _ _ _ _ c.loop-e.e-index c.e-item.result c.loop-e-test.true c.e-item.is c.loop-e.invariant w.in_default.ensures.cases
    ]

pub loop-e-preserved : goal.loop-e-preserved
loop-e-preserved g c = each_more _ _ _ _ _ _ c.loop-e.e-index c.in-Some.b.now c.e-item.result c.loop-e-test.true c.e-item.is c.loop-e.invariant c.in-Some.ensures.cases.0 (sym c.if-is_met_by.ensures)

pub returns : goal.returns
returns g c = each_all _ _ _ _ _ c.loop-e.e-index (omega arith) c.loop-e.invariant
