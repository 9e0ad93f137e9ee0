use Rattle.std.proofs.Common.{sym}
use Rattle.documents.proofs.Figures.{Over, n_begin, n_more, over_end, over_at, n_ends}
use Rattle.documents.proofs.scan.number.Goals as goal
use Rattle.documents.proofs.scan.number.Goals.{in-Some+in_default-next_phase, in_default}

pub loop-b-init : goal.loop-b-init
loop-b-init c = n_begin c.args.from c.args.bytes.now

pub loop-b-preserved : goal.loop-b-preserved
loop-b-preserved c = n_more _ _ _ _ _ _ _ c.loop-b.invariant c.in-Some.ensures.cases.0 (sym c.in-Some-next_phase.ensures)

pub returns-then-may_end : goal.returns-then-may_end
returns-then-may_end c =
    let o : Over c.loop-b.phase c.loop-b.rest.now =
    elim c.match-split_first.branch [
      | in-Some+in_default-next_phase w ↦ over_at _ _ _ _ w.in-Some.ensures.cases.0 (sym w.in_default-next_phase.ensures)
      | in_default w ↦ over_end _ _ w.in_default.ensures.cases
    ] in
    n_ends _ _ _ _ c.loop-b.invariant o (sym c.if-may_end.ensures)
