use Rattle.std.proofs.Common.{sym}
use Rattle.fences.proofs.Guards.{set_malformed, set_refused, set_open, takes_none}
use Rattle.fences.proofs.fence.FenceWriteStore.set.Goals as goal

pub returns-in_err-present-clause-means : goal.returns-in_err-present-clause-means
returns-in_err-present-clause-means g c = set_malformed c.args.key.now c.args.value.now _ 0 c.in_err-present.field-0.0 c.from_residual.result c.from_residual.ensures.1 (sym c.in_err-present.ensures)

pub returns-then-stop-clause-means : goal.returns-then-stop-clause-means
returns-then-stop-clause-means g c = set_refused c.args.key.now c.args.value.now _ 0 c.in_ok-present.field-0 (sym c.in_ok-present.ensures) (takes_none _ _ c.if-stop.ensures)

pub returns-clause-means : goal.returns-clause-means
returns-clause-means g c =
    let h = c.set.ensures.means in
    set_open c.args.self.now.table.now.rows c.args.key.now c.args.value.now _ _ c.set.result (sym c.if-stop.ensures) h
