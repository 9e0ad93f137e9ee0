use Rattle.std.proofs.Common.{Ok, sym, ap, ◌∙◌}
use Rattle.fences.proofs.Guards.{erase_malformed, erase_there, erase_none, erase_open, takes_none}
use Rattle.fences.proofs.fence.FenceWriteStore.erase.Goals as goal

pub returns-in_err-present-clause-means : goal.returns-in_err-present-clause-means
returns-in_err-present-clause-means g c = erase_malformed c.args.key.now _ 0 c.in_err-present.field-0.0 c.from_residual.result c.from_residual.ensures.1 (sym c.in_err-present.ensures)

pub returns-then-not-stop-clause-means : goal.returns-then-not-stop-clause-means
returns-then-not-stop-clause-means g c =
    let h = c.erase.ensures.means in
    erase_open c.args.self.now.table.now.rows c.args.key.now _ _ c.erase.result (sym c.if-not-stop.ensures) h

pub returns-then-branch-clause-means : goal.returns-then-branch-clause-means
returns-then-branch-clause-means g c = erase_there c.args.key.now _ 0 (sym c.in_ok-present.ensures ∙ ap Ok c.if-branch.true) (takes_none _ _ c.if-not-stop.ensures)

pub returns-else-branch-clause-means : goal.returns-else-branch-clause-means
returns-else-branch-clause-means g c = erase_none c.args.key.now _ 0 (sym c.in_ok-present.ensures ∙ ap Ok c.if-branch.false)
