use Rattle.std.proofs.Common.{arith, get_or, subst}
use Rattle.std.proofs.lemmas.List.{get_or_default}
use Rattle.table.specs.Order.{before, Same}
use Rattle.table.proofs.Slides.{ascending_same}
use Rattle.table.proofs.rows.edit.Table+T+ByOrd.set_rest.Goals as goal

pub returns-clause-ascends : goal.returns-clause-ascends
returns-clause-ascends g c up =
    let self = c.args.self.now in
    let xs = self.slots.now in
    let i = c.args.i in
    let x = c.with.result in
    let old = get_or xs i c.index-self-i.result in
    let same : Same (before g.T.Ord.cmp) x old = rw c.with.ensures (g.met.T.Record.alike old c.args.rest) in
    ascending_same g.met.T.Ord.total xs self.len i x up self.within (omega arith)
    (λ d. subst (Same (before g.T.Ord.cmp) x) (get_or_default xs i c.index-self-i.result d (omega (arith, self.within))) same)
