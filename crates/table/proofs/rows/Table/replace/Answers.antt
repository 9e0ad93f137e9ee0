use Rattle.std.proofs.Common.{sym, ◌∙◌}
use borrow.Author.Tests.{clash}
use Rattle.table.proofs.Places.{alike_granted, weak_between}
use Rattle.table.proofs.Slides.{ascending_put}
use Rattle.table.proofs.rows.Table.replace.Goals as goal

pub returns-clause-ascends : goal.returns-clause-ascends
returns-clause-ascends g c up =
    let self = c.args.self.now in
    let fits = (c.fits.ensures.place up).0 c.if-not-fits.false in
    ascending_put g.T.OrderedBy.before self.slots.now self.len c.args.i c.args.x up self.within fits.0.0 fits.1

pub returns-then-not-fits-clause-weak : goal.returns-then-not-fits-clause-weak
returns-then-not-fits-clause-weak g c up order =
    let self = c.args.self.now in (
      (λ yes. absurd (clash yes)),
      (λ found. sym c.if-not-fits.true ∙ (c.fits.ensures.place up).1 (found, weak_between g.T.OrderedBy.before order self.slots.now self.len c.args.i c.args.x up found)),
    )

pub returns-then-not-fits-clause-alike : goal.returns-then-not-fits-clause-alike
returns-then-not-fits-clause-alike g c up place alike =
    let self = c.args.self.now in
    sym c.if-not-fits.true ∙ (c.fits.ensures.place up).1 (alike_granted g.T.OrderedBy.before g.met.T.OrderedBy.alone self.slots.now self.len c.args.i c.args.x up place alike)
