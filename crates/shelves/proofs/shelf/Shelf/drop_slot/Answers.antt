use Rattle.std.proofs.Common.{refl}
use Rattle.shelves.proofs.Changed.{dropped_at}
use Rattle.shelves.proofs.shelf.Shelf.drop_slot.Goals as goal

pub invariant_of-self : goal.invariant_of-self
invariant_of-self c =
    let s = c.args.self.now in
    let t = c.remove.new.self in
    let a = dropped_at s t.slots.now t.len c.args.i c.remove.result c.requires.place c.requires.empty c.remove.ensures.rows in
    record { short = s.short; sum = a.0.sum; places = a.0.places }

pub returns : goal.returns
returns c =
    let s = c.args.self.now in
    let t = c.remove.new.self in
    let e = c.remove.ensures in
    let a = dropped_at s t.slots.now t.len c.args.i c.remove.result c.requires.place c.requires.empty e.rows in
    record { lent = (e.same, refl, e.room, refl); drops = a.1 }
