use Rattle.std.proofs.Common.{refl}
use Rattle.shelves.proofs.Changed.{added_at}
use Rattle.shelves.proofs.shelf.Shelf.add.Goals as goal

pub invariant_of-self : goal.invariant_of-self
invariant_of-self c =
    let s = c.args.self.now in
    let t = c.insert_at.new.self in
    let e = c.insert_at.ensures in
    let a = added_at s t.slots.now t.len c.args.i c.args.key c.place-place.result c.insert_at.result _ c.requires.room c.requires.place c.place-place.ensures e.granted e.rows in
    record { short = s.short; sum = a.0.sum; places = a.0.places }

pub returns : goal.returns
returns c =
    let s = c.args.self.now in
    let t = c.insert_at.new.self in
    let e = c.insert_at.ensures in
    let a = added_at s t.slots.now t.len c.args.i c.args.key c.place-place.result c.insert_at.result _ c.requires.room c.requires.place c.place-place.ensures e.granted e.rows in
    record { lent = (e.same, refl, e.room, refl); adds = a.1; here = (a.2, refl, a.3) }
