use Rattle.std.proofs.Common.{take, sym, ap, ◌∙◌, arith}
use Rattle.std.proofs.lemmas.List.{length-take-le, get_or-take}
use Rattle.shelves.specs.declared.slot.Slot.{Slot}
use Rattle.shelves.proofs.Laying.{place_at}
use Rattle.shelves.proofs.shelf.Shelf.place.Goals as goal

pub returns-in-Some : goal.returns-in-Some
returns-in-Some c =
    let s = c.args.self.now in
    let xs = s.rows.slots.now in
    let n = s.rows.len in
    let i = c.args.i in
    let d = c.in-Some.slot.now in
    let e = c.in-Some.ensures in
    let l = length-take-le n xs s.rows.within in
    ap (λ (x : Slot). x.span.place) (e.1 d ∙ sym (get_or-take n xs i d e.0)) ∙ place_at (take n xs) i d (omega (arith, e.0)) s.places
