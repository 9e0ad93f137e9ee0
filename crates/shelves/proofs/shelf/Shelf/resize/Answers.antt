use Rattle.std.proofs.Common.{◌≡◌, ◌+◌, ◌-◌, ◌≤◌, length, take, drop, set, refl, ap, ◌∙◌, arith, length-set, rules}
use Rattle.std.proofs.lemmas.List.{drop-set-lt}
use Rattle.shelves.specs.declared.slot.Slot.{Slot}
use Rattle.shelves.specs.Slots.{slot, total}
use Rattle.shelves.proofs.Laying.{take_of_set, spanned}
use Rattle.shelves.proofs.Changed.{inside, resized}
use Rattle.shelves.proofs.shelf.Shelf.resize.Goals as goal

pub splice-requires : goal.splice-requires
splice-requires c =
    let s = c.args.self.now in
    let x = c.slot_at.result.now in
    let z = inside s c.args.i x c.requires.place in
    let p = ap (λ (y : Slot). y.span.place) (c.slot_at.ensures x) in
    let n = ap (λ (y : Slot). y.span.size) (c.slot_at.ensures x) in
    record { part = omega (arith, z.1, p, n); within = s.short; room = omega (arith, c.requires.room x, n) }

pub overflow_sub-self : goal.overflow_sub-self
overflow_sub-self c =
    let s = c.args.self.now in
    let x = c.slot_at.result.now in
    let z = inside s c.args.i x c.requires.place in
    omega (arith, z.1, ap (λ (y : Slot). y.span.size) (c.slot_at.ensures x))

pub lay-requires-clause-short : goal.lay-requires-clause-short
lay-requires-clause-short c =
    let s = c.args.self.now in
    let x = c.slot_at.result.now in
    let t = c.set_rest.new.self in
    let e = c.set_rest.ensures.rows in
    let ss = s.rows.slots.now in
    let len = s.rows.len in
    let i = c.args.i in
    let y = slot x.key x.span.place (length c.args.value.now) in
    let us : t.slots.now ≡ set ss i y = spanned ss t.slots.now s.rows.len i x.span.place (length c.args.value.now) x c.set_rest.result _ c.requires.place (c.slot_at.ensures x) e.1 in
    let z = inside s i x c.requires.place in
    let p = ap (λ (w : Slot). w.span.place) (c.slot_at.ensures x) in
    let n = ap (λ (w : Slot). w.span.size) (c.slot_at.ensures x) in
    let d : drop (i + 1) (take t.len t.slots.now) ≡ drop (i + 1) (take len ss) =
    ap (λ m. drop (i + 1) (take m t.slots.now)) e.0 ∙ ap (λ (xs : _). drop (i + 1) (take len xs)) us ∙ ap (drop (i + 1)) (take_of_set len ss i y) ∙ drop-set-lt (i + 1) (take len ss) i y (omega arith)
    in
    let f = ap total d in
    let le : x.span.place + length c.args.value.now + total (drop (i + 1) (take t.len t.slots.now)) ≤ length s.bytes.now = omega (arith, z.1, p, n, f, c.requires.room x) in
    search rules

pub invariant_of-self : goal.invariant_of-self
invariant_of-self c =
    let s = c.args.self.now in
    let x = c.slot_at.result.now in
    let t = c.set_rest.new.self in
    let u = c.lay.new.rows in
    let e = c.set_rest.ensures.rows in
    let ss = s.rows.slots.now in
    let i = c.args.i in
    let v = c.args.value.now in
    let us : t.slots.now ≡ set ss i (slot x.key x.span.place (length v)) = spanned ss t.slots.now s.rows.len i x.span.place (length c.args.value.now) x c.set_rest.result _ c.requires.place (c.slot_at.ensures x) e.1 in
    let b = s.bytes.now in
    let n = ap (λ (w : Slot). w.span.size) (c.slot_at.ensures x) in
    let r = resized s t.slots.now u.slots.now t.len u.len i x v c.splice.new.bytes (drop (s.used - x.span.size + length v) b) c.requires.place c.slot_at.ensures (omega (arith, c.requires.room x, n)) c.splice.ensures e.0 us c.lay.ensures.len c.lay.ensures.rows in
    record { short = omega (arith, (inside s i x c.requires.place).1, c.requires.room x, n, c.splice.auto.bytes); sum = r.0.sum; places = r.0.places }

pub returns : goal.returns
returns c =
    let s = c.args.self.now in
    let x = c.slot_at.result.now in
    let t = c.set_rest.new.self in
    let u = c.lay.new.rows in
    let e = c.set_rest.ensures.rows in
    let ss = s.rows.slots.now in
    let i = c.args.i in
    let v = c.args.value.now in
    let us : t.slots.now ≡ set ss i (slot x.key x.span.place (length v)) = spanned ss t.slots.now s.rows.len i x.span.place (length c.args.value.now) x c.set_rest.result _ c.requires.place (c.slot_at.ensures x) e.1 in
    let b = s.bytes.now in
    let n = ap (λ (w : Slot). w.span.size) (c.slot_at.ensures x) in
    let r = resized s t.slots.now u.slots.now t.len u.len i x v c.splice.new.bytes (drop (s.used - x.span.size + length v) b) c.requires.place c.slot_at.ensures (omega (arith, c.requires.room x, n)) c.splice.ensures e.0 us c.lay.ensures.len c.lay.ensures.rows in
    record {
      lent = (c.lay.ensures.same ∙ c.set_rest.ensures.same, refl, c.lay.ensures.room ∙ ap length us ∙ length-set ss i (slot x.key x.span.place (length v)), c.splice.auto.bytes);
      holds = r.1;
      here = (c.lay.ensures.len ∙ e.0, r.2);
    }
