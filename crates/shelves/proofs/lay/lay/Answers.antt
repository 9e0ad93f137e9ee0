use Rattle.std.proofs.Common.{◌≡◌, ◌+◌, ◌<◌, length, take, drop, set, sym, ap, ◌∙◌, arith, length-set}
use Rattle.std.proofs.lemmas.List.{length-take-le}
use Rattle.shelves.specs.Slots.{slot, total}
use Rattle.shelves.proofs.Laying.{spanned, lay_head, lay_step, lay_end}
use Rattle.shelves.proofs.lay.lay.Goals as goal

pub overflow_add-place : goal.overflow_add-place
overflow_add-place c =
    let t = c.loop-i.rows in
    let s = c.slot_at.result.now in
    let h : c.loop-i.i < t.len = omega (arith, c.len-i-end.ensures, c.loop-i.invariant.0) in
    let e = ap total (lay_head t.slots.now t.len c.loop-i.i s t.within h (c.slot_at.ensures s)) in
    omega (arith, e, c.loop-i.invariant.3)

pub loop-i-preserved : goal.loop-i-preserved
loop-i-preserved c =
    let t = c.loop-i.rows in
    let u = c.set_rest.new.self in
    let s = c.slot_at.result.now in
    let i = c.loop-i.i in
    let p = c.loop-i.place in
    let n = t.len in
    let h : i < n = omega (arith, c.len-i-end.ensures, c.loop-i.invariant.0) in
    let e : u.len ≡ n = c.set_rest.ensures.rows.0 in
    let f : u.slots.now ≡ set t.slots.now i (slot s.key p s.span.size) = spanned t.slots.now u.slots.now n i p s.span.size s c.set_rest.result _ h (c.slot_at.ensures s) c.set_rest.ensures.rows.1 in
    let k = lay_step t.slots.now u.slots.now n i p s t.within h (c.slot_at.ensures s) f in
    let v : take u.len u.slots.now ≡ take n u.slots.now = ap (λ m. take m u.slots.now) e in
    let k0 : p + s.span.size + total (drop (i + 1) (take u.len u.slots.now)) ≡ p + total (drop i (take n t.slots.now)) = ap (λ (xs : _). p + s.span.size + total (drop (i + 1) xs)) v ∙ k.0 in (
      e ∙ c.loop-i.invariant.0,
      ap length f ∙ length-set t.slots.now i (slot s.key p s.span.size) ∙ c.loop-i.invariant.1,
      c.set_rest.ensures.same ∙ c.loop-i.invariant.2,
      omega (arith, k0, c.loop-i.invariant.3),
      rw v (k.1 ∙ c.loop-i.invariant.4),
    )

pub returns-clause-rows : goal.returns-clause-rows
returns-clause-rows c =
    let t = c.loop-i.rows in
    let l = length-take-le t.len t.slots.now t.within in
    sym (lay_end (take t.len t.slots.now) c.loop-i.i c.loop-i.place (omega (arith, l, c.len-i-end.ensures, c.loop-i.invariant.0))) ∙ c.loop-i.invariant.4
