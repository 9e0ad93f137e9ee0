use Rattle.std.proofs.Common.{◌≡◌, ◌+◌, ◌<◌, ◌≤◌, [], length, ap, ◌∙◌, arith}
use Rattle.std.proofs.lemmas.Result.{err_from_is_err_and}
use Rattle.text.specs.Bytes.{Bytes}
use Rattle.keys.specs.Keys.{is_key}
use Rattle.keys.specs.Values.{key_text}
use Rattle.keys.specs.declared.store_key.StoreKey.{StoreKey}
use Rattle.stores.specs.Pairs.{inserted}
use Rattle.shelves.specs.declared.slot.Slot.{Slot}
use Rattle.shelves.specs.Meant.{pairs_in}
use Rattle.shelves.proofs.Changed.{first_of, inside}
use Rattle.shelves.proofs.Sought.{inserted_again}
use Rattle.shelves.proofs.Writing.{same_lent, lent_twice, set_bad, set_not, set_did, key_ok, key_bad, found_key, known_taken, known_not, new_taken, new_full, new_long}
use Rattle.shelves.proofs.shelf.Shelf.put.Goals.{then-len-room-via-then-len-room, then-len-room-via-else-len-room+then-value-self-2}
use Rattle.shelves.proofs.shelf.Shelf.put.Goals as goal

pub returns-in_err-key : goal.returns-in_err-key
returns-in_err-key c =
    let s = c.args.self.now in
    let k = c.args.key.now in
    let f = c.in_err-key.field-0.0 in
    let p = err_from_is_err_and c.from_residual.result c.from_residual.ensures.1 in
    record { lent = same_lent s; means = rw (p.1, p.2) (set_bad s k c.args.value.now f (key_bad (is_key k) f k c.in_err-key.ensures)) }

pub overflow_sub-self : goal.overflow_sub-self
overflow_sub-self c =
    let x = c.slot_at.result.now in
    let z = inside c.args.self.now c.in-Ok.i x c.in-Ok.ensures.0 in
    omega (arith, z.1, ap (λ (y : Slot). y.span.size) (c.slot_at.ensures x))

pub returns-then-value-self : goal.returns-then-value-self
returns-then-value-self c =
    let s = c.args.self.now in
    let k = c.args.key.now in
    let v = c.args.value.now in
    let w = key_ok (is_key k) (key_text c.in_ok-key.key) k c.in_ok-key.ensures in
    let x = c.slot_at.result.now in
    let f = c.in-Ok.ensures in
    let z = inside s c.in-Ok.i x f.0 in
    let e = ap (λ (y : Slot). y.span.size) (c.slot_at.ensures x) in
    let h : length s.bytes.now + x.span.size < s.used + length v = omega (arith, z.1, e, s.short, c.if-value-self.true) in
    record { lent = same_lent s; means = set_not s k v w.0 (known_not s c.in_ok-key.key k w.1 v c.in-Ok.i x f c.slot_at.ensures h) }

pub returns-then-len-room : goal.returns-then-len-room
returns-then-len-room c =
    let s = c.args.self.now in
    let k = c.args.key.now in
    let v = c.args.value.now in
    let w = key_ok (is_key k) (key_text c.in_ok-key.key) k c.in_ok-key.ensures in
    elim c.then-len-room.branch [
      | then-len-room-via-then-len-room z ↦
          let h : length s.rows.slots.now ≤ s.rows.len = omega (arith, c.len.ensures, c.room.ensures, z.if-len-room.true) in
          record { lent = same_lent s; means = set_not s k v w.0 (new_full s c.in_ok-key.key k w.1 v c.in-Err.i c.in-Err.ensures h) }
      | then-len-room-via-else-len-room+then-value-self-2 z ↦
          let h : length s.bytes.now < s.used + length v = omega (arith, s.short, z.if-value-self-2.true) in
          record { lent = same_lent s; means = set_not s k v w.0 (new_long s c.in_ok-key.key k w.1 v c.in-Err.i c.in-Err.ensures h) }
    ]

pub returns-else-value-self : goal.returns-else-value-self
returns-else-value-self c =
    let s = c.args.self.now in
    let k = c.args.key.now in
    let v = c.args.value.now in
    let w = key_ok (is_key k) (key_text c.in_ok-key.key) k c.in_ok-key.ensures in
    let x = c.slot_at.result.now in
    let f = c.in-Ok.ensures in
    let i = c.in-Ok.i in
    let z = inside s i x f.0 in
    let e = ap (λ (y : Slot). y.span.size) (c.slot_at.ensures x) in
    let h : s.used + length v ≤ length s.bytes.now + x.span.size = omega (arith, z.1, e, s.short, c.if-value-self.false) in
    let r = c.resize.ensures in
    let q : pairs_in c.resize.new.self ≡ inserted k v (pairs_in s) = r.holds x ∙ ap (λ (y : Bytes). inserted y v (pairs_in s)) (found_key s c.in_ok-key.key k w.1 v i x f) in
    record { lent = r.lent; means = set_did s k v c.resize.new.self w.0 (known_taken s c.in_ok-key.key k w.1 v i x f c.slot_at.ensures h) q }

pub returns-else-value-self-2 : goal.returns-else-value-self-2
returns-else-value-self-2 c =
    let s = c.args.self.now in
    let k = c.args.key.now in
    let v = c.args.value.now in
    let key = c.in_ok-key.key in
    let w = key_ok (is_key k) (key_text key) k c.in_ok-key.ensures in
    let i = c.in-Err.i in
    let g : s.rows.len < length s.rows.slots.now = omega (arith, c.len.ensures, c.room.ensures, c.if-len-room.false) in
    let h : s.used + length v ≤ length s.bytes.now = omega (arith, s.short, c.if-value-self-2.false) in
    let a = c.add.ensures in
    let o = c.add.new.self in
    let u = c.resize-in-Err.new.self in
    let r = c.resize-in-Err.ensures in
    let d = first_of o.rows.slots.now i (omega (arith, o.rows.within, a.here.0, c.in-Err.ensures.0)) in
    let q : pairs_in u ≡ inserted k v (pairs_in s) =
    r.holds d ∙ ap (λ (y : StoreKey). inserted (key_text y) v (pairs_in o)) (a.here.2 d).0 ∙ ap (inserted (key_text key) v) a.adds ∙ inserted_again (key_text key) v [] (pairs_in s) ∙ ap (λ (y : Bytes). inserted y v (pairs_in s)) w.1
    in
    record { lent = lent_twice s o u a.lent r.lent; means = set_did s k v u w.0 (new_taken s key k w.1 v i c.in-Err.ensures g h) q }
