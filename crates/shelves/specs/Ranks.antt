-- The order of slots is the order of their keys by bytes.
-- Assumes nothing.
use Rattle.std.proofs.Common.{◌≡◌, ℕ, Bool, true, false, refl, sym, ap, ◌∙◌}
use Rattle.std.specs.Ordering.{is_lt}
use Rattle.text.specs.Bytes.{Bytes, same, ordering, byte_order, before}
use Rattle.text.proofs.Order.{same_eq, before-alone}
use Rattle.table.specs.Order.{Same}
use Rattle.shelves.specs.declared.slot.Slot.{Slot}
use Rattle.shelves.specs.Slots.{slot, slot_text, slot_before}

first_by_order : (x y : Bytes) → is_lt (byte_order x y) ≡ before x y
first_by_order x y = by (same x y) (before x y) refl refl
  where
    by : (s b : Bool) → same x y ≡ s → before x y ≡ b → is_lt (ordering s b) ≡ b
    by true b e f = sym (ap (λ z. before z y) (same_eq x y e) ∙ before-alone y) ∙ f
    by false true e f = refl
    by false false e f = refl

pub by_keys : (a b : Slot) → before (slot_text a) (slot_text b) ≡ slot_before a b
by_keys a b = sym (first_by_order (slot_text a) (slot_text b))

-- slots with one key are the same in the order
pub same_key : (s : Slot) (p n : ℕ) → Same slot_before (slot s.key p n) s
same_key s p n = (sym (by_keys s s) ∙ before-alone (slot_text s), sym (by_keys s s) ∙ before-alone (slot_text s))
