-- What a shelf means, and what every call leaves.
-- Assumes nothing.
use Rattle.std.specs.Prelude.{◌≡◌, ℕ, true, length, slice_index_or}
use Rattle.stores.specs.Pairs.{Pairs}
use Rattle.stores.specs.Meaning.{Meaning, means}
use Rattle.shelves.specs.declared.slot.Slot.{Slot}
use Rattle.shelves.specs.declared.shelf.Shelf.{Shelf}
use Rattle.shelves.specs.Slots.{pairs_of, taken}

-- the slot at an index
abbrev pub slot_at : Shelf → ℕ → Slot → Slot
slot_at r i d = slice_index_or r.rows.slots.now i d

abbrev pub pairs_in : Shelf → Pairs
pairs_in r = pairs_of r.rows.slots.now r.rows.len r.bytes.now

-- keys have up to 400 bytes, a pair is taken if the pairs then fit, and every key is let go
abbrev pub meaning : Shelf → Meaning
meaning r = means (pairs_in r) 400 (taken (length r.rows.slots.now) (length r.bytes.now) (pairs_in r)) (λ _. true)

-- the same slots and the same bytes are lent, as many as before
abbrev pub Lent : Shelf → Shelf → Type 0
Lent r t =
    (t.rows.slots.ghost_name ≡ r.rows.slots.ghost_name) × (t.bytes.ghost_name ≡ r.bytes.ghost_name)
    × (length t.rows.slots.now ≡ length r.rows.slots.now) × (length t.bytes.now ≡ length r.bytes.now)
