-- What slots and bytes mean. The values lie one after the other, in the order of the slots: a slot's value begins where the sizes before it end, and its place says where that is.
-- Assumes nothing.
use Rattle.std.specs.Prelude.{ℕ, ◌+◌, Bool, true, ◌&&◌, List, [], ◌∷◌, length, take, drop, replicate, ◌==◌, nat_le}
use Rattle.std.specs.declared.cmp.Ordering.{Ordering}
use Rattle.text.specs.Bytes.{Bytes, byte_order}
use Rattle.keys.specs.Values.{key_text}
use Rattle.keys.specs.declared.store_key.StoreKey.{StoreKey}
use Rattle.table.specs.Order.{before}
use Rattle.stores.specs.Pairs.{Pairs, pair, inserted}
use Rattle.shelves.specs.declared.slot.Slot.{Slot}

abbrev pub slot : StoreKey → ℕ → ℕ → Slot
slot k p n = record { key = k; span = record { place = p; size = n } }

-- slots are ordered by the bytes of their keys
abbrev pub slot_text : Slot → Bytes
slot_text s = key_text s.key

abbrev pub slot_order : Slot → Slot → Ordering
slot_order a b = byte_order (slot_text a) (slot_text b)

abbrev pub slot_before : Slot → Slot → Bool
slot_before = before slot_order

-- the pairs of some slots over the bytes that their values begin in
abbrev pub entries : List Slot → Bytes → Pairs
entries [] b = []
entries (s ∷ ss) b = pair (key_text s.key) (take s.span.size b) ∷ entries ss (drop s.span.size b)

-- the bytes of all values
abbrev pub total : List Slot → ℕ
total [] = 0
total (s ∷ ss) = s.span.size + total ss

-- each place is where the sizes before it end
abbrev pub placed : ℕ → List Slot → Bool
placed p [] = true
placed p (s ∷ ss) = s.span.place == p && placed (p + s.span.size) ss

-- the same slots with their places set so
abbrev pub laid : ℕ → List Slot → List Slot
laid p [] = []
laid p (s ∷ ss) = slot s.key p s.span.size ∷ laid (p + s.span.size) ss

-- the bytes of all values of some pairs
abbrev pub weight : Pairs → ℕ
weight [] = 0
weight (a ∷ ps) = length a.value + weight ps

-- whether pairs fit so many slots and bytes
abbrev pub fits : ℕ → ℕ → Pairs → Bool
fits slots bytes ps = nat_le (length ps) slots && nat_le (weight ps) bytes

-- a value of n bytes is taken exactly if the pairs fit after it is set; which bytes it has is no matter
abbrev pub taken : ℕ → ℕ → Pairs → Bytes → ℕ → Bool
taken slots bytes ps k n = fits slots bytes (inserted k (replicate n 0) ps)

-- the pairs of the slots in use
abbrev pub pairs_of : List Slot → ℕ → Bytes → Pairs
pairs_of slots len bytes = entries (take len slots) bytes
