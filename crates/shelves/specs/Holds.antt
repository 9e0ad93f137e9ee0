-- The pairs of ascending slots are lawful.
-- Assumes nothing.
use Rattle.std.specs.Prelude.{◌≡◌, ℕ, suc, ◌<◌, true, List, [], ◌∷◌, length, get_or, take, drop, slice_index_or}
use Rattle.std.proofs.Common.{◌∙◌, ap, arith}
use Rattle.std.proofs.lemmas.List.{get_or-take, length-take}
use Rattle.text.specs.Bytes.{Bytes, before}
use Rattle.keys.specs.Values.{key_text}
use Rattle.stores.specs.Pairs.{AllAbove, AllKeys, Ascends, Lawful}
use Rattle.stores.specs.WellFormed.{well_key}
use Rattle.shelves.specs.declared.slot.Slot.{Slot}
use Rattle.table.specs.Order.{Ascending}
use Rattle.shelves.specs.Slots.{slot_before, entries}
use Rattle.shelves.specs.Ranks.{by_keys}

-- all slots have keys after k
abbrev pub Behind : Bytes → List Slot → Type 0
Behind k xs = (j : ℕ) (d : Slot) → j < length xs → before k (key_text (get_or xs j d).key) ≡ true

pub above_entries : (k : Bytes) (xs : List Slot) (b : Bytes) → Behind k xs → AllAbove k (entries xs b)
above_entries k [] b h = tt
above_entries k (s ∷ ss) b h = (h 0 s (omega arith), above_entries k ss (drop s.span.size b) (λ j d l. h (suc j) d (omega arith)))

pub ascends_entries : (xs : List Slot) (b : Bytes) → Ascending slot_before xs (length xs) → Ascends (entries xs b)
ascends_entries [] b h = tt
ascends_entries (s ∷ ss) b h = (
  above_entries (key_text s.key) ss (drop s.span.size b) (λ j d l. by_keys s (get_or ss j d) ∙ h 0 (suc j) d (omega arith) (omega arith)),
  ascends_entries ss (drop s.span.size b) (λ i j d l m. h (suc i) (suc j) d (omega arith) (omega arith)),
)

pub well_entries : (xs : List Slot) (b : Bytes) → AllKeys (λ k. well_key 400 k ≡ true) (entries xs b)
well_entries [] b = tt
well_entries (s ∷ ss) b = (s.key.well, well_entries ss (drop s.span.size b))

ascending_front : (xs : List Slot) (n : ℕ) → Ascending slot_before xs n → Ascending slot_before (take n xs) (length (take n xs))
ascending_front xs n up i j d l h =
    let m = length-take n xs in
    ap (λ (x : Slot). slot_before x (slice_index_or (take n xs) j d)) (get_or-take n xs i d (omega arith)) ∙ ap (λ (x : Slot). slot_before (slice_index_or xs i d) x) (get_or-take n xs j d (omega arith)) ∙ up i j d l (omega arith)

pub entries_lawful : (xs : List Slot) (n : ℕ) (b : Bytes) → Ascending slot_before xs n → Lawful (entries (take n xs) b) 400
entries_lawful xs n b up = record { ascends = ascends_entries (take n xs) b (ascending_front xs n up); short = omega arith; keys = well_entries (take n xs) b }
