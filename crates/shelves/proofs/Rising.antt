-- What a place among ascending slots says of the keys.
-- Assumes nothing.
use Rattle.std.proofs.Common.{◌≡◌, ℕ, ◌+◌, ◌<◌, ◌≤◌, true, List, length, get_or, take, drop, ap, ◌∙◌, arith}
use Rattle.std.proofs.lemmas.List.{get_or-take, get_or-drop, length-take-le, length-take, length-drop}
use Rattle.text.specs.Bytes.{Bytes}
use Rattle.keys.specs.Values.{key_text}
use Rattle.stores.specs.Pairs.{AllAbove}
use Rattle.shelves.specs.declared.slot.Slot.{Slot}
use Rattle.shelves.specs.Slots.{slot_before, entries}
use Rattle.shelves.specs.Ranks.{by_keys}
use Rattle.shelves.specs.Holds.{above_entries}
use Rattle.shelves.proofs.Sought.{AllBelow, below_entries}

-- what comes before a place has smaller keys, and what comes from there on greater ones
pub front_below : (xs : List Slot) (n i : ℕ) (x : Slot) (b : Bytes) → i ≤ n → ((k : ℕ) (d : Slot) → k < i → slot_before (get_or xs k d) x ≡ true) → AllBelow (key_text x.key) (entries (take i (take n xs)) b)
front_below xs n i x b le h =
    below_entries (key_text x.key) (take i (take n xs)) b
    (λ j d l.
    let m = length-take i (take n xs) in
    let e : get_or (take i (take n xs)) j d ≡ get_or xs j d = get_or-take i (take n xs) j d (omega arith) ∙ get_or-take n xs j d (omega arith) in
    by_keys (get_or (take i (take n xs)) j d) x ∙ ap (λ (s : Slot). slot_before s x) e ∙ h j d (omega arith))

pub back_above : (xs : List Slot) (n i : ℕ) (x : Slot) (b : Bytes) → n ≤ length xs → ((k : ℕ) (d : Slot) → i ≤ k → k < n → slot_before x (get_or xs k d) ≡ true) → AllAbove (key_text x.key) (entries (drop i (take n xs)) b)
back_above xs n i x b w h =
    above_entries (key_text x.key) (drop i (take n xs)) b
    (λ j d l.
    let m = length-drop i (take n xs) in
    let t = length-take-le n xs w in
    let e : get_or (drop i (take n xs)) j d ≡ get_or xs (i + j) d = get_or-drop i (take n xs) j d ∙ get_or-take n xs (i + j) d (omega arith) in
    by_keys x (get_or (drop i (take n xs)) j d) ∙ ap (λ (s : Slot). slot_before x s) e ∙ h (i + j) d (omega arith) (omega arith))
