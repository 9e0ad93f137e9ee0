-- What the shelf takes, in plain words, so that a contract can name it.
-- Assumes nothing.
use Rattle.std.specs.Prelude.{◌≡◌, ℕ, ◌≤◌, true, length}
use Rattle.text.specs.Bytes.{Bytes}
use Rattle.stores.specs.Pairs.{Pairs, inserted}
use Rattle.shelves.specs.Slots.{weight, taken}

-- the pairs are not more than the slots, and their values together not longer than the bytes
abbrev pub Fit : ℕ → ℕ → Pairs → Type 0
Fit slots bytes ps = (length ps ≤ slots) × (weight ps ≤ bytes)

-- Whatever a shelf of so many slots and bytes holds, and in whatever order it came to that: a value is taken exactly if the pairs with it fit.
abbrev pub TakesExactly : Type 0
TakesExactly = (slots bytes : ℕ) (ps : Pairs) (k v : Bytes) → (taken slots bytes ps k (length v) ≡ true → Fit slots bytes (inserted k v ps)) × (Fit slots bytes (inserted k v ps) → taken slots bytes ps k (length v) ≡ true)
