-- A place in a run of pairs, found by the order of the keys.
-- Assumes nothing.
use Rattle.std.specs.Prelude.{◌≡◌, ℕ, ◌<◌, ◌≤◌, true, false, length, Some, None, Option}
use Rattle.text.specs.Bytes.{Bytes, before}
use Rattle.stores.specs.Pairs.{Pairs, lookup}
use Rattle.runs.specs.Places.{key_at, value_at}

-- the pairs whose key comes before a text are the first n
pub record Parted (t : Bytes) (ps : Pairs) (n : ℕ) : Type 0 where
  pub within : n ≤ length ps
  pub low : (i : ℕ) → i < n → before (key_at ps i) t ≡ true
  pub high : (i : ℕ) → n ≤ i → i < length ps → before (key_at ps i) t ≡ false

-- where a key stands, if it is there
abbrev pub Located : Pairs → Bytes → Option ℕ → Type 0
Located ps k None = lookup k ps ≡ None
Located ps k (Some i) = (i < length ps) × (key_at ps i ≡ k) × (lookup k ps ≡ Some (value_at ps i))
