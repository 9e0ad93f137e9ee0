-- What the search for the next child finds among pairs in the order of their keys. The child of a key under a prefix is the part behind the prefix and before the next `/`.
-- Assumes nothing.
use Rattle.std.specs.Prelude.{◌≡◌, ℕ, ◌+◌, ◌<◌, ◌≤◌, Bool, true, false, ◌∷◌, ◌++◌, length, take, drop, Some, None, Option, ◌≢◌}
use Rattle.text.specs.Bytes.{Bytes, before, stripped}
use Rattle.stores.specs.Pairs.{Pairs, within, segment}
use Rattle.runs.specs.declared.children.Child.{Child}
use Rattle.runs.specs.Places.{key_at}

-- how long the part of a text before its first `/` is, or none if there is no `/`
abbrev pub Cut : Bytes → Option ℕ → Type 0
Cut t None = segment t ≡ None
Cut t (Some n) = (n < length t) × (segment t ≡ Some (take n t))

-- whether some key is a text, `/` and more
abbrev pub Leads : Pairs → Bytes → Bool → Type 0
Leads ps f true = (i : ℕ) × (i < length ps) × ((m : Bytes) × (key_at ps i ≡ f ++ (47 ∷ m)))
Leads ps f false = (i : ℕ) (m : Bytes) → i < length ps → key_at ps i ≢ f ++ (47 ∷ m)

-- no key before a place has a child after the given bytes
abbrev pub Passed : Pairs → Bytes → Bytes → ℕ → Type 0
Passed ps p after i = (j : ℕ) (t : Bytes) → j < i → j < length ps → within (stripped p (key_at ps j)) ≡ Some t → before after t ≡ false

-- the first key that has one, and its child
abbrev pub Opening : Pairs → Bytes → Bytes → Option Child → Type 0
Opening ps p after None = Passed ps p after (length ps)
Opening ps p after (Some c) =
    (c.place < length ps) × Passed ps p after c.place
    × (length p + c.len ≤ length (key_at ps c.place))
    × (within (stripped p (key_at ps c.place)) ≡ Some (take c.len (drop (length p) (key_at ps c.place))))
    × (before after (take c.len (drop (length p) (key_at ps c.place))) ≡ true)

-- whether the m bytes of a key behind its first `from` come after the given bytes and have keys below them
abbrev pub Offers : Pairs → Bytes → ℕ → Bytes → ℕ → Bool → Type 0
Offers ps key from after m true = (before after (take m (drop from key)) ≡ true) × Leads ps (take (from + m) key) true
Offers ps key from after m false = before after (take m (drop from key)) ≡ true → Leads ps (take (from + m) key) false

-- the least m below n of which that holds, or n
pub record First (ps : Pairs) (key : Bytes) (from : ℕ) (after : Bytes) (n r : ℕ) : Type 0 where
  pub within : r ≤ n
  pub low : (m : ℕ) → m < r → Offers ps key from after m false
  pub here : r < n → Offers ps key from after r true
