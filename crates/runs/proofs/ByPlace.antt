-- Pairs by their place: their order, and what is looked up and listed in them.
-- Assumes nothing.
use Rattle.std.proofs.Common.{◌≡◌, ℕ, zero, suc, ◌+◌, ◌<◌, ◌≤◌, true, false, ◌⊎◌, List, [], ◌∷◌, length, Some, None, Option, sym, refl, ap, ◌∙◌, subst, inl, inr, ⊎_elim, eq-or-lt_of_le, arith}
use Rattle.text.specs.Bytes.{Bytes, same, before, stripped}
use Rattle.text.specs.Utf8.{In}
use Rattle.text.proofs.Order.{before_trans}
use Rattle.stores.specs.Pairs.{Pairs, AllAbove, Ascends, lookup, added, when, within, keys_under, children}
use Rattle.runs.specs.Places.{key_at, value_at}
use Rattle.runs.proofs.Parted.{not_before_on}

pub above_at : (k : Bytes) (ps : Pairs) (i : ℕ) → AllAbove k ps → i < length ps → before k (key_at ps i) ≡ true
above_at k [] i a h = absurd (omega arith)
above_at k (b ∷ ps) zero a h = a.0
above_at k (b ∷ ps) (suc i) a h = above_at k ps i a.1 (omega arith)

pub ascends_at : (ps : Pairs) (i j : ℕ) → Ascends ps → i < j → j < length ps → before (key_at ps i) (key_at ps j) ≡ true
ascends_at [] i j a l h = absurd (omega arith)
ascends_at (b ∷ ps) i zero a l h = absurd (omega arith)
ascends_at (b ∷ ps) zero (suc j) a l h = above_at b.key ps j a.0 (omega arith)
ascends_at (b ∷ ps) (suc i) (suc j) a l h = ascends_at ps i j a.1 (omega arith) (omega arith)

-- ---- one turn of halving

pub low_on : (ps : Pairs) (t : Bytes) (m : ℕ) → Ascends ps → m < length ps → before (key_at ps m) t ≡ true → (i : ℕ) → i < m + 1 → before (key_at ps i) t ≡ true
low_on ps t m a h b i l =
    let le : i ≤ m = omega arith in
    ⊎_elim (λ (e : i ≡ m). ap (λ (x : ℕ). before (key_at ps x) t) e ∙ b) (λ (e : i < m). before_trans (key_at ps i) (key_at ps m) t (ascends_at ps i m a e h) b) (eq-or-lt_of_le le)

pub high_on : (ps : Pairs) (t : Bytes) (m : ℕ) → Ascends ps → before (key_at ps m) t ≡ false → (i : ℕ) → m ≤ i → i < length ps → before (key_at ps i) t ≡ false
high_on ps t m a b i l h =
    ⊎_elim (λ (e : m ≡ i). ap (λ (x : ℕ). before (key_at ps x) t) (sym e) ∙ b) (λ (e : m < i). not_before_on (key_at ps m) (key_at ps i) t (ascends_at ps m i a e h) b) (eq-or-lt_of_le l)

-- ---- what is looked up

pub lookup_at : (k : Bytes) (ps : Pairs) (i : ℕ) → i < length ps → same k (key_at ps i) ≡ true → ((j : ℕ) → j < i → same k (key_at ps j) ≡ false) → lookup k ps ≡ Some (value_at ps i)
lookup_at k [] i h s f = absurd (omega arith)
lookup_at k (a ∷ ps) zero h s f = rw s
lookup_at k (a ∷ ps) (suc i) h s f =
    let e : same k a.key ≡ false = f 0 (omega arith) in
    let ih = lookup_at k ps i (omega arith) s (λ j l. f (suc j) (omega arith)) in
    rw e ih

pub lookup_none : (k : Bytes) (ps : Pairs) → ((j : ℕ) → j < length ps → same k (key_at ps j) ≡ false) → lookup k ps ≡ None
lookup_none k [] f = refl
lookup_none k (a ∷ ps) f =
    let e : same k a.key ≡ false = f 0 (omega arith) in
    rw e (lookup_none k ps (λ j l. f (suc j) (omega arith)))

-- ---- what is listed

-- by what each key adds to a list
abbrev listed : (Bytes → Option Bytes) → Pairs → List Bytes
listed f [] = []
listed f (a ∷ ps) = added (f a.key) (listed f ps)

in_added : (o : Option Bytes) (xs : List Bytes) (y : Bytes) → In y (added o xs) → (o ≡ Some y) ⊎ In y xs
in_added None xs y i = inr i
in_added (Some x) xs y (inl e) = inl (ap Some (sym e))
in_added (Some x) xs y (inr i) = inr i

added-first : (o : Option Bytes) (xs : List Bytes) (y : Bytes) → o ≡ Some y → In y (added o xs)
added-first None xs y e = absurd (cc)
added-first (Some x) xs y e = inl (grind arith)

added_rest : (o : Option Bytes) (xs : List Bytes) (y : Bytes) → In y xs → In y (added o xs)
added_rest None xs y i = i
added_rest (Some x) xs y i = inr i

listed_at : (f : Bytes → Option Bytes) (ps : Pairs) (y : Bytes) → In y (listed f ps) → (i : ℕ) × (i < length ps) × (f (key_at ps i) ≡ Some y)
listed_at f [] y i = absurd i
listed_at f (a ∷ ps) y i = by (in_added (f a.key) (listed f ps) y i) (listed_at f ps y)
  where
    on : (i : ℕ) × (i < length ps) × (f (key_at ps i) ≡ Some y) → (i : ℕ) × (i < length (a ∷ ps)) × (f (key_at (a ∷ ps) i) ≡ Some y)
    on w = (suc w.0, omega arith, w.2)

    by : (f a.key ≡ Some y) ⊎ In y (listed f ps) → (In y (listed f ps) → (i : ℕ) × (i < length ps) × (f (key_at ps i) ≡ Some y)) → (i : ℕ) × (i < length (a ∷ ps)) × (f (key_at (a ∷ ps) i) ≡ Some y)
    by (inl e) g = (0, omega arith, e)
    by (inr j) g = on (g j)

listed_of : (f : Bytes → Option Bytes) (ps : Pairs) (y : Bytes) (i : ℕ) → i < length ps → f (key_at ps i) ≡ Some y → In y (listed f ps)
listed_of f [] y i h e = absurd (omega arith)
listed_of f (a ∷ ps) y zero h e = added-first (f a.key) (listed f ps) y e
listed_of f (a ∷ ps) y (suc i) h e = added_rest (f a.key) (listed f ps) y (listed_of f ps y i (omega arith) e)

keys_listed : (p : Bytes) (ps : Pairs) → keys_under p ps ≡ listed (λ k. when (stripped p k) k) ps
keys_listed p [] = refl
keys_listed p (a ∷ ps) = ap (added (when (stripped p a.key) a.key)) (keys_listed p ps)

children-listed : (p : Bytes) (ps : Pairs) → children p ps ≡ listed (λ k. within (stripped p k)) ps
children-listed p [] = refl
children-listed p (a ∷ ps) = ap (added (within (stripped p a.key))) (children-listed p ps)

pub key_at_lem : (p : Bytes) (ps : Pairs) (y : Bytes) → In y (keys_under p ps) → (i : ℕ) × (i < length ps) × (when (stripped p (key_at ps i)) (key_at ps i) ≡ Some y)
key_at_lem p ps y i = listed_at (λ k. when (stripped p k) k) ps y (subst (λ (l : List Bytes). In y l) (keys_listed p ps) i)

pub key_of : (p : Bytes) (ps : Pairs) (y : Bytes) (i : ℕ) → i < length ps → when (stripped p (key_at ps i)) (key_at ps i) ≡ Some y → In y (keys_under p ps)
key_of p ps y i h e = subst (λ (l : List Bytes). In y l) (sym (keys_listed p ps)) (listed_of (λ k. when (stripped p k) k) ps y i h e)

pub child_at : (p : Bytes) (ps : Pairs) (y : Bytes) → In y (children p ps) → (i : ℕ) × (i < length ps) × (within (stripped p (key_at ps i)) ≡ Some y)
child_at p ps y i = listed_at (λ k. within (stripped p k)) ps y (subst (λ (l : List Bytes). In y l) (children-listed p ps) i)

pub child_of : (p : Bytes) (ps : Pairs) (y : Bytes) (i : ℕ) → i < length ps → within (stripped p (key_at ps i)) ≡ Some y → In y (children p ps)
child_of p ps y i h e = subst (λ (l : List Bytes). In y l) (sym (children-listed p ps)) (listed_of (λ k. within (stripped p k)) ps y i h e)
