-- Pairs in parts: what is inserted or removed between those with smaller keys and those with greater ones.
-- Assumes nothing.
use Rattle.std.proofs.Common.{◌≡◌, ℕ, suc, ◌+◌, ◌<◌, Bool, true, false, List, [], ◌∷◌, ◌++◌, length, get_or, drop, None, sym, refl, ap, ◌∙◌, arith}
use Rattle.text.specs.Bytes.{Bytes, same, before}
use Rattle.text.proofs.Order.{same_refl, same_eq, before_not_same, before_asym, before-alone}
use Rattle.keys.specs.Values.{key_text}
use Rattle.stores.specs.Pairs.{Pair, Pairs, pair, lookup, inserted, removed, AllAbove, Ascends}
use Rattle.stores.proofs.Mounts.{above_trans}
use Rattle.stores.proofs.Changes.{above_absent}
use Rattle.stores.proofs.Absent.{removed-absent}
use Rattle.shelves.specs.declared.slot.Slot.{Slot}
use Rattle.shelves.specs.Slots.{entries, weight}

-- all keys come before k
abbrev pub AllBelow : Bytes → Pairs → Type 0
AllBelow k [] = Unit {0}
AllBelow k (a ∷ ps) = (before a.key k ≡ true) × AllBelow k ps

not_same : (x k : Bytes) → before x k ≡ true → same k x ≡ false
not_same x k h = by (same k x) refl
  where
    by : (b : Bool) → same k x ≡ b → b ≡ false
    by true e = sym h ∙ ap (before x) (same_eq k x e) ∙ before-alone x
    by false e = refl

pub inserted_between : (k v : Bytes) (ps qs : Pairs) → AllBelow k ps → AllAbove k qs → inserted k v (ps ++ qs) ≡ ps ++ (pair k v ∷ qs)
inserted_between k v [] [] l h = refl
inserted_between k v [] (a ∷ qs) l h = let e = before_not_same k a.key h.0 in rw (e, h.0)
inserted_between k v (a ∷ ps) qs l h =
    let e = not_same a.key k l.0 in
    let f = before_asym a.key k l.0 in
    rw (e, f) (ap (λ (xs : Pairs). a ∷ xs) (inserted_between k v ps qs l.1 h))

pub inserted_over : (k v w : Bytes) (ps qs : Pairs) → AllBelow k ps → inserted k v (ps ++ (pair k w ∷ qs)) ≡ ps ++ (pair k v ∷ qs)
inserted_over k v w [] qs l = rw (same_refl k)
inserted_over k v w (a ∷ ps) qs l =
    let e = not_same a.key k l.0 in
    let f = before_asym a.key k l.0 in
    rw (e, f) (ap (λ (xs : Pairs). a ∷ xs) (inserted_over k v w ps qs l.1))

pub removed_between : (k w : Bytes) (ps qs : Pairs) → AllBelow k ps → removed k (ps ++ (pair k w ∷ qs)) ≡ ps ++ qs
removed_between k w [] qs l = rw (same_refl k)
removed_between k w (a ∷ ps) qs l = let e = not_same a.key k l.0 in rw e (ap (λ (xs : Pairs). a ∷ xs) (removed_between k w ps qs l.1))

pub absent_between : (k : Bytes) (ps qs : Pairs) → AllBelow k ps → AllAbove k qs → lookup k (ps ++ qs) ≡ None
absent_between k [] qs l h = above_absent k qs h
absent_between k (a ∷ ps) qs l h = let e = not_same a.key k l.0 in rw e (absent_between k ps qs l.1 h)

-- ---- twice

again_in : (k v w : Bytes) (a : Pair) (ps : Pairs) (s b : Bool) → same k a.key ≡ s → before k a.key ≡ b → inserted k v (inserted k w ps) ≡ inserted k v ps → inserted k v (inserted k w (a ∷ ps)) ≡ inserted k v (a ∷ ps)
again_in k v w a ps true b es eb ih = simp (es, same_refl k)
again_in k v w a ps false true es eb ih = simp (es, eb, same_refl k)
again_in k v w a ps false false es eb ih = simp (es, eb, ih)

pub inserted_again : (k v w : Bytes) (ps : Pairs) → inserted k v (inserted k w ps) ≡ inserted k v ps
inserted_again k v w [] = simp (same_refl k)
inserted_again k v w (a ∷ ps) = again_in k v w a ps (same k a.key) (before k a.key) refl refl (inserted_again k v w ps)

out_in : (k w : Bytes) (a : Pair) (ps : Pairs) (s b : Bool) → same k a.key ≡ s → before k a.key ≡ b → (before k a.key ≡ true → removed k ps ≡ ps) → removed k (inserted k w ps) ≡ removed k ps → removed k (inserted k w (a ∷ ps)) ≡ removed k (a ∷ ps)
out_in k w a ps true b es eb h ih = simp (es, same_refl k)
out_in k w a ps false true es eb h ih = simp (es, eb, same_refl k) (ap (λ (xs : Pairs). a ∷ xs) (sym (h eb)))
out_in k w a ps false false es eb h ih = simp (es, eb, ih)

pub removed-inserted : (k w : Bytes) (ps : Pairs) → Ascends ps → removed k (inserted k w ps) ≡ removed k ps
removed-inserted k w [] h = simp (same_refl k)
removed-inserted k w (a ∷ ps) h =
    out_in k w a ps (same k a.key) (before k a.key) refl refl
    (λ b. removed-absent k ps (above_absent k ps (above_trans k a.key ps b h.0)))
    (removed-inserted k w ps h.1)

-- ---- how much: only the length of the value matters

weigh_in : (k v w : Bytes) (a : Pair) (ps : Pairs) (s b : Bool) → same k a.key ≡ s → before k a.key ≡ b → length v ≡ length w → (length (inserted k v ps) ≡ length (inserted k w ps)) × (weight (inserted k v ps) ≡ weight (inserted k w ps)) → (length (inserted k v (a ∷ ps)) ≡ length (inserted k w (a ∷ ps))) × (weight (inserted k v (a ∷ ps)) ≡ weight (inserted k w (a ∷ ps)))
weigh_in k v w a ps true b es eb h ih = simp (es, h) (refl, refl)
weigh_in k v w a ps false true es eb h ih = simp (es, eb, h) (refl, refl)
weigh_in k v w a ps false false es eb h ih = simp (es, eb) (ap suc ih.0, ap (λ n. length a.value + n) ih.1)

pub weighs_alike : (k v w : Bytes) (ps : Pairs) → length v ≡ length w → (length (inserted k v ps) ≡ length (inserted k w ps)) × (weight (inserted k v ps) ≡ weight (inserted k w ps))
weighs_alike k v w [] h = (refl, ap (λ n. n + 0) h)
weighs_alike k v w (a ∷ ps) h = weigh_in k v w a ps (same k a.key) (before k a.key) refl refl h (weighs_alike k v w ps h)

pub weight-append : (ps qs : Pairs) → weight (ps ++ qs) ≡ weight ps + weight qs
weight-append [] qs = omega arith
weight-append (a ∷ ps) qs = let ih = weight-append ps qs in omega arith

-- ---- from slots

pub below_entries : (k : Bytes) (xs : List Slot) (b : Bytes) → ((j : ℕ) (d : Slot) → j < length xs → before (key_text (get_or xs j d).key) k ≡ true) → AllBelow k (entries xs b)
below_entries k [] b h = tt
below_entries k (s ∷ ss) b h = (h 0 s (omega arith), below_entries k ss (drop s.span.size b) (λ j d l. h (suc j) d (omega arith)))
