-- The least key under a prefix that comes after given bytes stands where two searches meet.
-- Assumes nothing.
use Rattle.std.proofs.Common.{◌≡◌, ℕ, ◌<◌, ◌≤◌, max, true, false, ◌⊎◌, [], ◌∷◌, ◌++◌, length, Some, None, Option, sym, refl, ap, ◌∙◌, inl, inr, arith}
use Rattle.std.proofs.lemmas.Bool.{both_ways, cases_order, cases_lt}
use Rattle.std.proofs.lemmas.List.{append-nil}
use Rattle.text.specs.Bytes.{Bytes, before, stripped}
use Rattle.text.proofs.Order.{before-alone, before_asym}
use Rattle.stores.specs.Pairs.{Pairs, Ascends, when, keys_under, next_key}
use Rattle.runs.specs.Places.{key_at}
use Rattle.runs.specs.Search.{Parted}
use Rattle.runs.proofs.Parted.{strip_parts, longer_not_before, before-next, next-before, past_prefix}
use Rattle.runs.proofs.Least.{least_by}
use Rattle.runs.proofs.ByPlace.{ascends_at, key_at_lem, key_of}

-- a key that is listed is the key itself, and begins with the prefix
when_is : (o : Option Bytes) (k y : Bytes) → when o k ≡ Some y → ((t : Bytes) × (o ≡ Some t)) × (k ≡ y)
when_is None k y e = absurd (cc)
when_is (Some t) k y e = ((t, refl), grind arith)

module _ (ps : Pairs) (a : Ascends ps) (p after : Bytes) (u b i : ℕ) (s : Parted (p ++ []) ps u) (t : Parted (after ++ (0 ∷ [])) ps b) (m : i ≡ max u b) where
  hu : u ≤ i
  hu = omega arith

  hb : b ≤ i
  hb = omega arith

  w : (i ≡ u) ⊎ (i ≡ b)
  w = by (cases_lt u b)
    where
      by : (u < b) ⊎ (b ≤ u) → (i ≡ u) ⊎ (i ≡ b)
      by (inl h) = inr (omega arith)
      by (inr h) = inl (omega arith)

  -- no key before the place is listed
  low : (j : ℕ) (y : Bytes) → j < i → when (stripped p (key_at ps j)) (key_at ps j) ≡ Some y → before after y ≡ false
  low j y h e = by w
    where
      q : ((r : Bytes) × (stripped p (key_at ps j) ≡ Some r)) × (key_at ps j ≡ y)
      q = when_is (stripped p (key_at ps j)) (key_at ps j) y e

      by : (i ≡ u) ⊎ (i ≡ b) → before after y ≡ false
      by (inl f) =
          let n : before (key_at ps j) p ≡ false = ap (λ (x : Bytes). before x p) (strip_parts p (key_at ps j) q.0.0 q.0.1) ∙ longer_not_before p q.0.0 in
          absurd (both_ways (before (key_at ps j) p) n (ap (before (key_at ps j)) (sym (append-nil p)) ∙ s.low j (omega arith)))
      by (inr f) = ap (before after) (sym q.1) ∙ before-next after (key_at ps j) (t.low j (omega arith))

  pub none_left : length ps ≤ i → next_key p after ps ≡ None
  none_left h = least_by after (keys_under p ps) None (λ y m. let k = key_at_lem p ps y m in low k.0 y (omega (arith, k.1)) k.2)

  pub none_under : i < length ps → stripped p (key_at ps i) ≡ None → next_key p after ps ≡ None
  none_under h n = least_by after (keys_under p ps) None (λ y m. each y (key_at_lem p ps y m))
    where
      clear : (j : ℕ) → i < j → j < length ps → stripped p (key_at ps j) ≡ None
      clear j l g = past_prefix p [] (key_at ps i) (key_at ps j) (s.high i hu h) n (ascends_at ps i j a l g)

      never : (j : ℕ) (y : Bytes) → stripped p (key_at ps j) ≡ None → when (stripped p (key_at ps j)) (key_at ps j) ≡ Some y → ⊥
      never j y c e = cc

      each : (y : Bytes) → (j : ℕ) × (j < length ps) × (when (stripped p (key_at ps j)) (key_at ps j) ≡ Some y) → before after y ≡ false
      each y k = by (cases_order k.0 i)
        where
          by : (k.0 ≡ i) ⊎ ((k.0 < i) ⊎ (i < k.0)) → before after y ≡ false
          by (inl q) = absurd (never k.0 y (ap (λ (x : ℕ). stripped p (key_at ps x)) q ∙ n) k.2)
          by (inr (inl q)) = low k.0 y q k.2
          by (inr (inr q)) = absurd (never k.0 y (clear k.0 q k.1) k.2)

  pub next_here : (r : Bytes) → i < length ps → stripped p (key_at ps i) ≡ Some r → next_key p after ps ≡ Some (key_at ps i)
  next_here r h n = least_by after (keys_under p ps) (Some (key_at ps i)) (key_of p ps (key_at ps i) i h (ap (λ (o : Option Bytes). when o (key_at ps i)) n), next-before after (key_at ps i) (t.high i hb h), λ y m g. each y (key_at_lem p ps y m) g)
    where
      each : (y : Bytes) → (j : ℕ) × (j < length ps) × (when (stripped p (key_at ps j)) (key_at ps j) ≡ Some y) → before after y ≡ true → before y (key_at ps i) ≡ false
      each y k g = by (cases_order k.0 i)
        where
          y_is : key_at ps k.0 ≡ y
          y_is = (when_is (stripped p (key_at ps k.0)) (key_at ps k.0) y k.2).1

          by : (k.0 ≡ i) ⊎ ((k.0 < i) ⊎ (i < k.0)) → before y (key_at ps i) ≡ false
          by (inl q) = ap (λ (x : Bytes). before x (key_at ps i)) (sym y_is ∙ ap (key_at ps) q) ∙ before-alone (key_at ps i)
          by (inr (inl q)) = absurd (both_ways (before after y) (low k.0 y q k.2) g)
          by (inr (inr q)) = ap (λ (x : Bytes). before x (key_at ps i)) (sym y_is) ∙ before_asym (key_at ps i) (key_at ps k.0) (ascends_at ps i k.0 a q k.1)
