-- What a search tells of a key, and the outcome of a question.
-- Assumes nothing.
use Rattle.std.proofs.Common.{◌≡◌, ℕ, ◌-◌, ◌<◌, ◌≤◌, Bool, true, false, ◌&&◌, leb, ◌⊎◌, [], ◌++◌, length, Some, None, Err, Option, sym, ap, ◌∙◌, inl, inr, arith}
use Rattle.std.proofs.lemmas.Bool.{both_ways, cases_Bool, cases_order, leb-true, le-leb}
use Rattle.std.proofs.lemmas.List.{append-nil}
use Rattle.text.specs.Bytes.{Bytes, same, before}
use Rattle.text.specs.Utf8.{is_text}
use Rattle.text.proofs.Order.{same_eq, same_refl, before-alone, before_not_same, before_trans}
use Rattle.text.proofs.Shared.{bools_agree}
use Rattle.keys.specs.declared.fault.StoreFault.TheVariants.{Malformed}
use Rattle.keys.specs.Keys.{prefix_form, is_key, is_prefix}
use Rattle.stores.specs.WellFormed.{well_prefix}
use Rattle.stores.specs.Pairs.{Pairs, Ascends, lookup, next_key, next_child}
use Rattle.stores.specs.Answers.{got, guarded, fitted, key_after, child_after}
use Rattle.stores.proofs.Changes.{turned}
use Rattle.runs.specs.Places.{key_at, value_at}
use Rattle.runs.specs.Search.{Parted}
use Rattle.runs.proofs.ByPlace.{ascends_at, lookup_at, lookup_none}

-- ---- the tests

pub well_prefix_lem : (p : Bytes) → is_prefix p ≡ well_prefix 400 p
well_prefix_lem p = ap (λ (b : Bool). prefix_form true p && (b && is_text p)) (bools_agree (leb (length p) 401) (leb (length p - 1) 400) (λ e. le-leb (length p - 1) 400 (omega (arith, leb-true (length p) 401 e))) (λ e. le-leb (length p) 401 (omega (arith, leb-true (length p - 1) 400 e))))

-- ---- outcomes

pub got_of : (ps : Pairs) (k : Bytes) (n : ℕ) (o : Option Bytes) → is_key k ≡ true → lookup k ps ≡ o → got 400 ps k n ≡ fitted n o
got_of ps k n o w e = ap (λ (b : Bool). guarded b (fitted n (lookup k ps))) w ∙ ap (fitted n) e

pub key_after_of : (ps : Pairs) (p after : Bytes) (n : ℕ) (o : Option Bytes) → is_prefix p ≡ true → next_key p after ps ≡ o → key_after 400 ps p after n ≡ fitted n o
key_after_of ps p after n o w e = ap (λ (b : Bool). guarded b (fitted n (next_key p after ps))) (sym (well_prefix_lem p) ∙ w) ∙ ap (fitted n) e

pub key_after_malformed : (ps : Pairs) (p after : Bytes) (n : ℕ) → is_prefix p ≡ false → key_after 400 ps p after n ≡ Err Malformed
key_after_malformed ps p after n w = ap (λ (b : Bool). guarded b (fitted n (next_key p after ps))) (sym (well_prefix_lem p) ∙ w)

pub child_after_of : (ps : Pairs) (p after : Bytes) (n : ℕ) (o : Option Bytes) → is_prefix p ≡ true → next_child p after ps ≡ o → child_after 400 ps p after n ≡ fitted n o
child_after_of ps p after n o w e = ap (λ (b : Bool). guarded b (fitted n (next_child p after ps))) (sym (well_prefix_lem p) ∙ w) ∙ ap (fitted n) e

pub child_after_malformed : (ps : Pairs) (p after : Bytes) (n : ℕ) → is_prefix p ≡ false → child_after 400 ps p after n ≡ Err Malformed
child_after_malformed ps p after n w = ap (λ (b : Bool). guarded b (fitted n (next_child p after ps))) (sym (well_prefix_lem p) ∙ w)

-- ---- a key among those before it and the others

other : (x k : Bytes) → before x k ≡ true → same k x ≡ false
other x k h = by (cases_Bool (same k x))
  where
    by : (same k x ≡ true) ⊎ (same k x ≡ false) → same k x ≡ false
    by (inl e) = absurd (both_ways (before x k) (ap (before x) (same_eq k x e) ∙ before-alone x) h)
    by (inr e) = e

module _ (ps : Pairs) (a : Ascends ps) (k : Bytes) (i : ℕ) (s : Parted (k ++ []) ps i) where
  low : (j : ℕ) → j < i → same k (key_at ps j) ≡ false
  low j h = other (key_at ps j) k (ap (before (key_at ps j)) (sym (append-nil k)) ∙ s.low j h)

  pub absent_end : length ps ≤ i → lookup k ps ≡ None
  absent_end h = lookup_none k ps (λ j l. low j (omega arith))

  pub present : i < length ps → same k (key_at ps i) ≡ true → lookup k ps ≡ Some (value_at ps i)
  present h e = lookup_at k ps i h e low

  pub absent_here : i < length ps → same k (key_at ps i) ≡ false → lookup k ps ≡ None
  absent_here h e = lookup_none k ps each
    where
      first : before k (key_at ps i) ≡ true
      first = by (cases_Bool (same (key_at ps i) k))
        where
          by : (same (key_at ps i) k ≡ true) ⊎ (same (key_at ps i) k ≡ false) → before k (key_at ps i) ≡ true
          by (inl q) = absurd (both_ways (same k (key_at ps i)) e (ap (same k) (same_eq (key_at ps i) k q) ∙ same_refl k))
          by (inr q) = turned (key_at ps i) k q (ap (before (key_at ps i)) (sym (append-nil k)) ∙ s.high i (omega arith) h)

      each : (j : ℕ) → j < length ps → same k (key_at ps j) ≡ false
      each j l = by (cases_order j i)
        where
          by : (j ≡ i) ⊎ ((j < i) ⊎ (i < j)) → same k (key_at ps j) ≡ false
          by (inl q) = ap (λ (x : ℕ). same k (key_at ps x)) q ∙ e
          by (inr (inl q)) = low j q
          by (inr (inr q)) = before_not_same k (key_at ps j) (before_trans k (key_at ps i) (key_at ps j) first (ascends_at ps i j a q l))
