-- A total order from two tests, one of equality and one of which comes first.
-- Assumes nothing.
use Rattle.std.proofs.Common.{◌≡◌, Bool, true, false, ◌⊎◌, sym, refl, ap, ◌∙◌, subst, inl, inr}
use borrow.Author.Tests.{clash}
use Rattle.std.specs.Cmp.{IsTotalOrder, IsEquivalence, strict}
use Rattle.std.specs.Ordering.{is_lt, is_eq, eq_by_cmp, MatchOrdering}
use Rattle.text.specs.Bytes.{Bytes, same, before, ordering, byte_order}
use Rattle.text.proofs.Order.{same_refl, same_eq, before-alone, before_trans, before_either}
use Rattle.text.proofs.Shared.{bools_agree}

-- such an order says equal exactly where the test of equality does
pub ties : (a b : Bool) → a ≡ is_eq (ordering a b)
ties true b = refl
ties false true = refl
ties false false = refl

module _ {K : Type 0} (alike first : K → K → Bool)
    (itself : (x : K) → alike x x ≡ true) (equal : (x y : K) → alike x y ≡ true → x ≡ y) (alone : (x : K) → first x x ≡ false)
    (chain : (x y z : K) → first x y ≡ true → first y z ≡ true → first x z ≡ true)
    (either : (x y : K) → (first x y ≡ true) ⊎ ((x ≡ y) ⊎ (first y x ≡ true))) where
  abbrev pub First : K → K → Type 0
  First x y = first x y ≡ true

  not_first : (x : K) → First x x → ⊥
  not_first x h = clash (sym (alone x) ∙ h)

  pub unlike : (x y : K) → alike x y ≡ false → x ≡ y → ⊥
  unlike x y h e = clash (sym h ∙ subst (λ z. alike x z ≡ true) e (itself x))

  -- of two that are not the same, one comes first
  pub other_first : (x y : K) → alike x y ≡ false → first x y ≡ false → first y x ≡ true
  other_first x y e f = by (either x y)
    where
      by : (first x y ≡ true) ⊎ ((x ≡ y) ⊎ (first y x ≡ true)) → first y x ≡ true
      by (inl h) = absurd (clash (sym f ∙ h))
      by (inr (inl h)) = absurd (unlike x y e h)
      by (inr (inr h)) = h

  ranked : (x y : K) → MatchOrdering (ordering (alike x y) (first x y)) (First x y) (x ≡ y) (First y x)
  ranked x y = by (alike x y) (first x y) refl refl
    where
      by : (a b : Bool) → alike x y ≡ a → first x y ≡ b → MatchOrdering (ordering a b) (First x y) (x ≡ y) (First y x)
      by true b e f = equal x y e
      by false true e f = f
      by false false e f = other_first x y e f

  pub total : IsTotalOrder (λ x y. ordering (alike x y) (first x y))
  total = strict First not_first chain (λ x y. ordering (alike x y) (first x y)) ranked

  back : (x y : K) → alike x y ≡ true → alike y x ≡ true
  back x y h = subst (λ z. alike z x ≡ true) (equal x y h) (itself x)

  pub equivalence : IsEquivalence alike
  equivalence = record {
    refl = itself;
    symm = λ x y. bools_agree (alike x y) (alike y x) (back x y) (back y x);
    congr = λ x y z h. ap (λ w. alike w z) (equal x y h);
  }

  pub not_before : (x y : K) → is_lt (ordering (alike x y) (first x y)) ≡ false → first x y ≡ false
  not_before x y h = by (alike x y) (first x y) refl refl h
    where
      by : (a b : Bool) → alike x y ≡ a → first x y ≡ b → is_lt (ordering a b) ≡ false → b ≡ false
      by true false e f g = refl
      by true true e f g = absurd (not_first x (subst (λ z. First x z) (sym (equal x y e)) f))
      by false false e f g = refl
      by false true e f g = g

-- the order by bytes
pub byte_order_total : IsTotalOrder byte_order
byte_order_total = total same before same_refl same_eq before-alone before_trans before_either

pub same_equivalence : IsEquivalence same
same_equivalence = equivalence same before same_refl same_eq before-alone before_trans before_either

pub same_ties : (x y : Bytes) → same x y ≡ eq_by_cmp byte_order x y
same_ties x y = ties (same x y) (before x y)
