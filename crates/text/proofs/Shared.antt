-- What the library says of byte strings, in the words of specs/Bytes: equality, a prefix, the order, the first place where two differ.
-- Assumes nothing.
use Rattle.std.proofs.Common.{◌≡◌, ℕ, suc, ◌+◌, ◌<◌, ◌≤◌, Bool, true, false, not, cond, ◌&&◌, eqb, ltb, ◌⊎◌, [], ◌∷◌, length, take, is_some, Some, None, Less, Greater, sym, refl, ap, ◌∙◌, inl, inr, arith, le-ltb, lt-ltb, eq-eqb, ne_eqb}
use Rattle.std.specs.Cmp.Lexicographic.{pointwise, slice_cmp}
use Rattle.std.specs.Ordering.{nat_cmp}
use Rattle.std.specs.List.{zip, find, prefix_len}
use Rattle.std.proofs.lemmas.Bool.Decides.{nat_tests}
use Rattle.text.specs.Bytes.{Bytes, same, before_by, ordering, byte_order, order_by, stripped}
use Rattle.text.proofs.Order.{order}

pub bools_agree : (a b : Bool) → (a ≡ true → b ≡ true) → (b ≡ true → a ≡ true) → a ≡ b
bools_agree true b f g = sym (f refl)
bools_agree false true f g = g refl
bools_agree false false f g = refl

-- ---- `==`, `starts_with`, `cmp`
pub same_is : (a b : Bytes) → pointwise eqb a b ≡ same a b
same_is [] [] = refl
same_is [] (y ∷ ys) = refl
same_is (x ∷ xs) [] = refl
same_is (x ∷ xs) (y ∷ ys) =
    elim (eqb x y) as (λ t. (t && pointwise eqb xs ys) ≡ cond t (same xs ys) false) [ true ↦ same_is xs ys | false ↦ refl ]

pub begins_is : (p t : Bytes) → pointwise eqb p (take (length p) t) ≡ is_some (stripped p t)
begins_is [] t = refl
begins_is (x ∷ p) [] = refl
begins_is (x ∷ p) (y ∷ t) =
    elim (eqb x y) as (λ b. (b && pointwise eqb p (take (length p) t)) ≡ is_some (cond b (stripped p t) None)) [ true ↦ begins_is p t | false ↦ refl ]

pub cmp_is : (a b : Bytes) → slice_cmp nat_cmp a b ≡ byte_order a b
cmp_is [] [] = refl
cmp_is [] (y ∷ ys) = refl
cmp_is (x ∷ xs) [] = refl
cmp_is (x ∷ xs) (y ∷ ys) = by (order x y) (cmp_is xs ys)
  where
    by : (x < y) ⊎ ((x ≡ y) ⊎ (y < x)) → slice_cmp nat_cmp xs ys ≡ byte_order xs ys → slice_cmp nat_cmp (x ∷ xs) (y ∷ ys) ≡ byte_order (x ∷ xs) (y ∷ ys)
    by (inl l) i = rw (lt-ltb x y l, ne_eqb x y (λ e. omega arith)) refl
    by (inr (inl e)) i = rw (le-ltb x y (omega arith), eq-eqb x y e) i
    by (inr (inr l)) i = rw (le-ltb x y (omega arith), ne_eqb x y (λ e. omega arith)) refl

-- ---- the first pair that differs
abbrev pub alike : ℕ × ℕ → Bool
alike p = eqb p.0 p.1

pub shared_within : (a b : Bytes) → (prefix_len alike (zip a b) ≤ length a) × (prefix_len alike (zip a b) ≤ length b)
shared_within [] b = (omega arith, omega arith)
shared_within (x ∷ a) [] = (omega arith, omega arith)
shared_within (x ∷ a) (y ∷ b) =
    let i = shared_within a b in
    elim (eqb x y) as (λ t. (cond t (1 + prefix_len alike (zip a b)) 0 ≤ length (x ∷ a)) × (cond t (1 + prefix_len alike (zip a b)) 0 ≤ length (y ∷ b)))
    [ true ↦ (omega arith, omega arith) | false ↦ (omega arith, omega arith) ]

pub shared_take : (a b : Bytes) → take (prefix_len alike (zip a b)) a ≡ take (prefix_len alike (zip a b)) b
shared_take [] [] = refl
shared_take [] (y ∷ b) = refl
shared_take (x ∷ a) [] = refl
shared_take (x ∷ a) (y ∷ b) = by (eqb x y) refl (shared_take a b)
  where
    by : (t : Bool) → eqb x y ≡ t → take (prefix_len alike (zip a b)) a ≡ take (prefix_len alike (zip a b)) b → take (cond t (1 + prefix_len alike (zip a b)) 0) (x ∷ a) ≡ take (cond t (1 + prefix_len alike (zip a b)) 0) (y ∷ b)
    by true e i = let j : x ≡ y = grind (arith, nat_tests) in grind arith
    by false e i = grind arith

cmp_longer : (m n : ℕ) → nat_cmp (suc m) (suc n) ≡ nat_cmp m n
cmp_longer m n = grind (arith, nat_tests)

module _ (rank : ℕ → ℕ) where
  abbrev pub ranked : ℕ × ℕ → Bool
  ranked p = ltb (rank p.0) (rank p.1)

  pub differs_at : (a b : Bytes) (p : ℕ × ℕ) → find (λ q. not (alike q)) (zip a b) ≡ Some p → order_by rank a b ≡ cond (ranked p) Less Greater
  differs_at [] b p e = grind arith
  differs_at (x ∷ a) [] p e = grind arith
  differs_at (x ∷ a) (y ∷ b) p e =
      (elim (eqb x y) as (λ t. cond (not t) (Some (x, y)) (find (λ q. not (alike q)) (zip a b)) ≡ Some p → ordering (cond t (same a b) false) (cond t (before_by rank a b) (ltb (rank x) (rank y))) ≡ cond (ranked p) Less Greater) [
        | true ↦ λ f. differs_at a b p f
        | false ↦ λ f. let j : (x, y) ≡ p = cc in ap (λ q. cond (ranked q) Less Greater) j
      ]) e

  pub differs_nowhere : (a b : Bytes) → find (λ q. not (alike q)) (zip a b) ≡ None → order_by rank a b ≡ nat_cmp (length a) (length b)
  differs_nowhere [] [] e = refl
  differs_nowhere [] (y ∷ b) e = rw (lt-ltb 0 (length (y ∷ b)) (omega arith)) refl
  differs_nowhere (x ∷ a) [] e = rw (le-ltb (length (x ∷ a)) 0 (omega arith), ne_eqb (length (x ∷ a)) 0 (λ h. omega arith)) refl
  differs_nowhere (x ∷ a) (y ∷ b) e =
      (elim (eqb x y) as (λ t. cond (not t) (Some (x, y)) (find (λ q. not (alike q)) (zip a b)) ≡ None → ordering (cond t (same a b) false) (cond t (before_by rank a b) (ltb (rank x) (rank y))) ≡ nat_cmp (length (x ∷ a)) (length (y ∷ b))) [
        | true ↦ λ f. differs_nowhere a b f ∙ sym (cmp_longer (length a) (length b))
        | false ↦ λ f. grind arith
      ]) e
