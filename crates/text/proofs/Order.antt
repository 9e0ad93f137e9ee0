-- The order by bytes, and a prefix in front of both sides.
-- Assumes nothing.
use Rattle.std.proofs.Common.{◌≡◌, ℕ, ◌<◌, ◌≤◌, Bool, true, false, cond, eqb, ltb, leb, ◌⊎◌, [], ◌∷◌, ◌++◌, Some, None, Less, Equal, Greater, sym, refl, ap, ◌∙◌, inl, inr, arith, lt-ltb, eq-eqb, ne_eqb}
use borrow.Author.Tests.{both_ways}
use Rattle.std.proofs.lemmas.Bool.Decides.{nat_tests, leb_tells}
use Rattle.text.specs.Bytes.{Bytes, same, before, ordering, byte_order, stripped}

pub same_refl : (x : Bytes) → same x x ≡ true
same_refl [] = refl
same_refl (x ∷ xs) = rw (eq-eqb x x refl) (same_refl xs)

-- equal texts by the test are equal
pub same_eq : (x y : Bytes) → same x y ≡ true → x ≡ y
same_eq [] [] h = refl
same_eq [] (y ∷ ys) h = grind arith
same_eq (x ∷ xs) [] h = grind arith
same_eq (x ∷ xs) (y ∷ ys) h =
    (elim (eqb x y) as (λ b. eqb x y ≡ b → cond b (same xs ys) false ≡ true → (x ∷ xs) ≡ (y ∷ ys)) [
      | true ↦ λ e t. let i : xs ≡ ys = same_eq xs ys t in let j : x ≡ y = grind (arith, nat_tests) in cc
      | false ↦ λ e t. grind arith
    ]) refl h

pub before_not_same : (x y : Bytes) → before x y ≡ true → same x y ≡ false
before_not_same [] [] h = grind arith
before_not_same [] (y ∷ ys) h = refl
before_not_same (x ∷ xs) [] h = grind arith
before_not_same (x ∷ xs) (y ∷ ys) h =
    (elim (eqb x y) as (λ b. cond b (before xs ys) (ltb x y) ≡ true → cond b (same xs ys) false ≡ false)
    [ true ↦ λ t. before_not_same xs ys t | false ↦ λ t. refl ]) h

pub before_trans : (x y z : Bytes) → before x y ≡ true → before y z ≡ true → before x z ≡ true
before_trans [] [] z h k = k
before_trans [] (y ∷ ys) [] h k = grind arith
before_trans [] (y ∷ ys) (z ∷ zs) h k = refl
before_trans (x ∷ xs) [] z h k = grind arith
before_trans (x ∷ xs) (y ∷ ys) [] h k = grind arith
before_trans (x ∷ xs) (y ∷ ys) (z ∷ zs) h k =
    let ih : before xs ys ≡ true → before ys zs ≡ true → before xs zs ≡ true = before_trans xs ys zs in
    grind (arith, nat_tests)

-- a prefix in front of both
pub strip_append : (p k : Bytes) → stripped p (p ++ k) ≡ Some k
strip_append [] k = refl
strip_append (x ∷ p) k = rw (eq-eqb x x refl) (strip_append p k)

pub same-under : (p k y t : Bytes) → stripped p y ≡ Some t → same (p ++ k) y ≡ same k t
same-under [] k y t h = let e : y ≡ t = grind arith in ap (same k) e
same-under (x ∷ p) k [] t h = grind arith
same-under (x ∷ p) k (y ∷ ys) t h =
    (elim (eqb x y) as (λ b. cond b (stripped p ys) None ≡ Some t → cond b (same (p ++ k) ys) false ≡ same k t)
    [ true ↦ λ e. same-under p k ys t e | false ↦ λ e. grind arith ]) h

pub same_apart : (p k y : Bytes) → stripped p y ≡ None → same (p ++ k) y ≡ false
same_apart [] k y h = grind arith
same_apart (x ∷ p) k [] h = refl
same_apart (x ∷ p) k (y ∷ ys) h =
    (elim (eqb x y) as (λ b. cond b (stripped p ys) None ≡ None → cond b (same (p ++ k) ys) false ≡ false)
    [ true ↦ λ e. same_apart p k ys e | false ↦ λ e. refl ]) h

pub before-under : (p k y t : Bytes) → stripped p y ≡ Some t → before (p ++ k) y ≡ before k t
before-under [] k y t h = let e : y ≡ t = grind arith in ap (before k) e
before-under (x ∷ p) k [] t h = grind arith
before-under (x ∷ p) k (y ∷ ys) t h =
    (elim (eqb x y) as (λ b. cond b (stripped p ys) None ≡ Some t → cond b (before (p ++ k) ys) (ltb x y) ≡ before k t)
    [ true ↦ λ e. before-under p k ys t e | false ↦ λ e. grind arith ]) h

-- ---- heads
pub order : (x y : ℕ) → (x < y) ⊎ ((x ≡ y) ⊎ (y < x))
order x y = by (leb_tells x y) (leb_tells y x)
  where
    by : ((leb x y ≡ true) × (x ≤ y)) ⊎ ((leb x y ≡ false) × (y < x)) → ((leb y x ≡ true) × (y ≤ x)) ⊎ ((leb y x ≡ false) × (x < y)) → (x < y) ⊎ ((x ≡ y) ⊎ (y < x))
    by (inl a) (inl b) = inr (inl (omega arith))
    by (inl a) (inr b) = inl b.1
    by (inr a) _ = inr (inr a.1)

pub heads_less : (x y : ℕ) (xs ys : Bytes) → x < y → before (x ∷ xs) (y ∷ ys) ≡ true
heads_less x y xs ys h = rw (ne_eqb x y (λ e. omega arith)) (lt-ltb x y h)

pub heads_same : (x y : ℕ) (xs ys : Bytes) → x ≡ y → before (x ∷ xs) (y ∷ ys) ≡ before xs ys
heads_same x y xs ys e = rw (eq-eqb x y e)

-- ---- a strict total order
pub before-alone : (x : Bytes) → before x x ≡ false
before-alone [] = refl
before-alone (x ∷ xs) = rw (eq-eqb x x refl) (before-alone xs)

-- one of two comes first, unless they are equal
abbrev pub Either : Bytes → Bytes → Type 0
Either x y = (before x y ≡ true) ⊎ ((x ≡ y) ⊎ (before y x ≡ true))

one_first : (x y : ℕ) (xs ys : Bytes) → Either xs ys → Either (x ∷ xs) (y ∷ ys)
one_first x y xs ys h = by (order x y) h
  where
    by : (x < y) ⊎ ((x ≡ y) ⊎ (y < x)) → Either xs ys → Either (x ∷ xs) (y ∷ ys)
    by (inl l) _ = inl (heads_less x y xs ys l)
    by (inr (inl e)) (inl r) = inl (heads_same x y xs ys e ∙ r)
    by (inr (inl e)) (inr (inl r)) = inr (inl (cc))
    by (inr (inl e)) (inr (inr r)) = inr (inr (heads_same y x ys xs (sym e) ∙ r))
    by (inr (inr g)) _ = inr (inr (heads_less y x ys xs g))

pub before_either : (x y : Bytes) → Either x y
before_either [] [] = inr (inl refl)
before_either [] (y ∷ ys) = inl refl
before_either (x ∷ xs) [] = inr (inr refl)
before_either (x ∷ xs) (y ∷ ys) = one_first x y xs ys (before_either xs ys)

pub before_asym : (x y : Bytes) → before x y ≡ true → before y x ≡ false
before_asym x y h = by (before y x) refl
  where
    by : (b : Bool) → before y x ≡ b → b ≡ false
    by true e = sym (before_trans x y x h e) ∙ before-alone x
    by false e = refl

-- ---- what the answer of three says
says_less : (s l : Bool) → ordering s l ≡ Less → l ≡ true
says_less true l e = grind arith
says_less false true e = refl
says_less false false e = grind arith

says_equal : (s l : Bool) → ordering s l ≡ Equal → s ≡ true
says_equal true l e = refl
says_equal false true e = grind arith
says_equal false false e = grind arith

says_greater : (s l : Bool) → ordering s l ≡ Greater → (s ≡ false) × (l ≡ false)
says_greater true l e = grind arith
says_greater false true e = grind arith
says_greater false false e = (refl, refl)

pub order_less : (x y : Bytes) → byte_order x y ≡ Less → before x y ≡ true
order_less x y e = says_less (same x y) (before x y) e

pub order_equal : (x y : Bytes) → byte_order x y ≡ Equal → x ≡ y
order_equal x y e = same_eq x y (says_equal (same x y) (before x y) e)

pub order_greater : (x y : Bytes) → byte_order x y ≡ Greater → before y x ≡ true
order_greater x y e = by (says_greater (same x y) (before x y) e) (before_either x y)
  where
    by : (same x y ≡ false) × (before x y ≡ false) → Either x y → before y x ≡ true
    by w (inl h) = absurd (both_ways (before x y) w.1 h)
    by w (inr (inl h)) = absurd (both_ways (same x y) w.0 (ap (same x) (sym h) ∙ same_refl x))
    by w (inr (inr h)) = h
