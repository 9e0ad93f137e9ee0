-- The order by bytes where texts are given in parts.
-- Assumes nothing.
use Rattle.std.proofs.Common.{◌≡◌, ℕ, Bool, zero, suc, ◌-◌, ◌<◌, ◌≤◌, true, false, cond, eqb, ◌⊎◌, [], ◌∷◌, ◌++◌, length, take, drop, is_some, Some, None, Option, sym, refl, ap, ◌∙◌, inl, inr, arith, length-append, eq-eqb, ne_eqb, lt-ltb}
use Rattle.std.proofs.lemmas.Bool.{both_ways, eqb-true, cases_Bool}
use Rattle.std.proofs.lemmas.List.{drop_at, take_rest}
use Rattle.std.proofs.lemmas.Bool.Decides.{nat_tests}
use Rattle.std.specs.Ordering.{is_lt}
use Rattle.text.specs.Bytes.{Bytes, same, before, ordering, byte_order, stripped}
use Rattle.text.proofs.Order.{Either, before_trans, before_either, before_not_same}

pub some_of : {A : Type 0} (o : Option A) → is_some o ≡ true → (a : A) × (o ≡ Some a)
some_of (Some a) h = (a, refl)
some_of None h = absurd (cc)

pub none_of : {A : Type 0} (o : Option A) → is_some o ≡ false → o ≡ None
none_of (Some a) h = absurd (cc)
none_of None h = refl

-- ---- a prefix taken off

pub strip_parts : (p k t : Bytes) → stripped p k ≡ Some t → k ≡ p ++ t
strip_parts [] k t h = grind arith
strip_parts (x ∷ p) [] t h = grind arith
strip_parts (x ∷ p) (y ∷ k) t h =
    (elim (eqb x y) as (λ b. eqb x y ≡ b → cond b (stripped p k) None ≡ Some t → (y ∷ k) ≡ (x ∷ p) ++ t) [
      | true ↦ λ e g. let q : x ≡ y = eqb-true x y e in let r : k ≡ p ++ t = strip_parts p k t g in cc
      | false ↦ λ e g. grind arith
    ]) refl h

pub strip_drop : (p k t : Bytes) → stripped p k ≡ Some t → drop (length p) k ≡ t
strip_drop p k t h = ap (drop (length p)) (strip_parts p k t h) ∙ drop_at p t (length p) refl

-- ---- a text in two parts

pub before_both : (p t b : Bytes) → before (p ++ t) (p ++ b) ≡ before t b
before_both [] t b = refl
before_both (x ∷ p) t b = rw (eq-eqb x x refl) (before_both p t b)

pub before-behind : (p b k t : Bytes) → stripped p k ≡ Some t → before k (p ++ b) ≡ before t b
before-behind p b k t h = ap (λ (x : Bytes). before x (p ++ b)) (strip_parts p k t h) ∙ before_both p t b

pub before_apart : (p b k : Bytes) → stripped p k ≡ None → before k (p ++ b) ≡ before k p
before_apart [] b k h = grind arith
before_apart (x ∷ p) b [] h = refl
before_apart (x ∷ p) b (y ∷ k) h =
    let ih : stripped p k ≡ None → before k (p ++ b) ≡ before k p = before_apart p b k in
    grind (arith, nat_tests)

-- ---- not before

pub before_nil : (t : Bytes) → before t [] ≡ false
before_nil [] = refl
before_nil (x ∷ t) = refl

-- what comes before a text that does not come behind a third comes before that
pub before_upto : (x y z : Bytes) → before x y ≡ true → before z y ≡ false → before x z ≡ true
before_upto x y z h k = by (before_either y z)
  where
    by : Either y z → before x z ≡ true
    by (inl e) = before_trans x y z h e
    by (inr (inl e)) = ap (before x) (sym e) ∙ h
    by (inr (inr e)) = absurd (both_ways (before z y) k e)

-- x < y, and x is not before z: neither is y
pub not_before_on : (x y z : Bytes) → before x y ≡ true → before x z ≡ false → before y z ≡ false
not_before_on x y z h k = by (cases_Bool (before y z))
  where
    by : (before y z ≡ true) ⊎ (before y z ≡ false) → before y z ≡ false
    by (inl e) = absurd (both_ways (before x z) k (before_trans x y z h e))
    by (inr e) = e

-- y follows at x, and no text stands between: what is not before is behind or equal
pub not_before_is : (x y : Bytes) → before x y ≡ false → before y x ≡ false → x ≡ y
not_before_is x y h k = by (before_either x y)
  where
    by : Either x y → x ≡ y
    by (inl e) = absurd (both_ways (before x y) h e)
    by (inr (inl e)) = e
    by (inr (inr e)) = absurd (both_ways (before y x) k e)

-- ---- a zero byte behind a text: the next text of all
pub before-next : (a k : Bytes) → before k (a ++ (0 ∷ [])) ≡ true → before a k ≡ false
before-next [] [] h = refl
before-next [] (x ∷ k) h = let n : before k [] ≡ false = before_nil k in grind (arith, nat_tests)
before-next (x ∷ a) [] h = refl
before-next (x ∷ a) (y ∷ k) h =
    let ih : before k (a ++ (0 ∷ [])) ≡ true → before a k ≡ false = before-next a k in
    grind (arith, nat_tests)

pub next-before : (a k : Bytes) → before k (a ++ (0 ∷ [])) ≡ false → before a k ≡ true
next-before [] [] h = grind arith
next-before [] (x ∷ k) h = refl
next-before (x ∷ a) [] h = grind arith
next-before (x ∷ a) (y ∷ k) h =
    let ih : before k (a ++ (0 ∷ [])) ≡ false → before a k ≡ true = next-before a k in
    grind (arith, nat_tests)

-- ---- texts that begin with a prefix stand together

-- behind a text that is not before a prefix and does not begin with it, none does
pub past_prefix : (p a k j : Bytes) → before k (p ++ a) ≡ false → stripped p k ≡ None → before k j ≡ true → stripped p j ≡ None
past_prefix [] a k j h s b = grind arith
past_prefix (x ∷ p) a [] j h s b = grind arith
past_prefix (x ∷ p) a (y ∷ k) [] h s b = refl
past_prefix (x ∷ p) a (y ∷ k) (z ∷ j) h s b =
    let ih : before k (p ++ a) ≡ false → stripped p k ≡ None → before k j ≡ true → stripped p j ≡ None = past_prefix p a k j in
    grind (arith, nat_tests)

-- between a text with `/` and the text with the next byte behind it, all begin with the text and `/`
pub between_slash : (f k : Bytes) → before k (f ++ (47 ∷ [])) ≡ false → before k (f ++ (48 ∷ [])) ≡ true → (m : Bytes) × (k ≡ f ++ (47 ∷ m))
between_slash [] [] h b = grind arith
between_slash [] (x ∷ k) h b =
    let n : before k [] ≡ false = before_nil k in
    let e : x ≡ 47 = grind (arith, nat_tests) in
    (k, ap (λ (y : ℕ). y ∷ k) e)
between_slash (x ∷ f) [] h b = grind arith
between_slash (x ∷ f) (y ∷ k) h b =
    let e : x ≡ y = grind (arith, nat_tests) in
    let h' : before k (f ++ (47 ∷ [])) ≡ false = grind (arith, nat_tests) in
    let b' : before k (f ++ (48 ∷ [])) ≡ true = grind (arith, nat_tests) in
    let i = between_slash f k h' b' in
    let q : k ≡ f ++ (47 ∷ i.0) = i.1 in
    (i.0, (cc))

pub slash_high : (f m : Bytes) → before (f ++ (47 ∷ m)) (f ++ (47 ∷ [])) ≡ false
slash_high f m = before_both f (47 ∷ m) (47 ∷ []) ∙ before_nil m

pub slash_low_of : (f m : Bytes) (x : ℕ) → 47 < x → before (f ++ (47 ∷ m)) (f ++ (x ∷ [])) ≡ true
slash_low_of f m x h = before_both f (47 ∷ m) (x ∷ []) ∙ rw (ne_eqb 47 x (λ e. omega arith), lt-ltb 47 x h) refl

pub slash_low : (f m : Bytes) → before (f ++ (47 ∷ m)) (f ++ (48 ∷ [])) ≡ true
slash_low f m = before_both f (47 ∷ m) (48 ∷ [])

-- ---- a text and what it begins with

-- of two texts with `/` behind them that stand in the other order, the smaller is at the front of the greater
pub smaller_front : (t u m n : Bytes) → before t u ≡ true → before (t ++ (47 ∷ m)) (u ++ (47 ∷ n)) ≡ false → (r : Bytes) × (u ≡ t ++ r)
smaller_front [] u m n h k = (u, refl)
smaller_front (x ∷ t) [] m n h k = grind arith
smaller_front (x ∷ t) (y ∷ u) m n h k =
    let e : x ≡ y = grind (arith, nat_tests) in
    let h' : before t u ≡ true = grind (arith, nat_tests) in
    let k' : before (t ++ (47 ∷ m)) (u ++ (47 ∷ n)) ≡ false = grind (arith, nat_tests) in
    let i = smaller_front t u m n h' k' in
    let q : u ≡ t ++ i.0 = i.1 in
    (i.0, (cc))

-- a text with more behind it is not before it
pub longer_not_before : (t r : Bytes) → before (t ++ r) t ≡ false
longer_not_before [] r = before_nil r
longer_not_before (x ∷ t) r = rw (eq-eqb x x refl) (longer_not_before t r)

pub take_not_before : (m n : ℕ) (x : Bytes) → n ≤ m → before (take m x) (take n x) ≡ false
take_not_before zero zero x h = refl
take_not_before zero (suc n) x h = absurd (omega arith)
take_not_before (suc m) zero [] h = refl
take_not_before (suc m) zero (y ∷ x) h = refl
take_not_before (suc m) (suc n) [] h = refl
take_not_before (suc m) (suc n) (y ∷ x) h = rw (eq-eqb y y refl) (take_not_before m n x (omega arith))

-- what comes before a front of a text comes before the text
pub before_front : (t x : Bytes) (n : ℕ) → before t (take n x) ≡ true → before t x ≡ true
before_front t x zero h = let n : before t [] ≡ false = before_nil t in grind arith
before_front [] [] (suc n) h = grind arith
before_front [] (y ∷ x) (suc n) h = refl
before_front (z ∷ t) [] (suc n) h = grind arith
before_front (z ∷ t) (y ∷ x) (suc n) h =
    let ih : before t (take n x) ≡ true → before t x ≡ true = before_front t x n in
    grind (arith, nat_tests)

-- ---- as the code compares

pub begins-within : (p k : Bytes) → is_some (stripped p k) ≡ true → length p ≤ length k
begins-within p k h =
    let s = some_of (stripped p k) h in
    omega (arith, ap length (strip_parts p k s.0 s.1) ∙ length-append p s.0)

pub is_lt_before : (x y : Bytes) → is_lt (byte_order x y) ≡ before x y
is_lt_before x y = by (before x y) (before_not_same x y)
  where
    by : (b : Bool) → (b ≡ true → same x y ≡ false) → is_lt (ordering (same x y) b) ≡ b
    by true h = rw (h refl)
    by false h = elim (same x y) as (λ s. is_lt (ordering s false) ≡ false) [ true ↦ refl | false ↦ refl ]

pub two_behind : (p b k : Bytes) → is_some (stripped p k) ≡ true → before (take (length k - length p) (drop (length p) k)) b ≡ before k (p ++ b)
two_behind p b k h =
    let s = some_of (stripped p k) h in
    ap (λ (x : Bytes). before x b) (take_rest k (length p) ∙ strip_drop p k s.0 s.1) ∙ sym (before-behind p b k s.0 s.1)

pub two_apart : (p b k : Bytes) → is_some (stripped p k) ≡ false → before k p ≡ before k (p ++ b)
two_apart p b k h = sym (before_apart p b k (none_of (stripped p k) h))
