-- What the answers of a comparison say of a strict order, and what a binary search by them says. Assumes nothing.
use Rattle.std.proofs.Common.{◌≡◌, ℕ, ◌<◌, ◌≤◌, Bool, true, false, cond, List, length, get_or, take, Result, Ok, Err, Ordering, Less, Equal, Greater, sym, refl, ap, ◌∙◌, subst, ⊎_elim, eq-or-lt_of_le, arith}
use borrow.Author.Tests.{clash}
use Rattle.std.specs.Bool.{Decides}
use Rattle.std.specs.Ordering.{MatchOrdering, is_lt, is_eq, is_gt, ordering_index}
use Rattle.std.specs.List.Sorted.{IsBinarySearchResult, IsSearchInRange, IsNonDecreasingBy}
use Rattle.std.proofs.lemmas.List.{get_or-take, length-take-le}
use Rattle.table.specs.Order.{ranked, Ascending, Same, Located}

module _ {X : Type 0} (first : X → X → Bool) where
  -- an answer is `Equal` just where the two are the same
  pub same_by : (x y : X) (r : Ordering) → MatchOrdering r (first x y ≡ true) (Same first x y) (first y x ≡ true) → Decides (is_eq r) (Same first x y)
  same_by x y Less h = (λ e. absurd (clash e), λ s. absurd (clash (sym s.0 ∙ h)))
  same_by x y Equal h = (λ e. h, λ s. refl)
  same_by x y Greater h = (λ e. absurd (clash e), λ s. absurd (clash (sym s.1 ∙ h)))

  less_means : (b c : Bool) → cond b Less (cond c Greater Equal) ≡ Less → b ≡ true
  less_means true c e = refl
  less_means false true e = absurd (clash (ap is_lt e))
  less_means false false e = absurd (clash (ap is_lt e))

  greater_means : (b c : Bool) → cond b Less (cond c Greater Equal) ≡ Greater → c ≡ true
  greater_means true c e = absurd (clash (ap is_gt e))
  greater_means false true e = refl
  greater_means false false e = absurd (clash (ap is_gt e))

  equal_means : (b c : Bool) → cond b Less (cond c Greater Equal) ≡ Equal → (b ≡ false) × (c ≡ false)
  equal_means true c e = absurd (clash (ap is_eq e))
  equal_means false true e = absurd (clash (ap is_eq e))
  equal_means false false e = (refl, refl)

  module _ (chain : (x y z : X) → first x y ≡ true → first y z ≡ true → first x z ≡ true) where
    module _ (alone : (x : X) → first x x ≡ false) where
      one_way : (x y : X) → first x y ≡ true → first y x ≡ false
      one_way x y h = by (first y x) refl
        where
          by : (b : Bool) → first y x ≡ b → b ≡ false
          by true e = absurd (clash (sym (alone x) ∙ chain x y x h e))
          by false e = refl

      -- an answer as a value of the two, and whether it is `Less`
      pub ranked_by : (x y : X) (r : Ordering) → MatchOrdering r (first x y ≡ true) (Same first x y) (first y x ≡ true) → r ≡ ranked first x y
      ranked_by x y Less h = rw h
      ranked_by x y Equal h = rw (h.0, h.1)
      ranked_by x y Greater h = let e = one_way y x h in rw (e, h)

      pub first_by : (x y : X) (r : Ordering) → MatchOrdering r (first x y ≡ true) (Same first x y) (first y x ≡ true) → is_lt r ≡ first x y
      first_by x y Less h = sym h
      first_by x y Equal h = sym h.0
      first_by x y Greater h = sym (one_way y x h)

    most : (r : Ordering) → ordering_index r ≤ 2
    most Less = omega arith
    most Equal = omega arith
    most Greater = omega arith

    flat : (b : Bool) → ordering_index (cond b Less Equal) ≤ 1
    flat true = omega arith
    flat false = omega arith

    -- the answers rise along what ascends
    rises : (x y z : X) → first x y ≡ true → ordering_index (ranked first x z) ≤ ordering_index (ranked first y z)
    rises x y z h = by (first y z) (first z y) refl refl
      where
        at : Bool → Bool → ℕ
        at b c = ordering_index (cond b Less (cond c Greater Equal))

        not_before : (b : Bool) → first z x ≡ b → first z y ≡ false → b ≡ false
        not_before true e f = absurd (clash (sym f ∙ chain z x y e h))
        not_before false e f = refl

        by : (b c : Bool) → first y z ≡ b → first z y ≡ c → at (first x z) (first z x) ≤ at b c
        by true c e f = subst (λ b. at b (first z x) ≤ 0) (sym (chain x y z h e)) (omega arith)
        by false true e f = most (cond (first x z) Less (cond (first z x) Greater Equal))
        by false false e f = subst (λ c. at (first x z) c ≤ 1) (sym (not_before (first z x) refl f)) (flat (first x z))

    pub located : (xs : List X) (n : ℕ) (x : X) (r : Result ℕ ℕ) → Ascending first xs n → n ≤ length xs → IsSearchInRange r (length (take n xs)) → IsBinarySearchResult (λ y. ranked first y x) (take n xs) r → Located first xs n x r
    located xs n x (Ok i) up w bound h =
        let l = length-take-le n xs w in
        let lt : i < n = omega (arith, bound, l) in
        (lt, λ d. equal_means (first (get_or xs i d) x) (first x (get_or xs i d)) (ap (λ y. ranked first y x) (sym (get_or-take n xs i d lt)) ∙ h d))
    located xs n x (Err i) up w bound h =
        let l = length-take-le n xs w in
        let order : (k : ℕ) (d : X) → k < n → ranked first (get_or (take n xs) k d) x ≡ ranked first (get_or xs k d) x = λ k d lt. ap (λ y. ranked first y x) (get_or-take n xs k d lt) in
        let rising : IsNonDecreasingBy (λ y. ordering_index (ranked first y x)) (take n xs) =
        λ a b d le lt. ⊎_elim
        (λ (e : a ≡ b). subst (λ c. ordering_index (ranked first (get_or (take n xs) a d) x) ≤ ordering_index (ranked first (get_or (take n xs) c d) x)) e (omega arith))
        (λ (m : a < b).
        let f = order a d (omega arith) in
        let g = order b d (omega arith) in
        let rise = rises (get_or xs a d) (get_or xs b d) x (up a b d m (omega arith)) in
        subst (λ s. ordering_index s ≤ ordering_index (ranked first (get_or (take n xs) b d) x)) (sym f) (subst (λ s. ordering_index (ranked first (get_or xs a d) x) ≤ ordering_index s) (sym g) rise))
        (eq-or-lt_of_le le)
        in
        let parted = h rising in (
          omega (arith, bound, l),
          (λ k d lt. less_means (first (get_or xs k d) x) (first x (get_or xs k d)) (sym (order k d (omega arith)) ∙ parted.0 k d (omega arith) lt)),
          (λ k d le lt. greater_means (first (get_or xs k d) x) (first x (get_or xs k d)) (sym (order k d lt) ∙ parted.1 k d le (omega arith))),
        )
