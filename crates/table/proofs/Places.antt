-- What tells that a record may be put in at a place, or in the place of another. Assumes nothing.
use Rattle.std.proofs.Common.{◌≡◌, ℕ, ◌+◌, ◌-◌, ◌<◌, ◌≤◌, Bool, true, false, List, get_or, sym, refl, ◌∙◌, subst, ⊎_elim, eq-or-lt_of_le, arith}
use borrow.Author.Tests.{clash}
use Rattle.std.specs.Cmp.{IsStrictWeakOrder}
use Rattle.table.specs.Order.{Ascending, Parts, Found, Between, Alike}

module _ {X : Type 0} (first : X → X → Bool) where
  -- one that compares with every record as the one at a place does stands between the others there
  pub alike_between : (xs : List X) (n i : ℕ) (x : X) → Ascending first xs n → i < n → Alike first xs x i → Between first xs n x i
  alike_between xs n i x up w alike = (
    (λ k d lt. (alike (get_or xs k d) d).1 ∙ up k i d lt w),
    (λ k d ik kn. (alike (get_or xs k d) d).0 ∙ up i k d ik kn),
  )

  -- and is the same as that one, since nothing comes before itself
  pub alike_granted : ((x : X) → first x x ≡ false) → (xs : List X) (n i : ℕ) (x : X) → Ascending first xs n → i < n → Alike first xs x i → Found first xs n x i × Between first xs n x i
  alike_granted alone xs n i x up w alike = (
    (w, λ d. (sym (alike x d).0 ∙ alone x, sym (alike x d).1 ∙ alone x)),
    alike_between xs n i x up w alike,
  )

  -- where what is the same as the same is the same, one that is the same as the one at a place stands between the others there
  pub weak_between : IsStrictWeakOrder first → (xs : List X) (n i : ℕ) (x : X) → Ascending first xs n → Found first xs n x i → Between first xs n x i
  weak_between o xs n i x up found = (
    (λ k d lt. yes (first (get_or xs k d) x) (λ e. o.chain (get_or xs k d) x (get_or xs i d) e (found.1 d).1) (up k i d lt found.0)),
    (λ k d ik kn. yes (first x (get_or xs k d)) (λ e. o.chain (get_or xs i d) x (get_or xs k d) (found.1 d).0 e) (up i k d ik kn)),
  )
    where
      yes : (b : Bool) {c : Bool} → (b ≡ false → c ≡ false) → c ≡ true → b ≡ true
      yes true f h = refl
      yes false f h = absurd (clash (sym (f refl) ∙ h))

  module _ (chain : (x y z : X) → first x y ≡ true → first y z ≡ true → first x z ≡ true) where
    -- what stands beside a place tells of all that stands before or behind it
    all_before : (xs : List X) (n i : ℕ) (x : X) → Ascending first xs n → i ≤ n → ((d : X) → 0 < i → first (get_or xs (i - 1) d) x ≡ true) → (k : ℕ) (d : X) → k < i → first (get_or xs k d) x ≡ true
    all_before xs n i x up le low k d lt = ⊎_elim
        (λ (e : k ≡ i - 1). subst (λ j. first (get_or xs j d) x ≡ true) (sym e) (low d (omega arith)))
        (λ (m : k < i - 1). chain _ _ _ (up k (i - 1) d m (omega arith)) (low d (omega arith)))
        (eq-or-lt_of_le (omega arith))

    all_behind : (xs : List X) (n i : ℕ) (x : X) → Ascending first xs n → ((d : X) → i < n → first x (get_or xs i d) ≡ true) → (k : ℕ) (d : X) → i ≤ k → k < n → first x (get_or xs k d) ≡ true
    all_behind xs n i x up high k d ik kn = ⊎_elim
        (λ (e : i ≡ k). subst (λ j. first x (get_or xs j d) ≡ true) e (high d (omega arith)))
        (λ (m : i < k). chain _ _ _ (high d (omega arith)) (up i k d m kn))
        (eq-or-lt_of_le ik)

    pub parts_from : (xs : List X) (n i : ℕ) (x : X) → Ascending first xs n → i ≤ n
        → ((d : X) → 0 < i → first (get_or xs (i - 1) d) x ≡ true) → ((d : X) → i < n → first x (get_or xs i d) ≡ true) → Parts first xs n x i
    parts_from xs n i x up le low high = (le, all_before xs n i x up le low, all_behind xs n i x up high)

    pub between_from : (xs : List X) (n i : ℕ) (x : X) → Ascending first xs n → i < n
        → ((d : X) → 0 < i → first (get_or xs (i - 1) d) x ≡ true) → ((d : X) → i + 1 < n → first x (get_or xs (i + 1) d) ≡ true) → Between first xs n x i
    between_from xs n i x up lt low high = (all_before xs n i x up (omega arith) low, λ k d ik kn. all_behind xs n (i + 1) x up high k d (omega arith) kn)
