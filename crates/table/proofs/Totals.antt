-- What a comparison of a total order says of the order that it gives. Assumes nothing.
use Rattle.std.proofs.Common.{◌≡◌, ℕ, true, false, List, Ordering, Less, Equal, Greater, sym, refl, ap, ◌∙◌}
use borrow.Author.Tests.{clash}
use Rattle.std.specs.Cmp.{IsTotalOrder, IsStrictWeakOrder, alike_right, tied_back}
use Rattle.std.specs.Ordering.{MatchOrdering, is_lt, ordering_reverse}
use Rattle.std.proofs.lemmas.List.Sorted.{ranks_by}
use Rattle.table.specs.Order.{before, Ascending, Same, Found, Between}
use Rattle.table.proofs.Places.{weak_between}

module _ {X : Type 0} {cmp : X → X → Ordering} (o : IsTotalOrder cmp) where
  pub same_from : (x y : X) → cmp x y ≡ Equal → Same (before cmp) x y
  same_from x y e = (ap is_lt e, ap is_lt (tied_back o x y e))

  pub tied_from : (x y : X) → Same (before cmp) x y → cmp x y ≡ Equal
  tied_from x y s = by (cmp x y) s.0 (o.antisymm y x)
    where
      by : (r : Ordering) → is_lt r ≡ false → cmp y x ≡ ordering_reverse r → r ≡ Equal
      by Less a b = absurd (clash (sym a))
      by Equal a b = refl
      by Greater a b = absurd (clash (sym (sym (ap is_lt b) ∙ s.1)))

  -- what an answer says
  pub told : (x y : X) (r : Ordering) → r ≡ cmp x y → MatchOrdering r (before cmp x y ≡ true) (Same (before cmp) x y) (before cmp y x ≡ true)
  told x y Less e = ap is_lt (sym e)
  told x y Equal e = same_from x y (sym e)
  told x y Greater e = ap is_lt (o.antisymm y x ∙ ap ordering_reverse (sym e))

  -- two that are the same stand alike to every third
  pub alike : (x y z : X) → Same (before cmp) x y → (before cmp x z ≡ before cmp y z) × (before cmp z x ≡ before cmp z y)
  alike x y z s = let e = tied_from x y s in (ap is_lt (o.congr x y z e), ap is_lt (alike_right o x y z e))

  -- so what is the same as the same is the same
  pub weak : IsStrictWeakOrder (before cmp)
  weak = ranks_by o (λ (x : X). x)

  -- and one that is the same as the record at a place stands between the others there
  pub found_between : (xs : List X) (n i : ℕ) (x : X) → Ascending (before cmp) xs n → Found (before cmp) xs n x i → Between (before cmp) xs n x i
  found_between xs n i x up found = weak_between (before cmp) weak xs n i x up found
