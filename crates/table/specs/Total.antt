-- The order that a comparison gives is strict, if the comparison is of a total order.
-- Assumes nothing.
use Rattle.std.specs.Prelude.{◌≡◌, true, false}
use Rattle.std.proofs.Common.{Less, Equal, Greater, refl, ap}
use borrow.Author.Tests.{clash}
use Rattle.std.specs.Cmp.{IsTotalOrder, tied_itself}
use Rattle.std.specs.Ordering.{is_lt}
use Rattle.std.specs.declared.cmp.Ordering.{Ordering}
use Rattle.table.specs.Order.{before}

pub less_from : (r : Ordering) → is_lt r ≡ true → r ≡ Less
less_from Less e = refl
less_from Equal e = absurd (clash e)
less_from Greater e = absurd (clash e)

module _ {X : Type 0} {cmp : X → X → Ordering} (o : IsTotalOrder cmp) where
  pub total_chain : (x y z : X) → before cmp x y ≡ true → before cmp y z ≡ true → before cmp x z ≡ true
  total_chain x y z h k = ap is_lt (o.trans x y z (less_from (cmp x y) h) (less_from (cmp y z) k))

  pub total_alone : (x : X) → before cmp x x ≡ false
  total_alone x = ap is_lt (tied_itself o x)
