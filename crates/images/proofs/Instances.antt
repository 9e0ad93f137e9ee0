-- The images that are written out.
-- Assumes nothing.
use Rattle.std.proofs.Common.{◌≡◌, ℕ, zero, suc, false, [], ◌∷◌, refl}
use Rattle.stores.specs.Pairs.{pair}
use Rattle.images.specs.Layout.{number2, number4, key_in, value_in}
use Rattle.images.specs.Spells.{Spells}
use Rattle.images.specs.Tests.{ends_at, pair_at, good_at, sound}
use Rattle.images.specs.Examples.{one_pair, cut_off, same_twice, ExamplesHold}
use Rattle.images.proofs.Spelling.{spelled, not_spelled}

none : Spells (0 ∷ []) []
unfolding sound ends_at
none = spelled (0 ∷ []) 0 refl

one : Spells one_pair (pair (97 ∷ []) (98 ∷ []) ∷ [])
unfolding sound ends_at good_at pair_at key_in value_in number2 number4
one = spelled one_pair 1 refl

endless : (n : ℕ) → sound [] n ≡ false
unfolding sound ends_at good_at pair_at
endless zero = refl
endless (suc n) = refl

kind : (n : ℕ) → sound (2 ∷ 0 ∷ []) n ≡ false
unfolding sound ends_at good_at pair_at
kind zero = refl
kind (suc n) = refl

past : (n : ℕ) → sound cut_off n ≡ false
unfolding sound ends_at good_at pair_at key_in value_in number2 number4
past zero = refl
past (suc n) = refl

twice : (n : ℕ) → sound same_twice n ≡ false
unfolding sound ends_at good_at pair_at key_in value_in number2 number4
twice zero = refl
twice (suc zero) = refl
twice (suc (suc n)) = refl

pub examples_hold_lem : ExamplesHold
examples_hold_lem = record {
  none = none;
  one = one;
  endless = not_spelled [] endless;
  kind = not_spelled (2 ∷ 0 ∷ []) kind;
  past = not_spelled cut_off past;
  twice = not_spelled same_twice twice;
}
