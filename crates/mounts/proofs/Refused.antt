-- A text that is too long with the prefix in front is refused as malformed.
-- Assumes nothing.
use Rattle.std.proofs.Common.{◌≡◌, Ok, Err, Result, ap, ◌∙◌}
use Rattle.std.specs.Result.{IsErrAnd}
use Rattle.keys.specs.declared.fault.StoreFault.{StoreFault}
use Rattle.keys.specs.declared.fault.StoreFault.TheVariants.{Malformed}

pub refused : {A : Type 0} (r : Result A StoreFault) (f : StoreFault) → IsErrAnd r (λ d. d ≡ f) → f ≡ Malformed → r ≡ Err Malformed
refused (Ok a) f h e = absurd h
refused (Err d) f h e = ap (λ (x : StoreFault). Err x) (h ∙ e)
