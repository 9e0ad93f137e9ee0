-- A key under a prefix is set or erased: what is looked up outside the prefix stays.
-- Assumes nothing.
use Rattle.std.proofs.Common.{◌≡◌, ℕ, Bool, true, false, ◌||◌, ◌++◌, length, Some, None, Result, sym, refl, ap, ◌∙◌, arith}
use Rattle.keys.specs.declared.fault.StoreFault.{StoreFault}
use Rattle.keys.specs.declared.fault.StoreFault.TheVariants.{NotTaken, NotLetGo}
use Rattle.text.specs.Bytes.{Bytes, same, stripped}
use Rattle.text.proofs.Order.{same_eq, strip_append}
use Rattle.stores.specs.WellFormed.{well_key}
use Rattle.stores.specs.Pairs.{Pairs, lookup, inserted, removed}
use Rattle.stores.specs.Answers.{guarded, decided, absent}
use Rattle.stores.specs.Meaning.{Meaning, Wrote, Set, Erase}
use Rattle.stores.proofs.Changes.{lookup_other, lookup-kept}
use Rattle.mounts.specs.Fronts.{Outside}

pub other_key : (p k j : Bytes) → stripped p j ≡ None → same j (p ++ k) ≡ false
other_key p k j e = by (same j (p ++ k)) refl
  where
    by : (b : Bool) → same j (p ++ k) ≡ b → b ≡ false
    by true h =
        let q : j ≡ p ++ k = same_eq j (p ++ k) h in
        let y : None ≡ Some k = sym e ∙ ap (stripped p) q ∙ strip_append p k in
        let z : ◌≡◌ {A = ℕ} 0 1 = grind arith in
        absurd (omega arith)
    by false h = refl

wrote_outside : (p : Bytes) (w t : Bool) (e : StoreFault) (ps : Pairs) (m n : Meaning) (r : Result Unit StoreFault) → Outside p m.pairs ps → Wrote (guarded w (decided t e ps)) m n r → Outside p m.pairs n.pairs
wrote_outside p true true e ps m n r o s = λ j h. ap (lookup j) s.kept.0 ∙ o j h
wrote_outside p true false e ps m n r o s = λ j h. ap (λ (x : Meaning). lookup j x.pairs) s.kept
wrote_outside p false t e ps m n r o s = λ j h. ap (λ (x : Meaning). lookup j x.pairs) s.kept

pub outside_set : (p k v : Bytes) (m n : Meaning) (r : Result Unit StoreFault) → Set (p ++ k) v m n r → Outside p m.pairs n.pairs
outside_set p k v m n r s =
    wrote_outside p (well_key m.longest (p ++ k)) (m.takes (p ++ k) (length v)) NotTaken (inserted (p ++ k) v m.pairs) m n r (λ j h. lookup_other j (p ++ k) v m.pairs (other_key p k j h)) s

pub outside_erase : (p k : Bytes) (m n : Meaning) (r : Result Unit StoreFault) → Erase (p ++ k) m n r → Outside p m.pairs n.pairs
outside_erase p k m n r s =
    wrote_outside p (well_key m.longest (p ++ k)) (absent (lookup (p ++ k) m.pairs) || m.lets (p ++ k)) NotLetGo (removed (p ++ k) m.pairs) m n r (λ j h. lookup-kept j (p ++ k) m.pairs (other_key p k j h)) s
