-- An absent key is let go without a change.
-- Assumes nothing.
use Rattle.std.proofs.Common.{◌≡◌, ℕ, Bool, true, false, cond, leb, [], ◌∷◌, length, Some, None, Ok, Err, Option, sym, refl, arith}
use Rattle.keys.specs.declared.fault.StoreFault.TheVariants.{Longer}
use Rattle.text.specs.Bytes.{Bytes, same}
use Rattle.stores.specs.WellFormed.{well_key}
use Rattle.stores.specs.Pairs.{Pair, Pairs, lookup, removed}
use Rattle.stores.specs.Answers.{got, guarded, fitted, answer}
use Rattle.stores.specs.Meaning.{Meaning, Erase}

removed-step : (k : Bytes) (a : Pair) (ps : Pairs) (b : Bool) → same k a.key ≡ b → lookup k (a ∷ ps) ≡ None → (lookup k ps ≡ None → removed k ps ≡ ps) → removed k (a ∷ ps) ≡ (a ∷ ps)
removed-step k a ps true e h ih = let z : Some a.value ≡ None = simp e at h in grind arith
removed-step k a ps false e h ih = let z : lookup k ps ≡ None = simp e at h in simp (e, ih z)

pub removed-absent : (k : Bytes) (ps : Pairs) → lookup k ps ≡ None → removed k ps ≡ ps
removed-absent k [] h = refl
removed-absent k (a ∷ ps) h = removed-step k a ps (same k a.key) refl h (removed-absent k ps)

fitted_none : (n : ℕ) (o : Option Bytes) → answer (fitted n o) ≡ Ok None → o ≡ None
fitted_none n None h = refl
fitted_none n (Some v) h =
    (elim (leb (length v) n) as (λ b. answer (cond b (Ok (Some v)) (Err Longer)) ≡ Ok None → Some v ≡ None) [ true ↦ λ e. grind arith | false ↦ λ e. grind arith ]) h

pub got_none : (b : Bool) (n : ℕ) (o : Option Bytes) → answer (guarded b (fitted n o)) ≡ Ok None → (b ≡ true) × (o ≡ None)
got_none true n o h = (refl, fitted_none n o h)
got_none false n o h = absurd (cc)

pub erase_absent_lem : (m : Meaning) (k : Bytes) (n : ℕ) → answer (got m.longest m.pairs k n) ≡ Ok None → Erase k m m (Ok tt)
erase_absent_lem m k n h =
    let b = got_none (well_key m.longest k) n (lookup k m.pairs) h in
    let w : well_key m.longest k ≡ true = b.0 in
    let l : lookup k m.pairs ≡ None = b.1 in
    record { answers = simp (w, l); kept = simp (w, l) (sym (removed-absent k m.pairs l), refl) }
