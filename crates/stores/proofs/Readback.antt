-- What was set is read back.
-- Assumes nothing.
use Rattle.std.proofs.Common.{◌≡◌, ℕ, Bool, true, false, cond, leb, [], ◌∷◌, ◌++◌, length, drop, IfOk, Some, Ok, Err, Result, refl}
use Rattle.keys.specs.declared.fault.StoreFault.{StoreFault}
use Rattle.keys.specs.declared.fault.StoreFault.TheVariants.{Malformed, Longer, NotTaken}
use Rattle.text.specs.Bytes.{Bytes, same, before}
use Rattle.stores.specs.WellFormed.{well_key}
use Rattle.stores.specs.Pairs.{Pair, Pairs, lookup, inserted}
use Rattle.stores.specs.Answers.{Found, got, guarded, decided, fitted, answer, filled}
use Rattle.stores.specs.Meaning.{Meaning, Wrote, Set}
use Rattle.text.proofs.Order.{same_refl}

lookup_in : (k v : Bytes) (a : Pair) (ps : Pairs) (s b : Bool) → same k a.key ≡ s → before k a.key ≡ b → lookup k (inserted k v ps) ≡ Some v → lookup k (inserted k v (a ∷ ps)) ≡ Some v
lookup_in k v a ps true b es eb ih = simp (es, same_refl k)
lookup_in k v a ps false true es eb ih = simp (es, eb, same_refl k)
lookup_in k v a ps false false es eb ih = simp (es, eb) ih

pub lookup-inserted : (k v : Bytes) (ps : Pairs) → lookup k (inserted k v ps) ≡ Some v
lookup-inserted k v [] = simp (same_refl k)
lookup-inserted k v (a ∷ ps) = lookup_in k v a ps (same k a.key) (before k a.key) refl refl (lookup-inserted k v ps)

-- a granted set: the key was well formed, and the pair is in
pub granted : (w t : Bool) (ps : Pairs) (m n : Meaning) (r : Result Unit StoreFault) → Wrote (guarded w (decided t NotTaken ps)) m n r → r ≡ Ok tt → (w ≡ true) × (n.pairs ≡ ps) × (n.longest ≡ m.longest)
granted true true ps m n r s e = (refl, s.kept.0, s.kept.1)
granted true false ps m n r s e = let a : r ≡ Err NotTaken = s.answers in absurd (cc)
granted false t ps m n r s e = let a : r ≡ Err Malformed = s.answers in absurd (cc)

pub read_after : (k v : Bytes) (m n : Meaning) (r : Result Unit StoreFault) (size : ℕ) → Set k v m n r → r ≡ Ok tt → got n.longest n.pairs k size ≡ fitted size (Some v)
read_after k v m n r size s e =
    let q = granted (well_key m.longest k) (m.takes k (length v)) (inserted k v m.pairs) m n r s e in
    let w : well_key m.longest k ≡ true = q.0 in
    let p : n.pairs ≡ inserted k v m.pairs = q.1 in
    let l : n.longest ≡ m.longest = q.2 in
    let h : lookup k (inserted k v m.pairs) ≡ Some v = lookup-inserted k v m.pairs in
    rw (l, p, w, h)

pub made_fitted : (size : ℕ) (v : Bytes) (f : Found) → f ≡ fitted size (Some v) → IfOk (answer f) (λ o. o ≡ Some (length v))
made_fitted size v f e = rw e (elim (leb (length v) size) as (λ b. IfOk (answer (cond b (Ok (Some v)) (Err Longer))) (λ o. o ≡ Some (length v))) [ true ↦ refl | false ↦ tt ])

pub made_filled : (size : ℕ) (v buf : Bytes) (f : Found) → f ≡ fitted size (Some v) → IfOk (answer f) (λ _. filled f buf ≡ v ++ drop (length v) buf)
made_filled size v buf f e = rw e (elim (leb (length v) size) as (λ b. IfOk (answer (cond b (Ok (Some v)) (Err Longer))) (λ _. filled (cond b (Ok (Some v)) (Err Longer)) buf ≡ v ++ drop (length v) buf)) [ true ↦ refl | false ↦ tt ])
