-- A call of a fence, by the call of the store below.
-- Assumes nothing.
use Rattle.std.proofs.Common.{◌≡◌, ℕ, Bool, true, false, cond, not, ◌&&◌, ◌||◌, leb, List, length, Some, None, Ok, Err, Option, Result, sym, refl, ap, ◌∙◌, subst}
use Rattle.std.specs.Result.{IsErrAnd}
use Rattle.text.specs.Bytes.{Bytes}
use Rattle.keys.specs.declared.fault.StoreFault.{StoreFault}
use Rattle.keys.specs.declared.fault.StoreFault.TheVariants.{Malformed, Longer, NotTaken, NotLetGo}
use Rattle.stores.specs.WellFormed.{well_key}
use Rattle.stores.specs.Pairs.{Pairs, lookup, inserted, removed}
use Rattle.stores.specs.Answers.{got, guarded, decided, fitted, answer, absent, put, erased}
use Rattle.stores.specs.Meaning.{Meaning, Wrote, Set, Erase}
use Rattle.stores.proofs.Absent.{removed-absent}
use Rattle.fences.specs.declared.table.Row.{Row}
use Rattle.fences.specs.Rows.{fenced}
use Rattle.fences.specs.Guard.{guard, presence}

-- ---- what a look says

there : (w : Bool) (o : Option Bytes) (n : ℕ) → presence (answer (guarded w (fitted n o))) ≡ guarded w (Ok (not (absent o)))
there false o n = refl
there true None n = refl
there true (Some v) n = elim (leb (length v) n) as (λ b. presence (answer (cond b (Ok (Some v)) (Err Longer))) ≡ Ok true) [ true ↦ refl | false ↦ refl ]

guarded_err : (w b : Bool) (f : StoreFault) → ◌≡◌ {A = Result Bool StoreFault} (guarded w (Ok b)) (Err f) → (w ≡ false) × (f ≡ Malformed)
guarded_err true b f e = absurd (cc)
guarded_err false b f e = (refl, cc)

guarded_ok : (w b d : Bool) → ◌≡◌ {A = Result Bool StoreFault} (guarded w (Ok b)) (Ok d) → (w ≡ true) × (b ≡ d)
guarded_ok true b d e = (refl, cc)
guarded_ok false b d e = absurd (cc)

malformed : (m : Meaning) (k : Bytes) (n : ℕ) (f : StoreFault) → presence (answer (got m.longest m.pairs k n)) ≡ Err f → (well_key m.longest k ≡ false) × (f ≡ Malformed)
malformed m k n f e = guarded_err (well_key m.longest k) (not (absent (lookup k m.pairs))) f (sym (there (well_key m.longest k) (lookup k m.pairs) n) ∙ e)

well : (m : Meaning) (k : Bytes) (n : ℕ) (d : Bool) → presence (answer (got m.longest m.pairs k n)) ≡ Ok d → (well_key m.longest k ≡ true) × (not (absent (lookup k m.pairs)) ≡ d)
well m k n d e = guarded_ok (well_key m.longest k) (not (absent (lookup k m.pairs))) d (sym (there (well_key m.longest k) (lookup k m.pairs) n) ∙ e)

-- ---- outcomes that leave all as it was

wrote_malformed : (w : Bool) (o : Result Pairs StoreFault) (m : Meaning) (f : StoreFault) (r : Result Unit StoreFault) → IsErrAnd r (λ d. d ≡ f) → w ≡ false → f ≡ Malformed → Wrote (guarded w o) m m r
wrote_malformed true o m f r i e h = absurd (cc)
wrote_malformed false o m f (Ok u) i e h = absurd i
wrote_malformed false o m f (Err d) i e h = record { answers = ap (λ (x : StoreFault). Err x) (i ∙ h); kept = refl }

wrote_refused : (w t : Bool) (e : StoreFault) (ps : Pairs) (m : Meaning) → w ≡ true → t ≡ false → Wrote (guarded w (decided t e ps)) m m (Err e)
wrote_refused true true e ps m h g = absurd (cc)
wrote_refused true false e ps m h g = record { answers = refl; kept = refl }
wrote_refused false t e ps m h g = absurd (cc)

pub set_malformed : (k v : Bytes) (m : Meaning) (n : ℕ) (f : StoreFault) (r : Result Unit StoreFault) → IsErrAnd r (λ d. d ≡ f) → presence (answer (got m.longest m.pairs k n)) ≡ Err f → Set k v m m r
set_malformed k v m n f r i e =
    let w = malformed m k n f e in
    wrote_malformed (well_key m.longest k) (decided (m.takes k (length v)) NotTaken (inserted k v m.pairs)) m f r i w.0 w.1

pub set_refused : (k v : Bytes) (m : Meaning) (n : ℕ) (d : Bool) → presence (answer (got m.longest m.pairs k n)) ≡ Ok d → m.takes k (length v) ≡ false → Set k v m m (Err NotTaken)
set_refused k v m n d e t = wrote_refused (well_key m.longest k) (m.takes k (length v)) NotTaken (inserted k v m.pairs) m (well m k n d e).0 t

pub erase_malformed : (k : Bytes) (m : Meaning) (n : ℕ) (f : StoreFault) (r : Result Unit StoreFault) → IsErrAnd r (λ d. d ≡ f) → presence (answer (got m.longest m.pairs k n)) ≡ Err f → Erase k m m r
erase_malformed k m n f r i e =
    let w = malformed m k n f e in
    wrote_malformed (well_key m.longest k) (decided (absent (lookup k m.pairs) || m.lets k) NotLetGo (removed k m.pairs)) m f r i w.0 w.1

there_none : (o : Option Bytes) → not (absent o) ≡ false → o ≡ None
there_none None e = refl
there_none (Some v) e = absurd (cc)

kept_off : (o : Option Bytes) (l : Bool) → not (absent o) ≡ true → l ≡ false → (absent o || l) ≡ false
kept_off None l e h = absurd (cc)
kept_off (Some v) l e h = h

pub erase_there : (k : Bytes) (m : Meaning) (n : ℕ) → presence (answer (got m.longest m.pairs k n)) ≡ Ok true → m.lets k ≡ false → Erase k m m (Err NotLetGo)
erase_there k m n e t =
    let w = well m k n true e in
    wrote_refused (well_key m.longest k) (absent (lookup k m.pairs) || m.lets k) NotLetGo (removed k m.pairs) m w.0 (kept_off (lookup k m.pairs) (m.lets k) w.1 t)

pub erase_none : (k : Bytes) (m : Meaning) (n : ℕ) → presence (answer (got m.longest m.pairs k n)) ≡ Ok false → Erase k m m (Ok tt)
erase_none k m n e =
    let q = well m k n false e in
    let w : well_key m.longest k ≡ true = q.0 in
    let l : lookup k m.pairs ≡ None = there_none (lookup k m.pairs) q.1 in
    let o : erased m.longest m.pairs m.lets k ≡ Ok (removed k m.pairs) =
    ap (λ (b : Bool). guarded b (decided (absent (lookup k m.pairs) || m.lets k) NotLetGo (removed k m.pairs))) w
    ∙ ap (λ (x : Option Bytes). decided (absent x || m.lets k) NotLetGo (removed k m.pairs)) l in
    subst (λ (x : Result Pairs StoreFault). Wrote x m m (Ok tt)) (sym o) (record { answers = refl; kept = (sym (removed-absent k m.pairs l), refl) })

-- ---- calls that the fence hands on

wrote_guard : (rows : List Row) (o : Result Pairs StoreFault) (m n : Meaning) (r : Result Unit StoreFault) → Wrote o m n r → Wrote o (guard rows m) (guard rows n) r
wrote_guard rows (Ok ps) m n r s = record { answers = s.answers; kept = s.kept }
wrote_guard rows (Err e) m n r s = record { answers = s.answers; kept = ap (guard rows) s.kept }

pub set_open : (rows : List Row) (k v : Bytes) (m n : Meaning) (r : Result Unit StoreFault) → fenced rows k ≡ false → Set k v m n r → Set k v (guard rows m) (guard rows n) r
set_open rows k v m n r e s =
    let o : guarded (well_key m.longest k) (decided (not (fenced rows k) && m.takes k (length v)) NotTaken (inserted k v m.pairs)) ≡ put m.longest m.pairs m.takes k v =
    ap (λ (b : Bool). guarded (well_key m.longest k) (decided (not b && m.takes k (length v)) NotTaken (inserted k v m.pairs))) e in
    subst (λ (x : Result Pairs StoreFault). Wrote x (guard rows m) (guard rows n) r) (sym o) (wrote_guard rows (put m.longest m.pairs m.takes k v) m n r s)

pub erase_open : (rows : List Row) (k : Bytes) (m n : Meaning) (r : Result Unit StoreFault) → fenced rows k ≡ false → Erase k m n r → Erase k (guard rows m) (guard rows n) r
erase_open rows k m n r e s =
    let o : guarded (well_key m.longest k) (decided (absent (lookup k m.pairs) || (not (fenced rows k) && m.lets k)) NotLetGo (removed k m.pairs)) ≡ erased m.longest m.pairs m.lets k =
    ap (λ (b : Bool). guarded (well_key m.longest k) (decided (absent (lookup k m.pairs) || (not b && m.lets k)) NotLetGo (removed k m.pairs))) e in
    subst (λ (x : Result Pairs StoreFault). Wrote x (guard rows m) (guard rows n) r) (sym o) (wrote_guard rows (erased m.longest m.pairs m.lets k) m n r s)

pub takes_none : (b t : Bool) → true ≡ b → (not b && t) ≡ false
takes_none true t e = refl
takes_none false t e = absurd (cc)
