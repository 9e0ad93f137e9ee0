-- A store that takes nothing and lets go nothing.
-- Assumes nothing.
use Rattle.std.proofs.Common.{◌≡◌, Bool, true, false, ◌||◌, length, Some, None, Ok, Err, Option, Result, sym, refl, ap}
use Rattle.std.proofs.lemmas.Bool.{or_from, true≢false}
use Rattle.keys.specs.declared.fault.StoreFault.{StoreFault}
use Rattle.keys.specs.declared.fault.StoreFault.TheVariants.{Malformed, NotTaken, NotLetGo}
use Rattle.text.specs.Bytes.{Bytes}
use Rattle.stores.specs.WellFormed.{well_key}
use Rattle.stores.specs.Pairs.{Pairs, lookup, inserted, removed}
use Rattle.stores.specs.Answers.{guarded, decided, absent}
use Rattle.stores.specs.Meaning.{Meaning, Wrote, Set, Erase}
use Rattle.stores.proofs.Absent.{removed-absent}

malformed : (w : Bool) (o : Result Pairs StoreFault) (m : Meaning) → w ≡ false → Wrote (guarded w o) m m (Err Malformed)
malformed true o m e = absurd (true≢false e)
malformed false o m e = record { answers = refl; kept = refl }

kept_out : (w d : Bool) (f : StoreFault) (ps : Pairs) (m : Meaning) → w ≡ true → d ≡ false → Wrote (guarded w (decided d f ps)) m m (Err f)
kept_out false d f ps m e g = absurd (true≢false (sym e))
kept_out true true f ps m e g = absurd (true≢false g)
kept_out true false f ps m e g = record { answers = refl; kept = refl }

granted : (w d : Bool) (f : StoreFault) (ps : Pairs) (m : Meaning) → w ≡ true → d ≡ true → ps ≡ m.pairs → Wrote (guarded w (decided d f ps)) m m (Ok tt)
granted false d f ps m e g q = absurd (true≢false (sym e))
granted true false f ps m e g q = absurd (true≢false (sym g))
granted true true f ps m e g q = record { answers = refl; kept = (sym q, refl) }

pub set_malformed : (k v : Bytes) (m : Meaning) → well_key m.longest k ≡ false → Set k v m m (Err Malformed)
set_malformed k v m e = malformed (well_key m.longest k) (decided (m.takes k (length v)) NotTaken (inserted k v m.pairs)) m e

pub set_refused : (k v : Bytes) (m : Meaning) → well_key m.longest k ≡ true → m.takes k (length v) ≡ false → Set k v m m (Err NotTaken)
set_refused k v m e t = kept_out (well_key m.longest k) (m.takes k (length v)) NotTaken (inserted k v m.pairs) m e t

pub erase_malformed : (k : Bytes) (m : Meaning) → well_key m.longest k ≡ false → Erase k m m (Err Malformed)
erase_malformed k m e = malformed (well_key m.longest k) (decided (absent (lookup k m.pairs) || m.lets k) NotLetGo (removed k m.pairs)) m e

pub erase_refused : (k v : Bytes) (m : Meaning) → well_key m.longest k ≡ true → lookup k m.pairs ≡ Some v → m.lets k ≡ false → Erase k m m (Err NotLetGo)
erase_refused k v m e l t = kept_out (well_key m.longest k) (absent (lookup k m.pairs) || m.lets k) NotLetGo (removed k m.pairs) m e (or_from (absent (lookup k m.pairs)) (m.lets k) (ap absent l) t)

pub erase_absent_lem : (k : Bytes) (m : Meaning) → well_key m.longest k ≡ true → lookup k m.pairs ≡ None → Erase k m m (Ok tt)
erase_absent_lem k m e l = granted (well_key m.longest k) (absent (lookup k m.pairs) || m.lets k) NotLetGo (removed k m.pairs) m e (ap (λ (o : Option Bytes). absent o || m.lets k) l) (removed-absent k m.pairs l)
