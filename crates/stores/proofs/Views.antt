-- A call below, seen through a prefix.
-- Assumes nothing.
use Rattle.std.proofs.Common.{◌≡◌, ℕ, ◌+◌, ◌-◌, ◌<◌, ◌≤◌, Bool, true, false, ◌||◌, ◌++◌, length, Ok, Err, Option, Result, sym, refl, ap, ◌∙◌}
use Rattle.keys.specs.declared.fault.StoreFault.{StoreFault}
use Rattle.keys.specs.declared.fault.StoreFault.TheVariants.{Malformed, NotTaken, NotLetGo}
use Rattle.text.specs.Bytes.{Bytes}
use Rattle.text.specs.Utf8.{is_text}
use Rattle.keys.specs.Keys.{prefix_form}
use Rattle.stores.specs.WellFormed.{well_key}
use Rattle.stores.specs.Pairs.{Pairs, Ascends, lookup, inserted, removed, mounted}
use Rattle.stores.specs.Answers.{guarded, decided, absent, put, erased}
use Rattle.stores.specs.Meaning.{Meaning, Wrote, Set, Erase, view}
use Rattle.stores.proofs.Mounts.{well_mounted, lookup-mounted, inserted-mounted, removed-mounted, well_long}

shown : Bytes → Result Pairs StoreFault → Result Pairs StoreFault
shown p (Ok ps) = Ok (mounted p ps)
shown p (Err e) = Err e

wrote_view : (p : Bytes) (o : Result Pairs StoreFault) (m n : Meaning) (r : Result Unit StoreFault) → Wrote o m n r → Wrote (shown p o) (view p m) (view p n) r
unfolding shown
wrote_view p (Ok ps) m n r w = record { answers = w.answers; kept = (ap (mounted p) w.kept.0, ap (λ (x : ℕ). x - length p) w.kept.1) }
wrote_view p (Err e) m n r w = record { answers = w.answers; kept = ap (view p) w.kept }

decided-view : (p : Bytes) (b c : Bool) (e : StoreFault) (ps qs : Pairs) → mounted p ps ≡ qs → guarded b (decided c e qs) ≡ shown p (guarded b (decided c e ps))
unfolding shown
decided-view p true true e ps qs h = ap (λ (x : Pairs). Ok x) (sym h)
decided-view p true false e ps qs h = refl
decided-view p false c e ps qs h = refl

pub set_view : (p k v : Bytes) (m n : Meaning) (r : Result Unit StoreFault) → prefix_form true p ≡ true → is_text p ≡ true → Ascends m.pairs → Set (p ++ k) v m n r → Set k v (view p m) (view p n) r
set_view p k v m n r h x a s =
    let w : well_key (m.longest - length p) k ≡ well_key m.longest (p ++ k) = well_mounted m.longest p k h x in
    let o : put (m.longest - length p) (mounted p m.pairs) (λ j i. m.takes (p ++ j) i) k v ≡ shown p (put m.longest m.pairs m.takes (p ++ k) v) =
    ap (λ (b : Bool). guarded b (decided (m.takes (p ++ k) (length v)) NotTaken (inserted k v (mounted p m.pairs)))) w
    ∙ decided-view p (well_key m.longest (p ++ k)) (m.takes (p ++ k) (length v)) NotTaken (inserted (p ++ k) v m.pairs) (inserted k v (mounted p m.pairs)) (inserted-mounted p k v m.pairs a) in
    rw o (wrote_view p (put m.longest m.pairs m.takes (p ++ k) v) m n r s)

pub set_long : (p k v : Bytes) (m : Meaning) → m.longest ≤ 400 → 400 < length p + length k → Set k v (view p m) (view p m) (Err Malformed)
set_long p k v m h o = let w : well_key (m.longest - length p) k ≡ false = well_long m.longest p k h o in record { answers = simp w; kept = simp w refl }

pub erase_long : (p k : Bytes) (m : Meaning) → m.longest ≤ 400 → 400 < length p + length k → Erase k (view p m) (view p m) (Err Malformed)
erase_long p k m h o = let w : well_key (m.longest - length p) k ≡ false = well_long m.longest p k h o in record { answers = simp w; kept = simp w refl }

pub wrote_longest : (o : Result Pairs StoreFault) (m n : Meaning) (r : Result Unit StoreFault) → Wrote o m n r → n.longest ≡ m.longest
wrote_longest (Ok ps) m n r w = w.kept.1
wrote_longest (Err e) m n r w = ap (λ (x : Meaning). x.longest) w.kept

pub set_longest : (k v : Bytes) (m n : Meaning) (r : Result Unit StoreFault) → Set k v m n r → n.longest ≡ m.longest
set_longest k v m n r w = wrote_longest (put m.longest m.pairs m.takes k v) m n r w

pub erase_view : (p k : Bytes) (m n : Meaning) (r : Result Unit StoreFault) → prefix_form true p ≡ true → is_text p ≡ true → Erase (p ++ k) m n r → Erase k (view p m) (view p n) r
erase_view p k m n r h x s =
    let w : well_key (m.longest - length p) k ≡ well_key m.longest (p ++ k) = well_mounted m.longest p k h x in
    let l : lookup k (mounted p m.pairs) ≡ lookup (p ++ k) m.pairs = lookup-mounted p k m.pairs in
    let o : erased (m.longest - length p) (mounted p m.pairs) (λ j. m.lets (p ++ j)) k ≡ shown p (erased m.longest m.pairs m.lets (p ++ k)) =
    ap (λ (b : Bool). guarded b (decided (absent (lookup k (mounted p m.pairs)) || m.lets (p ++ k)) NotLetGo (removed k (mounted p m.pairs)))) w
    ∙ ap (λ (o : Option Bytes). guarded (well_key m.longest (p ++ k)) (decided (absent o || m.lets (p ++ k)) NotLetGo (removed k (mounted p m.pairs)))) l
    ∙ decided-view p (well_key m.longest (p ++ k)) (absent (lookup (p ++ k) m.pairs) || m.lets (p ++ k)) NotLetGo (removed (p ++ k) m.pairs) (removed k (mounted p m.pairs)) (removed-mounted p k m.pairs) in
    rw o (wrote_view p (erased m.longest m.pairs m.lets (p ++ k)) m n r s)
