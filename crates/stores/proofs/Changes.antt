-- What one key's insertion or removal does to the other keys, to the order and to the keys' form.
-- Assumes nothing.
use Rattle.std.proofs.Common.{◌≡◌, ℕ, Bool, true, false, ◌||◌, [], ◌∷◌, length, None, Ok, Err, Option, Result, sym, refl, ap, ◌∙◌, subst, inl, inr, arith}
use Rattle.keys.specs.declared.fault.StoreFault.{StoreFault}
use Rattle.keys.specs.declared.fault.StoreFault.TheVariants.{Malformed, NotTaken, NotLetGo}
use Rattle.text.specs.Bytes.{Bytes, same, before}
use Rattle.stores.specs.WellFormed.{well_key}
use Rattle.stores.specs.Pairs.{Pair, Pairs, lookup, inserted, removed, AllAbove, AllKeys, Ascends, Lawful}
use Rattle.stores.specs.Answers.{got, guarded, decided, fitted, absent}
use Rattle.stores.specs.Meaning.{Meaning, Wrote}
use Rattle.stores.specs.Laws.{EraseThenGet, OtherKeysStay, WritesKeepLawful}
use Rattle.text.proofs.Order.{Either, same_refl, same_eq, before_not_same, before_either}
use Rattle.stores.proofs.Mounts.{above_trans}

-- ---- other keys

other_in : (j k v : Bytes) (a : Pair) (ps : Pairs) (s b : Bool) → same k a.key ≡ s → before k a.key ≡ b → same j k ≡ false → lookup j (inserted k v ps) ≡ lookup j ps → lookup j (inserted k v (a ∷ ps)) ≡ lookup j (a ∷ ps)
other_in j k v a ps true b es eb h ih =
    let e : same j a.key ≡ false = ap (same j) (sym (same_eq k a.key es)) ∙ h in
    simp (es, h, e)
other_in j k v a ps false true es eb h ih = simp (es, eb, h)
other_in j k v a ps false false es eb h ih = simp (es, eb, ih)

pub lookup_other : (j k v : Bytes) (ps : Pairs) → same j k ≡ false → lookup j (inserted k v ps) ≡ lookup j ps
lookup_other j k v [] h = simp h
lookup_other j k v (a ∷ ps) h = other_in j k v a ps (same k a.key) (before k a.key) refl refl h (lookup_other j k v ps h)

other_out : (j k : Bytes) (a : Pair) (ps : Pairs) (s : Bool) → same k a.key ≡ s → same j k ≡ false → lookup j (removed k ps) ≡ lookup j ps → lookup j (removed k (a ∷ ps)) ≡ lookup j (a ∷ ps)
other_out j k a ps true es h ih =
    let e : same j a.key ≡ false = ap (same j) (sym (same_eq k a.key es)) ∙ h in
    simp (es, e)
other_out j k a ps false es h ih = simp (es, ih)

pub lookup-kept : (j k : Bytes) (ps : Pairs) → same j k ≡ false → lookup j (removed k ps) ≡ lookup j ps
lookup-kept j k [] h = refl
lookup-kept j k (a ∷ ps) h = other_out j k a ps (same k a.key) refl h (lookup-kept j k ps h)

-- ---- the key itself

pub above_absent : (k : Bytes) (ps : Pairs) → AllAbove k ps → lookup k ps ≡ None
above_absent k [] h = refl
above_absent k (a ∷ ps) h = let e : same k a.key ≡ false = before_not_same k a.key h.0 in simp (e, above_absent k ps h.1)

gone : (k : Bytes) (a : Pair) (ps : Pairs) (s : Bool) → same k a.key ≡ s → AllAbove a.key ps → lookup k (removed k ps) ≡ None → lookup k (removed k (a ∷ ps)) ≡ None
gone k a ps true es h ih = simp es (above_absent k ps (subst (λ (x : Bytes). AllAbove x ps) (sym (same_eq k a.key es)) h))
gone k a ps false es h ih = simp (es, ih)

pub lookup-removed : (k : Bytes) (ps : Pairs) → Ascends ps → lookup k (removed k ps) ≡ None
lookup-removed k [] h = refl
lookup-removed k (a ∷ ps) h = gone k a ps (same k a.key) refl h.0 (lookup-removed k ps h.1)

-- ---- the order, and the keys

-- one of two different keys comes first
pub turned : (x y : Bytes) → same x y ≡ false → before x y ≡ false → before y x ≡ true
turned x y s b = by (before_either x y)
  where
    by : Either x y → before y x ≡ true
    by (inl h) = let z : true ≡ false = sym h ∙ b in grind arith
    by (inr (inl h)) = let z : true ≡ false = sym (ap (same x) (sym h) ∙ same_refl x) ∙ s in grind arith
    by (inr (inr h)) = h

above_in : (j k v : Bytes) (a : Pair) (ps : Pairs) (s b : Bool) → same k a.key ≡ s → before k a.key ≡ b → before j k ≡ true → AllAbove j (a ∷ ps) → AllAbove j (inserted k v ps) → AllAbove j (inserted k v (a ∷ ps))
above_in j k v a ps true b es eb h w ih = simp es (h, w.1)
above_in j k v a ps false true es eb h w ih = simp (es, eb) (h, w)
above_in j k v a ps false false es eb h w ih = simp (es, eb) (w.0, ih)

pub above_inserted : (j k v : Bytes) (ps : Pairs) → before j k ≡ true → AllAbove j ps → AllAbove j (inserted k v ps)
above_inserted j k v [] h w = (h, tt)
above_inserted j k v (a ∷ ps) h w = above_in j k v a ps (same k a.key) (before k a.key) refl refl h w (above_inserted j k v ps h w.1)

ascends_in : (k v : Bytes) (a : Pair) (ps : Pairs) (s b : Bool) → same k a.key ≡ s → before k a.key ≡ b → Ascends (a ∷ ps) → Ascends (inserted k v ps) → Ascends (inserted k v (a ∷ ps))
ascends_in k v a ps true b es eb h ih = simp es (subst (λ (x : Bytes). AllAbove x ps) (sym (same_eq k a.key es)) h.0, h.1)
ascends_in k v a ps false true es eb h ih = simp (es, eb) ((refl, above_trans k a.key ps eb h.0), h)
ascends_in k v a ps false false es eb h ih = simp (es, eb) (above_inserted a.key k v ps (turned k a.key es eb) h.0, ih)

pub ascends_inserted : (k v : Bytes) (ps : Pairs) → Ascends ps → Ascends (inserted k v ps)
ascends_inserted k v [] h = (tt, tt)
ascends_inserted k v (a ∷ ps) h = ascends_in k v a ps (same k a.key) (before k a.key) refl refl h (ascends_inserted k v ps h.1)

keys_in : (P : Bytes → Type 0) (k v : Bytes) (a : Pair) (ps : Pairs) (s b : Bool) → same k a.key ≡ s → before k a.key ≡ b → P k → AllKeys P (a ∷ ps) → AllKeys P (inserted k v ps) → AllKeys P (inserted k v (a ∷ ps))
keys_in P k v a ps true b es eb w h ih = simp es (w, h.1)
keys_in P k v a ps false true es eb w h ih = simp (es, eb) (w, h)
keys_in P k v a ps false false es eb w h ih = simp (es, eb) (h.0, ih)

pub keys_inserted : (P : Bytes → Type 0) (k v : Bytes) (ps : Pairs) → P k → AllKeys P ps → AllKeys P (inserted k v ps)
keys_inserted P k v [] w h = (w, tt)
keys_inserted P k v (a ∷ ps) w h = keys_in P k v a ps (same k a.key) (before k a.key) refl refl w h (keys_inserted P k v ps w h.1)

above_out : (j k : Bytes) (a : Pair) (ps : Pairs) (s : Bool) → same k a.key ≡ s → AllAbove j (a ∷ ps) → AllAbove j (removed k ps) → AllAbove j (removed k (a ∷ ps))
above_out j k a ps true es h ih = simp es h.1
above_out j k a ps false es h ih = simp es (h.0, ih)

pub above_removed : (j k : Bytes) (ps : Pairs) → AllAbove j ps → AllAbove j (removed k ps)
above_removed j k [] h = tt
above_removed j k (a ∷ ps) h = above_out j k a ps (same k a.key) refl h (above_removed j k ps h.1)

ascends_out : (k : Bytes) (a : Pair) (ps : Pairs) (s : Bool) → same k a.key ≡ s → Ascends (a ∷ ps) → Ascends (removed k ps) → Ascends (removed k (a ∷ ps))
ascends_out k a ps true es h ih = simp es h.1
ascends_out k a ps false es h ih = simp es (above_removed a.key k ps h.0, ih)

pub ascends_removed : (k : Bytes) (ps : Pairs) → Ascends ps → Ascends (removed k ps)
ascends_removed k [] h = tt
ascends_removed k (a ∷ ps) h = ascends_out k a ps (same k a.key) refl h (ascends_removed k ps h.1)

keys_out : (P : Bytes → Type 0) (k : Bytes) (a : Pair) (ps : Pairs) (s : Bool) → same k a.key ≡ s → AllKeys P (a ∷ ps) → AllKeys P (removed k ps) → AllKeys P (removed k (a ∷ ps))
keys_out P k a ps true es h ih = simp es h.1
keys_out P k a ps false es h ih = simp es (h.0, ih)

pub keys_removed : (P : Bytes → Type 0) (k : Bytes) (ps : Pairs) → AllKeys P ps → AllKeys P (removed k ps)
keys_removed P k [] h = tt
keys_removed P k (a ∷ ps) h = keys_out P k a ps (same k a.key) refl h (keys_removed P k ps h.1)

-- ---- the calls

wrote_lawful : (w t : Bool) (e : StoreFault) (ps : Pairs) (m n : Meaning) (r : Result Unit StoreFault) → Lawful m.pairs m.longest → (w ≡ true → Lawful ps m.longest) → Wrote (guarded w (decided t e ps)) m n r → Lawful n.pairs n.longest
wrote_lawful true true e ps m n r l f s = rw (s.kept.0, s.kept.1) (f refl)
wrote_lawful true false e ps m n r l f s = subst (λ (x : Meaning). Lawful x.pairs x.longest) (sym s.kept) l
wrote_lawful false t e ps m n r l f s = subst (λ (x : Meaning). Lawful x.pairs x.longest) (sym s.kept) l

pub inserted_lawful : (longest : ℕ) (k v : Bytes) (ps : Pairs) → well_key longest k ≡ true → Lawful ps longest → Lawful (inserted k v ps) longest
inserted_lawful longest k v ps w l = record { ascends = ascends_inserted k v ps l.ascends; short = l.short; keys = keys_inserted (λ j. well_key longest j ≡ true) k v ps w l.keys }

pub removed_lawful : (longest : ℕ) (k : Bytes) (ps : Pairs) → Lawful ps longest → Lawful (removed k ps) longest
removed_lawful longest k ps l = record { ascends = ascends_removed k ps l.ascends; short = l.short; keys = keys_removed (λ j. well_key longest j ≡ true) k ps l.keys }

pub writes_keep_lawful_lem : WritesKeepLawful
writes_keep_lawful_lem k v m n r l = (
  (λ s. wrote_lawful (well_key m.longest k) (m.takes k (length v)) NotTaken (inserted k v m.pairs) m n r l (λ w. inserted_lawful m.longest k v m.pairs w l) s),
  (λ s. wrote_lawful (well_key m.longest k) (absent (lookup k m.pairs) || m.lets k) NotLetGo (removed k m.pairs) m n r l (λ w. removed_lawful m.longest k m.pairs l) s),
)

wrote_other : (w t : Bool) (e : StoreFault) (ps : Pairs) (m n : Meaning) (r : Result Unit StoreFault) (j : Bytes) (size : ℕ) → lookup j ps ≡ lookup j m.pairs → Wrote (guarded w (decided t e ps)) m n r → got n.longest n.pairs j size ≡ got m.longest m.pairs j size
wrote_other true true e ps m n r j size h s =
    let l : lookup j n.pairs ≡ lookup j m.pairs = ap (lookup j) s.kept.0 ∙ h in
    ap (λ (x : ℕ). got x n.pairs j size) s.kept.1 ∙ ap (λ (o : Option Bytes). guarded (well_key m.longest j) (fitted size o)) l
wrote_other true false e ps m n r j size h s = ap (λ (x : Meaning). got x.longest x.pairs j size) s.kept
wrote_other false t e ps m n r j size h s = ap (λ (x : Meaning). got x.longest x.pairs j size) s.kept

pub other_keys_stay_lem : OtherKeysStay
other_keys_stay_lem k v j m n r size h = (
  (λ s. wrote_other (well_key m.longest k) (m.takes k (length v)) NotTaken (inserted k v m.pairs) m n r j size (lookup_other j k v m.pairs h) s),
  (λ s. wrote_other (well_key m.longest k) (absent (lookup k m.pairs) || m.lets k) NotLetGo (removed k m.pairs) m n r j size (lookup-kept j k m.pairs h) s),
)

wrote_gone : (w t : Bool) (e : StoreFault) (ps : Pairs) (m n : Meaning) (r : Result Unit StoreFault) (k : Bytes) (size : ℕ) → well_key m.longest k ≡ w → lookup k ps ≡ None → Wrote (guarded w (decided t e ps)) m n r → r ≡ Ok tt → got n.longest n.pairs k size ≡ Ok None
wrote_gone true true e ps m n r k size w h s o =
    let l : lookup k n.pairs ≡ None = ap (lookup k) s.kept.0 ∙ h in
    let g : well_key n.longest k ≡ true = ap (λ (x : ℕ). well_key x k) s.kept.1 ∙ w in
    ap (λ (b : Bool). guarded b (fitted size (lookup k n.pairs))) g ∙ ap (λ (q : Option Bytes). fitted size q) l
wrote_gone true false e ps m n r k size w h s o = let a : r ≡ Err e = s.answers in absurd (cc)
wrote_gone false t e ps m n r k size w h s o = let a : r ≡ Err Malformed = s.answers in absurd (cc)

pub erase_then_get_lem : EraseThenGet
erase_then_get_lem k m n r size l s e =
    wrote_gone (well_key m.longest k) (absent (lookup k m.pairs) || m.lets k) NotLetGo (removed k m.pairs) m n r k size refl (lookup-removed k m.pairs l.ascends) s e
