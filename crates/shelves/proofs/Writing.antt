-- What the calls that write say, by what was found.
-- Assumes nothing.
use Rattle.std.proofs.Common.{◌≡◌, ℕ, ◌+◌, ◌<◌, ◌≤◌, Bool, true, false, cond, ◌&&◌, ◌||◌, leb, List, length, get_or, replicate, Ok, Err, Result, sym, refl, ap, ◌∙◌, inl, inr, arith, le-leb, leb-true}
use borrow.Author.Tests.{lt-leb, both_ways}
use Rattle.std.proofs.lemmas.List.{length-replicate}
use Rattle.text.specs.Bytes.{Bytes, before}
use Rattle.text.proofs.Order.{Either, before_either}
use Rattle.keys.specs.declared.fault.StoreFault.{StoreFault}
use Rattle.keys.specs.declared.fault.StoreFault.TheVariants.{Malformed, NotTaken, NotLetGo}
use Rattle.keys.specs.declared.store_key.StoreKey.{StoreKey}
use Rattle.keys.specs.Keys.{is_key}
use Rattle.keys.specs.Values.{key_text}
use Rattle.table.specs.Order.{Parts, Found}
use Rattle.stores.specs.Pairs.{Pairs, lookup, inserted, removed}
use Rattle.stores.specs.Answers.{guarded, decided, absent}
use Rattle.stores.specs.Meaning.{Meaning, Wrote, Set, Erase}
use Rattle.shelves.specs.declared.slot.Slot.{Slot}
use Rattle.shelves.specs.Slots.{slot, slot_before, weight, taken}
use Rattle.shelves.specs.declared.shelf.Shelf.{Shelf}
use Rattle.shelves.specs.Ranks.{by_keys}
use Rattle.shelves.specs.Meant.{pairs_in, meaning, Lent}
use Rattle.shelves.specs.Laws.{TakesExactly}
use Rattle.shelves.proofs.Sought.{weighs_alike}
use Rattle.shelves.proofs.Laying.{both}
use Rattle.shelves.proofs.Changed.{known_fits, new_fits}

-- ---- the step relation

wrote_bad : (w : Bool) (x : Result Pairs StoreFault) (m : Meaning) (f : StoreFault) → w ≡ false → f ≡ Malformed → Wrote (guarded w x) m m (Err f)
wrote_bad true x m f h e = let z : true ≡ false = h in absurd (both_ways true h refl)
wrote_bad false x m f h e = record { answers = ap Err e; kept = refl }

wrote_not : (w t : Bool) (f : StoreFault) (ps : Pairs) (m : Meaning) → w ≡ true → t ≡ false → Wrote (guarded w (decided t f ps)) m m (Err f)
wrote_not true true f ps m h e = absurd (both_ways true e refl)
wrote_not true false f ps m h e = record { answers = refl; kept = refl }
wrote_not false t f ps m h e = absurd (both_ways false refl h)

wrote_did : (w t : Bool) (f : StoreFault) (ps : Pairs) (m n : Meaning) → w ≡ true → t ≡ true → n.pairs ≡ ps → n.longest ≡ m.longest → Wrote (guarded w (decided t f ps)) m n (Ok tt)
wrote_did true true f ps m n h e p l = record { answers = refl; kept = (p, l) }
wrote_did true false f ps m n h e p l = absurd (both_ways false refl e)
wrote_did false t f ps m n h e p l = absurd (both_ways false refl h)

or_true : (a : Bool) → (a || true) ≡ true
or_true true = refl
or_true false = refl

-- ---- the key

pub key_ok : (w : Bool) (x k : Bytes) → ◌≡◌ {A = Result Bytes StoreFault} (Ok x) (cond w (Ok k) (Err Malformed)) → (w ≡ true) × (x ≡ k)
key_ok true x k e = (refl, cc)
key_ok false x k e = let z : ◌≡◌ {A = ℕ} 0 1 = cc in absurd (omega arith)

pub key_bad : (w : Bool) (f : StoreFault) (k : Bytes) → ◌≡◌ {A = Result Bytes StoreFault} (Err f) (cond w (Ok k) (Err Malformed)) → (w ≡ false) × (f ≡ Malformed)
key_bad true f k e = let z : ◌≡◌ {A = ℕ} 0 1 = cc in absurd (omega arith)
key_bad false f k e = (refl, cc)

-- neither before the other: the same
pub one_key : (x y : Bytes) → before x y ≡ false → before y x ≡ false → x ≡ y
one_key x y f g = by (before_either x y)
  where
    by : Either x y → x ≡ y
    by (inl h) = absurd (both_ways (before x y) f h)
    by (inr (inl h)) = h
    by (inr (inr h)) = absurd (both_ways (before y x) g h)

-- ---- a call on a shelf, by what was found

pub same_lent : (shelf : Shelf) → Lent shelf shelf
same_lent shelf = (refl, refl, refl, refl)

pub lent_twice : (s t u : Shelf) → Lent s t → Lent t u → Lent s u
lent_twice s t u a b = (b.0 ∙ a.0, b.1 ∙ a.1, b.2 ∙ a.2, b.3 ∙ a.3)

module _ (shelf : Shelf) (k : Bytes) where
  pub set_bad : (v : Bytes) (f : StoreFault) → (is_key k ≡ false) × (f ≡ Malformed) → Set k v (meaning shelf) (meaning shelf) (Err f)
  set_bad v f bad = wrote_bad (is_key k) (decided ((meaning shelf).takes k (length v)) NotTaken (inserted k v (pairs_in shelf))) (meaning shelf) f bad.0 bad.1

  pub set_not : (v : Bytes) → is_key k ≡ true → (meaning shelf).takes k (length v) ≡ false → Set k v (meaning shelf) (meaning shelf) (Err NotTaken)
  set_not v key t = wrote_not (is_key k) ((meaning shelf).takes k (length v)) NotTaken (inserted k v (pairs_in shelf)) (meaning shelf) key t

  pub set_did : (v : Bytes) (after : Shelf) → is_key k ≡ true → (meaning shelf).takes k (length v) ≡ true → pairs_in after ≡ inserted k v (pairs_in shelf) → Set k v (meaning shelf) (meaning after) (Ok tt)
  set_did v after key t e = wrote_did (is_key k) ((meaning shelf).takes k (length v)) NotTaken (inserted k v (pairs_in shelf)) (meaning shelf) (meaning after) key t e refl

  pub erase_bad : (f : StoreFault) → (is_key k ≡ false) × (f ≡ Malformed) → Erase k (meaning shelf) (meaning shelf) (Err f)
  erase_bad f bad = wrote_bad (is_key k) (decided (absent (lookup k (pairs_in shelf)) || true) NotLetGo (removed k (pairs_in shelf))) (meaning shelf) f bad.0 bad.1

  pub erase_did : (after : Shelf) → is_key k ≡ true → pairs_in after ≡ removed k (pairs_in shelf) → Erase k (meaning shelf) (meaning after) (Ok tt)
  erase_did after key e = wrote_did (is_key k) (absent (lookup k (pairs_in shelf)) || true) NotLetGo (removed k (pairs_in shelf)) (meaning shelf) (meaning after) key (or_true (absent (lookup k (pairs_in shelf)))) e refl

-- ---- what is taken

pub taken_yes : (slots bytes : ℕ) (ps : Pairs) (k : Bytes) (m : ℕ) → length (inserted k (replicate m 0) ps) ≤ slots → weight (inserted k (replicate m 0) ps) ≤ bytes → taken slots bytes ps k m ≡ true
taken_yes slots bytes ps k m h g = rw (le-leb (length (inserted k (replicate m 0) ps)) slots h, le-leb (weight (inserted k (replicate m 0) ps)) bytes g)

pub taken_few : (slots bytes : ℕ) (ps : Pairs) (k : Bytes) (m : ℕ) → slots < length (inserted k (replicate m 0) ps) → taken slots bytes ps k m ≡ false
taken_few slots bytes ps k m h = rw (lt-leb (length (inserted k (replicate m 0) ps)) slots h)

and_false : (a : Bool) → (a && false) ≡ false
and_false true = refl
and_false false = refl

pub taken_long : (slots bytes : ℕ) (ps : Pairs) (k : Bytes) (m : ℕ) → bytes < weight (inserted k (replicate m 0) ps) → taken slots bytes ps k m ≡ false
taken_long slots bytes ps k m h = rw (lt-leb (weight (inserted k (replicate m 0) ps)) bytes h) (and_false (leb (length (inserted k (replicate m 0) ps)) slots))

pub takes_exactly : TakesExactly
takes_exactly slots bytes ps k v =
    let u = replicate (length v) 0 in
    let a = weighs_alike k v u ps (sym (length-replicate (length v) 0)) in (
      (λ h.
          let t = both (leb (length (inserted k u ps)) slots) (leb (weight (inserted k u ps)) bytes) h in
          let f = leb-true (length (inserted k u ps)) slots t.0 in
          let g = leb-true (weight (inserted k u ps)) bytes t.1 in
          (omega (arith, a.0, f), omega (arith, a.1, g))),
      (λ f. taken_yes slots bytes ps k (length v) (omega (arith, a.0, f.0)) (omega (arith, a.1, f.1))),
    )

module _ (shelf : Shelf) (key : StoreKey) (k : Bytes) (is : key_text key ≡ k) (v : Bytes) where
  abbrev ss : List Slot
  ss = shelf.rows.slots.now

  abbrev n : ℕ
  n = shelf.rows.len

  abbrev b : Bytes
  b = shelf.bytes.now

  pub found_key : (i : ℕ) (d : Slot) → Found slot_before ss n (slot key 0 0) i → key_text (get_or ss i d).key ≡ k
  found_key i d f =
      let x = get_or ss i d in
      let y = slot key 0 0 in
      one_key (key_text x.key) (key_text key) (by_keys x y ∙ (f.1 d).0) (by_keys y x ∙ (f.1 d).1) ∙ is

  abbrev none : Bytes
  none = replicate (length v) 0

  known : (i : ℕ) (x : Slot) → Found slot_before ss n (slot key 0 0) i → ((d : Slot) → x ≡ get_or ss i d) → (length (inserted k none (pairs_in shelf)) ≡ n) × (weight (inserted k none (pairs_in shelf)) + x.span.size ≡ shelf.used + length v)
  known i x f at =
      let t : key_text x.key ≡ k = ap (λ (y : Slot). key_text y.key) (at x) ∙ found_key i x f in
      let r = known_fits shelf i x none f.0 at in
      let l = length-replicate (length v) 0 in
      (ap (λ (q : Bytes). length (inserted q none (pairs_in shelf))) (sym t) ∙ r.0, ap (λ (q : Bytes). weight (inserted q none (pairs_in shelf)) + x.span.size) (sym t) ∙ r.1 ∙ ap (λ m. shelf.used + m) l)

  new : (i : ℕ) → Parts slot_before ss n (slot key 0 0) i → (length (inserted k none (pairs_in shelf)) ≡ n + 1) × (weight (inserted k none (pairs_in shelf)) ≡ shelf.used + length v)
  new i parts =
      let r = new_fits shelf i key none parts in
      let l = length-replicate (length v) 0 in
      (ap (λ (q : Bytes). length (inserted q none (pairs_in shelf))) (sym is) ∙ r.0, ap (λ (q : Bytes). weight (inserted q none (pairs_in shelf))) (sym is) ∙ r.1 ∙ ap (λ m. shelf.used + m) l)

  pub known_taken : (i : ℕ) (x : Slot) → Found slot_before ss n (slot key 0 0) i → ((d : Slot) → x ≡ get_or ss i d) → shelf.used + length v ≤ length b + x.span.size → taken (length ss) (length b) (pairs_in shelf) k (length v) ≡ true
  known_taken i x f at h = let r = known i x f at in taken_yes (length ss) (length b) (pairs_in shelf) k (length v) (omega (arith, r.0, shelf.rows.within)) (omega (arith, r.1))

  pub known_not : (i : ℕ) (x : Slot) → Found slot_before ss n (slot key 0 0) i → ((d : Slot) → x ≡ get_or ss i d) → length b + x.span.size < shelf.used + length v → taken (length ss) (length b) (pairs_in shelf) k (length v) ≡ false
  known_not i x f at h = let r = known i x f at in taken_long (length ss) (length b) (pairs_in shelf) k (length v) (omega (arith, r.1))

  pub new_taken : (i : ℕ) → Parts slot_before ss n (slot key 0 0) i → n < length ss → shelf.used + length v ≤ length b → taken (length ss) (length b) (pairs_in shelf) k (length v) ≡ true
  new_taken i parts g h = let r = new i parts in taken_yes (length ss) (length b) (pairs_in shelf) k (length v) (omega (arith, r.0)) (omega (arith, r.1))

  pub new_full : (i : ℕ) → Parts slot_before ss n (slot key 0 0) i → length ss ≤ n → taken (length ss) (length b) (pairs_in shelf) k (length v) ≡ false
  new_full i parts g = let r = new i parts in taken_few (length ss) (length b) (pairs_in shelf) k (length v) (omega (arith, r.0))

  pub new_long : (i : ℕ) → Parts slot_before ss n (slot key 0 0) i → length b < shelf.used + length v → taken (length ss) (length b) (pairs_in shelf) k (length v) ≡ false
  new_long i parts g = let r = new i parts in taken_long (length ss) (length b) (pairs_in shelf) k (length v) (omega (arith, r.1))
