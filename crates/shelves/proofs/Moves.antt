-- What a slot put in, a value replaced and a slot taken out do to the sum, the places and the pairs.
-- Assumes nothing.
use Rattle.std.proofs.Common.{◌≡◌, ℕ, ◌+◌, ◌-◌, ◌<◌, ◌≤◌, true, eqb, List, [], ◌∷◌, ◌++◌, length, take, drop, set, sym, refl, ap, ◌∙◌, zero-add, arith, eq-eqb}
use Rattle.std.proofs.lemmas.List.{append_assoc, drop-drop, drop_at, take_at, length-take-le, take_more_set, drop-set-lt, length-drop}
use Rattle.text.specs.Bytes.{Bytes}
use Rattle.keys.specs.Values.{key_text}
use Rattle.keys.specs.declared.store_key.StoreKey.{StoreKey}
use Rattle.stores.specs.Pairs.{Pairs, pair, inserted, removed, AllAbove}
use Rattle.shelves.specs.declared.slot.Slot.{Slot}
use Rattle.shelves.specs.Slots.{slot, entries, total, placed, laid}
use Rattle.shelves.proofs.Laying.{total-append, total-laid, entries-append, entries_front, entries-laid, placed-append, placed_front, placed_back, placed-laid, placed_head, placed-tail}
use Rattle.shelves.proofs.Sought.{AllBelow, inserted_between, inserted_over, removed_between}

-- the sum, the places and the pairs of some slots
pub record Held (xs : List Slot) (b : Bytes) (n : ℕ) (ps : Pairs) : Type 0 where
  pub sum : total xs ≡ n
  pub places : placed 0 xs ≡ true
  pub pairs : entries xs b ≡ ps

-- an empty value between fs and bs
pub put_in : (fs bs : List Slot) (k : StoreKey) (p : ℕ) (b : Bytes) → p ≡ total fs → placed 0 (fs ++ bs) ≡ true → AllBelow (key_text k) (entries fs b) → AllAbove (key_text k) (entries bs (drop (total fs) b))
    → Held (fs ++ (slot k p 0 ∷ bs)) b (total (fs ++ bs)) (inserted (key_text k) [] (entries (fs ++ bs) b))
put_in fs bs k p b e h l r =
    let t = total-append fs bs in
    let u = total-append fs (slot k p 0 ∷ bs) in
    let back = placed_back 0 fs bs h in
    let q : eqb p (0 + total fs) ≡ true = eq-eqb p (0 + total fs) (omega arith) in
    let z : 0 + total fs + 0 ≡ 0 + total fs = omega arith in
    let v : placed (0 + total fs) (slot k p 0 ∷ bs) ≡ true = rw (q, z) back in
    record {
      sum = omega arith;
      places = placed-append 0 fs (slot k p 0 ∷ bs) (placed_front 0 fs bs h) v;
      pairs = entries-append fs (slot k p 0 ∷ bs) b ∙ sym (inserted_between (key_text k) [] (entries fs b) (entries bs (drop (total fs) b)) l r) ∙ ap (inserted (key_text k) []) (sym (entries-append fs bs b));
    }

-- an empty value taken out from between them
pub take_out : (fs bs : List Slot) (s : Slot) (b : Bytes) → s.span.size ≡ 0 → placed 0 (fs ++ (s ∷ bs)) ≡ true → AllBelow (key_text s.key) (entries fs b)
    → Held (fs ++ bs) b (total (fs ++ (s ∷ bs))) (removed (key_text s.key) (entries (fs ++ (s ∷ bs)) b))
take_out fs bs s b e h l =
    let t = total-append fs bs in
    let u = total-append fs (s ∷ bs) in
    let y = drop (total fs) b in
    let back : placed (0 + total fs + s.span.size) bs ≡ true = placed-tail (0 + total fs) s bs (placed_back 0 fs (s ∷ bs) h) in
    let z : 0 + total fs + s.span.size ≡ 0 + total fs = omega arith in
    let same : entries bs (drop s.span.size y) ≡ entries bs y = ap (λ n. entries bs (drop n y)) e in
    let whole : entries (fs ++ (s ∷ bs)) b ≡ entries fs b ++ (pair (key_text s.key) (take s.span.size y) ∷ entries bs y) = entries-append fs (s ∷ bs) b ∙ ap (λ (ps : Pairs). entries fs b ++ (pair (key_text s.key) (take s.span.size y) ∷ ps)) same in
    record {
      sum = omega arith;
      places = placed-append 0 fs bs (placed_front 0 fs (s ∷ bs) h) (rw z at back);
      pairs = entries-append fs bs b ∙ sym (removed_between (key_text s.key) (take s.span.size y) (entries fs b) (entries bs y) l) ∙ ap (removed (key_text s.key)) (sym whole);
    }

-- a value replaced: c are the bytes then, what was before it, the new value, what was behind it, and the rest
pub put_over : (fs bs : List Slot) (s : Slot) (v b c tail : Bytes) (used : ℕ) → total (fs ++ (s ∷ bs)) ≡ used → used ≤ length b → placed 0 (fs ++ (s ∷ bs)) ≡ true → AllBelow (key_text s.key) (entries fs b)
    → c ≡ take s.span.place b ++ (v ++ (take (used - (s.span.place + s.span.size)) (drop (s.span.place + s.span.size) b) ++ tail))
    → Held (fs ++ (slot s.key s.span.place (length v) ∷ laid (s.span.place + length v) bs)) c (used - s.span.size + length v) (inserted (key_text s.key) v (entries (fs ++ (s ∷ bs)) b))
put_over fs bs s v b c tail used sum within h l e =
    let k = key_text s.key in
    let p = s.span.place in
    let q = p + length v in
    let old = s.span.size in
    let m = used - (p + old) in
    let x = slot s.key p (length v) in
    let t = total-append fs (s ∷ bs) in
    let u = total-append fs (x ∷ laid q bs) in
    let tl = total-laid q bs in
    let back = placed_back 0 fs (s ∷ bs) h in
    let at : p ≡ total fs = placed_head (0 + total fs) s bs back ∙ zero-add (total fs) in
    let tm : total bs ≡ m = omega arith in
    let y = drop (p + old) b in
    let r = take m y ++ tail in
    let lp : length (take p b) ≡ p = length-take-le p b (omega arith) in
    let ly : length (take m y) ≡ m = length-take-le m y (omega (arith, length-drop (p + old) b)) in
    let front : take p c ≡ take p b = ap (take p) e ∙ take_at (take p b) (v ++ r) p lp in
    let behind : drop p c ≡ v ++ r = ap (drop p) e ∙ drop_at (take p b) (v ++ r) p lp in
    let ef : entries fs c ≡ entries fs b = entries_front fs c b (ap (λ n. take n c) (sym at) ∙ front ∙ ap (λ n. take n b) at) in
    let er : entries bs r ≡ entries bs y = entries_front bs r y (ap (λ n. take n r) tm ∙ take_at (take m y) tail m ly ∙ ap (λ n. take n y) (sym tm)) in
    let tv : take (length v) (v ++ r) ≡ v = take_at v r (length v) refl in
    let dv : drop (length v) (v ++ r) ≡ r = drop_at v r (length v) refl in
    let ex : entries (x ∷ laid q bs) (v ++ r) ≡ (pair k v ∷ entries bs y) = rw (tv, dv) (ap (λ (ps : Pairs). pair k v ∷ ps) (entries-laid q bs r ∙ er)) in
    let new : entries (fs ++ (x ∷ laid q bs)) c ≡ entries fs b ++ (pair k v ∷ entries bs y) =
    entries-append fs (x ∷ laid q bs) c ∙ ap (λ (ps : Pairs). ps ++ entries (x ∷ laid q bs) (drop (total fs) c)) ef ∙ ap (λ n. entries fs b ++ entries (x ∷ laid q bs) (drop n c)) (sym at) ∙ ap (λ (w : Bytes). entries fs b ++ entries (x ∷ laid q bs) w) behind ∙ ap (λ (ps : Pairs). entries fs b ++ ps) ex
    in
    let dd : drop old (drop (total fs) b) ≡ y = drop-drop old (total fs) b ∙ ap (λ n. drop (n + old) b) (sym at) in
    let was : entries (fs ++ (s ∷ bs)) b ≡ entries fs b ++ (pair k (take old (drop (total fs) b)) ∷ entries bs y) = entries-append fs (s ∷ bs) b ∙ ap (λ (w : Bytes). entries fs b ++ (pair k (take old (drop (total fs) b)) ∷ entries bs w)) dd in
    let z : 0 + total fs ≡ p = omega arith in
    let pb : placed (0 + total fs) (x ∷ laid q bs) ≡ true = rw (z, eq-eqb p p refl) (placed-laid q bs) in
    record {
      sum = omega arith;
      places = placed-append 0 fs (x ∷ laid q bs) (placed_front 0 fs (s ∷ bs) h) pb;
      pairs = new ∙ sym (inserted_over k v (take old (drop (total fs) b)) (entries fs b) (entries bs y) l) ∙ ap (inserted k v) (sym was);
    }

-- the slots after one is replaced and those behind it have their places set
pub relaid : (xs : List Slot) (i : ℕ) (x : Slot) (q : ℕ) → i < length xs → take (i + 1) (set xs i x) ++ laid q (drop (i + 1) (set xs i x)) ≡ take i xs ++ (x ∷ laid q (drop (i + 1) xs))
relaid xs i x q h =
    let t = take_more_set xs i x h in
    let d = drop-set-lt (i + 1) xs i x (omega arith) in
    rw (t, d) (append_assoc (take i xs) (x ∷ []) (laid q (drop (i + 1) xs)))
