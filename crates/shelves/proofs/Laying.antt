-- Slots in parts: their pairs, their bytes and their places.
-- Assumes nothing.
use Rattle.std.proofs.Common.{◌≡◌, ℕ, zero, suc, ◌+◌, ◌<◌, ◌≤◌, Bool, true, false, ◌&&◌, eqb, List, [], ◌∷◌, ◌++◌, length, get_or, take, drop, set, sym, refl, ap, ◌∙◌, zero-add, arith, eq-eqb}
use Rattle.std.proofs.lemmas.List.{append_assoc, append-nil, get_or-take, take_all, drop_all, take_more_set, drop-set-lt, drop-drop, take-take, drop-take, take-append-drop, drop_more, length-take-le, length-drop}
use Rattle.std.proofs.lemmas.Bool.Decides.{nat_tests}
use Rattle.std.specs.Bool.{MatchBool}
use Rattle.text.specs.Bytes.{Bytes}
use Rattle.keys.specs.Values.{key_text}
use Rattle.stores.specs.Pairs.{Pairs, pair}
use Rattle.shelves.specs.declared.slot.Slot.{Slot}
use Rattle.shelves.specs.Slots.{slot, entries, total, placed, laid, weight}

-- ---- sums

pub total-append : (fs bs : List Slot) → total (fs ++ bs) ≡ total fs + total bs
total-append [] bs = sym (zero-add (total bs))
total-append (s ∷ fs) bs = let ih = total-append fs bs in omega arith

pub total-laid : (p : ℕ) (xs : List Slot) → total (laid p xs) ≡ total xs
total-laid p [] = refl
total-laid p (s ∷ ss) = ap (λ n. s.span.size + n) (total-laid (p + s.span.size) ss)

-- ---- pairs

pub entries-append : (fs bs : List Slot) (b : Bytes) → entries (fs ++ bs) b ≡ entries fs b ++ entries bs (drop (total fs) b)
entries-append [] bs b = refl
entries-append (s ∷ fs) bs b =
    ap (λ (ps : Pairs). pair (key_text s.key) (take s.span.size b) ∷ ps)
    (entries-append fs bs (drop s.span.size b) ∙ ap (λ (c : Bytes). entries fs (drop s.span.size b) ++ entries bs c) (drop-drop (total fs) s.span.size b))

-- only the bytes of the values matter
pub entries_front : (xs : List Slot) (b c : Bytes) → take (total xs) b ≡ take (total xs) c → entries xs b ≡ entries xs c
entries_front [] b c h = refl
entries_front (s ∷ ss) b c h =
    let n = s.span.size in
    let t = total ss in
    let le : n ≤ n + t = omega arith in
    let f : take n b ≡ take n c = sym (take-take n (n + t) b le) ∙ ap (take n) h ∙ take-take n (n + t) c le in
    let g : take t (drop n b) ≡ take t (drop n c) = sym (drop-take n t b) ∙ ap (drop n) h ∙ drop-take n t c in
    let ih : entries ss (drop n b) ≡ entries ss (drop n c) = entries_front ss (drop n b) (drop n c) g in
    cc

pub entries-laid : (p : ℕ) (xs : List Slot) (b : Bytes) → entries (laid p xs) b ≡ entries xs b
entries-laid p [] b = refl
entries-laid p (s ∷ ss) b = ap (λ (ps : Pairs). pair (key_text s.key) (take s.span.size b) ∷ ps) (entries-laid (p + s.span.size) ss (drop s.span.size b))

pub length-entries : (xs : List Slot) (b : Bytes) → length (entries xs b) ≡ length xs
length-entries [] b = refl
length-entries (s ∷ ss) b = ap suc (length-entries ss (drop s.span.size b))

pub weight-entries : (xs : List Slot) (b : Bytes) → total xs ≤ length b → weight (entries xs b) ≡ total xs
weight-entries [] b h = refl
weight-entries (s ∷ ss) b h =
    let l = length-take-le s.span.size b (omega arith) in
    let m = length-drop s.span.size b in
    let ih = weight-entries ss (drop s.span.size b) (omega arith) in
    omega arith

-- ---- places

pub both : (a b : Bool) → (a && b) ≡ true → (a ≡ true) × (b ≡ true)
both true b h = (refl, h)
both false b h = let e : false ≡ true = h in let z : ◌≡◌ {A = ℕ} 0 1 = cc in absurd (omega arith)

pub placed-append : (p : ℕ) (fs bs : List Slot) → placed p fs ≡ true → placed (p + total fs) bs ≡ true → placed p (fs ++ bs) ≡ true
placed-append p [] bs h k = let e : p + 0 ≡ p = omega arith in rw e at k
placed-append p (s ∷ fs) bs h k =
    let t = both (eqb s.span.place p) (placed (p + s.span.size) fs) h in
    let e : p + (s.span.size + total fs) ≡ p + s.span.size + total fs = omega arith in
    let k' : placed (p + s.span.size + total fs) bs ≡ true = rw e at k in
    let ih : placed (p + s.span.size) (fs ++ bs) ≡ true = placed-append (p + s.span.size) fs bs t.1 k' in
    rw t.0 ih

pub placed_front : (p : ℕ) (fs bs : List Slot) → placed p (fs ++ bs) ≡ true → placed p fs ≡ true
placed_front p [] bs h = refl
placed_front p (s ∷ fs) bs h = let t = both (eqb s.span.place p) (placed (p + s.span.size) (fs ++ bs)) h in rw t.0 (placed_front (p + s.span.size) fs bs t.1)

pub placed_back : (p : ℕ) (fs bs : List Slot) → placed p (fs ++ bs) ≡ true → placed (p + total fs) bs ≡ true
placed_back p [] bs h = let e : p + 0 ≡ p = omega arith in rw e h
placed_back p (s ∷ fs) bs h =
    let t = both (eqb s.span.place p) (placed (p + s.span.size) (fs ++ bs)) h in
    let e : p + (s.span.size + total fs) ≡ p + s.span.size + total fs = omega arith in
    rw e (placed_back (p + s.span.size) fs bs t.1)

pub placed-laid : (p : ℕ) (xs : List Slot) → placed p (laid p xs) ≡ true
placed-laid p [] = refl
placed-laid p (s ∷ ss) = rw (eq-eqb p p refl) (placed-laid (p + s.span.size) ss)

pub placed_head : (p : ℕ) (s : Slot) (ss : List Slot) → placed p (s ∷ ss) ≡ true → s.span.place ≡ p
placed_head p s ss h = let t = both (eqb s.span.place p) (placed (p + s.span.size) ss) h in let e = t.0 in grind (arith, nat_tests)

pub placed-tail : (p : ℕ) (s : Slot) (ss : List Slot) → placed p (s ∷ ss) ≡ true → placed (p + s.span.size) ss ≡ true
placed-tail p s ss h = let t = both (eqb s.span.place p) (placed (p + s.span.size) ss) h in t.1

-- ---- one place

pub split_at : (xs : List Slot) (i : ℕ) (d : Slot) → i < length xs → xs ≡ take i xs ++ (get_or xs i d ∷ drop (i + 1) xs)
split_at xs i d h = sym (take-append-drop i xs) ∙ ap (λ (ys : List Slot). take i xs ++ ys) (drop_more xs i d h)

pub place_at : (xs : List Slot) (i : ℕ) (d : Slot) → i < length xs → placed 0 xs ≡ true → (get_or xs i d).span.place ≡ total (take i xs)
place_at xs i d h k =
    let e = split_at xs i d h in
    let k' : placed 0 (take i xs ++ (get_or xs i d ∷ drop (i + 1) xs)) ≡ true = ap (placed 0) (sym e) ∙ k in
    placed_head (0 + total (take i xs)) (get_or xs i d) (drop (i + 1) xs) (placed_back 0 (take i xs) (get_or xs i d ∷ drop (i + 1) xs) k') ∙ zero-add (total (take i xs))

pub total_at : (xs : List Slot) (i : ℕ) (d : Slot) → i < length xs → total xs ≡ total (take i xs) + ((get_or xs i d).span.size + total (drop (i + 1) xs))
total_at xs i d h = ap total (split_at xs i d h) ∙ total-append (take i xs) (get_or xs i d ∷ drop (i + 1) xs)

pub take_of_set : (n : ℕ) (xs : List Slot) (i : ℕ) (x : Slot) → take n (set xs i x) ≡ set (take n xs) i x
take_of_set zero xs i x = refl
take_of_set (suc n) [] i x = refl
take_of_set (suc n) (y ∷ xs) zero x = refl
take_of_set (suc n) (y ∷ xs) (suc i) x = ap (λ (ys : List Slot). y ∷ ys) (take_of_set n xs i x)

-- ---- a turn of the loop that gives places

-- a slot in use is given its span
pub spanned : (ss us : List Slot) (n i p q : ℕ) (x : Slot) (r : Bool) (Q : Type 0) → i < n → x ≡ get_or ss i x
    → MatchBool r ((i < n) × ((d : Slot) → us ≡ set ss i (slot (get_or ss i d).key p q))) ((n ≤ i) × Q) → us ≡ set ss i (slot x.key p q)
spanned ss us n i p q x true Q lt at h = h.1 x ∙ ap (λ (y : Slot). set ss i (slot y.key p q)) (sym at)
spanned ss us n i p q x false Q lt at h = absurd (omega (arith, lt, h.0))

pub lay_head : (ss : List Slot) (n i : ℕ) (s : Slot) → n ≤ length ss → i < n → s ≡ get_or ss i s → drop i (take n ss) ≡ s ∷ drop (i + 1) (take n ss)
lay_head ss n i s w h e =
    let l = length-take-le n ss w in
    let at : get_or (take n ss) i s ≡ s = get_or-take n ss i s h ∙ sym e in
    drop_more (take n ss) i s (omega arith) ∙ ap (λ (x : Slot). x ∷ drop (i + 1) (take n ss)) at

pub lay_step : (ss us : List Slot) (n i p : ℕ) (s : Slot) → n ≤ length ss → i < n → s ≡ get_or ss i s → us ≡ set ss i (slot s.key p s.span.size)
    → (p + s.span.size + total (drop (i + 1) (take n us)) ≡ p + total (drop i (take n ss))) × (take (i + 1) (take n us) ++ laid (p + s.span.size) (drop (i + 1) (take n us)) ≡ take i (take n ss) ++ laid p (drop i (take n ss)))
lay_step ss us n i p s w h e f =
    let ys = take n ss in
    let x = slot s.key p s.span.size in
    let l = length-take-le n ss w in
    let hd = lay_head ss n i s w h e in
    let u : take n us ≡ set ys i x = ap (take n) f ∙ take_of_set n ss i x in
    let d : drop (i + 1) (take n us) ≡ drop (i + 1) ys = ap (drop (i + 1)) u ∙ drop-set-lt (i + 1) ys i x (omega arith) in
    let t : take (i + 1) (take n us) ≡ take i ys ++ (x ∷ []) = ap (take (i + 1)) u ∙ take_more_set ys i x (omega arith) in
    let td : total (drop i ys) ≡ s.span.size + total (drop (i + 1) ys) = ap total hd in
    let tu : total (drop (i + 1) (take n us)) ≡ total (drop (i + 1) ys) = ap total d in (
      omega arith,
      rw (t, d) (append_assoc (take i ys) (x ∷ []) (laid (p + s.span.size) (drop (i + 1) ys)) ∙ ap (λ (zs : List Slot). take i ys ++ laid p zs) (sym hd)),
    )

pub lay_end : (ys : List Slot) (i p : ℕ) → length ys ≤ i → take i ys ++ laid p (drop i ys) ≡ ys
lay_end ys i p h = rw (take_all i ys h, drop_all i ys h) (append-nil ys)
