-- What the calls on the slots of a shelf keep, and what they do to its pairs.
-- Assumes nothing.
use Rattle.std.proofs.Common.{◌≡◌, Bool, true, false, ℕ, ◌+◌, ◌-◌, ◌<◌, ◌≤◌, List, [], ◌∷◌, ◌++◌, length, get_or, take, drop, set, Option, Some, None, sym, ap, ◌∙◌, subst, add-one, arith}
use Rattle.std.specs.List as holes
use Rattle.std.proofs.lemmas.List.{take-append-drop, get_or-take, get_or_default, get_or_at, length-take-le, length-append, length-drop}
use Rattle.std.proofs.lemmas.List.Edits.{get_or-insert_at}
use borrow.Author.Tests.{clash}
use Rattle.std.specs.Bool.{MatchBool, Decides}
use Rattle.std.specs.Option.{MatchOption}
use Rattle.text.specs.Bytes.{Bytes}
use Rattle.keys.specs.Values.{key_text}
use Rattle.keys.specs.declared.store_key.StoreKey.{StoreKey}
use Rattle.table.specs.Order.{Parts}
use Rattle.stores.specs.Pairs.{Pair, Pairs, pair, lookup, inserted, removed}
use Rattle.shelves.specs.declared.slot.Slot.{Slot}
use Rattle.shelves.specs.Slots.{slot, slot_before, entries, total, placed, laid, weight, pairs_of}
use Rattle.shelves.specs.declared.shelf.Shelf.{Shelf}
use Rattle.shelves.specs.Meant.{pairs_in}
use Rattle.shelves.proofs.Laying.{entries-append, length-entries, weight-entries, split_at, total_at, place_at, take_of_set}
use Rattle.shelves.proofs.Rising.{front_below, back_above}
use Rattle.shelves.proofs.Sought.{AllBelow, inserted_between, inserted_over, absent_between, weight-append}
use Rattle.shelves.proofs.Moves.{Held, put_in, take_out, put_over, relaid}

pub first_of : (xs : List Slot) (i : ℕ) → i < length xs → Slot
first_of [] i h = absurd (omega arith)
first_of (x ∷ xs) i h = x

-- the sum and the places of the slots in use
pub record Kept (us : List Slot) (m used : ℕ) : Type 0 where
  pub sum : total (take m us) ≡ used
  pub places : placed 0 (take m us) ≡ true

module _ (shelf : Shelf) where
  abbrev ss : List Slot
  ss = shelf.rows.slots.now

  abbrev n : ℕ
  n = shelf.rows.len

  abbrev b : Bytes
  b = shelf.bytes.now

  -- the slots before a place have smaller keys than the one there
  below_at : (i : ℕ) (d : Slot) → i < n → AllBelow (key_text (get_or ss i d).key) (entries (take i (take n ss)) b)
  below_at i d h =
      front_below ss n i (get_or ss i d) b (omega arith)
      (λ k e l. ap (λ (x : Slot). slot_before (get_or ss k e) x) (get_or_default ss i d e (omega (arith, shelf.rows.within))) ∙ shelf.rows.ascends k i e l h)

  split_slots : (i : ℕ) (d : Slot) → i < n → take n ss ≡ take i (take n ss) ++ (get_or ss i d ∷ drop (i + 1) (take n ss))
  split_slots i d h =
      let l = length-take-le n ss shelf.rows.within in
      split_at (take n ss) i d (omega arith) ∙ ap (λ (x : Slot). take i (take n ss) ++ (x ∷ drop (i + 1) (take n ss))) (get_or-take n ss i d h)

  -- a value lies within the bytes in use
  pub inside : (i : ℕ) (d : Slot) → i < n → ((get_or ss i d).span.place ≡ total (take i (take n ss))) × ((get_or ss i d).span.place + ((get_or ss i d).span.size + total (drop (i + 1) (take n ss))) ≡ shelf.used)
  inside i d h =
      let l = length-take-le n ss shelf.rows.within in
      let e : get_or (take n ss) i d ≡ get_or ss i d = get_or-take n ss i d h in
      let p = place_at (take n ss) i d (omega arith) shelf.places in
      let t = total_at (take n ss) i d (omega arith) in
      let f = ap (λ (x : Slot). x.span.place) e in
      let g = ap (λ (x : Slot). x.span.size) e in
      (sym f ∙ p, omega (arith, shelf.sum))

  added : (us : List Slot) (m i : ℕ) (k : StoreKey) (p : ℕ) → Parts slot_before ss n (slot k 0 0) i → p ≡ total (take i (take n ss)) → m ≡ n + 1 → take m us ≡ holes.insert (take n ss) i (slot k p 0)
      → Kept us m shelf.used × (pairs_of us m b ≡ inserted (key_text k) [] (pairs_in shelf)) × ((d : Slot) → ((get_or us i d).key ≡ k) × ((get_or us i d).span.size ≡ 0))
  added us m i k p parts e em rows =
      let xs = take n ss in
      let whole = take-append-drop i xs in
      let l = length-take-le n ss shelf.rows.within in
      let h : Held (holes.insert xs i (slot k p 0)) b (total (take i xs ++ drop i xs)) (inserted (key_text k) [] (entries (take i xs ++ drop i xs) b)) =
      put_in (take i xs) (drop i xs) k p b e (ap (placed 0) whole ∙ shelf.places) (front_below ss n i (slot k 0 0) b parts.0 parts.1) (back_above ss n i (slot k 0 0) (drop (total (take i xs)) b) shelf.rows.within parts.2)
      in
      let at : (d : Slot) → get_or us i d ≡ slot k p 0 = λ d. sym (get_or-take m us i d (omega (arith, parts.0))) ∙ ap (λ (ys : List Slot). get_or ys i d) rows ∙ get_or-insert_at xs i (slot k p 0) d (omega (arith, parts.0)) in (
        record { sum = ap total rows ∙ h.sum ∙ ap total whole ∙ shelf.sum; places = ap (placed 0) rows ∙ h.places },
        ap (λ (ys : List Slot). entries ys b) rows ∙ h.pairs ∙ ap (λ (ys : List Slot). inserted (key_text k) [] (entries ys b)) whole,
        (λ d. (ap (λ (x : Slot). x.key) (at d), ap (λ (x : Slot). x.span.size) (at d))),
      )

  -- the slot is put in where there is room and its key belongs
  pub added_at : (us : List Slot) (m i : ℕ) (k : StoreKey) (p : ℕ) (r : Bool) (Q : Type 0) → n < length ss → Parts slot_before ss n (slot k 0 0) i → p ≡ total (take i (take n ss))
      → Decides r ((n < length ss) × Parts slot_before ss n (slot k p 0) i) → MatchBool r ((m ≡ n + 1) × (take m us ≡ holes.insert (take n ss) i (slot k p 0))) Q
      → Kept us m shelf.used × (pairs_of us m b ≡ inserted (key_text k) [] (pairs_in shelf)) × (m ≡ n + 1) × ((d : Slot) → ((get_or us i d).key ≡ k) × ((get_or us i d).span.size ≡ 0))
  added_at us m i k p r Q room parts place granted did = by r (granted.1 (room, parts)) did
    where
      by : (r' : Bool) → r' ≡ true → MatchBool r' ((m ≡ n + 1) × (take m us ≡ holes.insert (take n ss) i (slot k p 0))) Q
          → Kept us m shelf.used × (pairs_of us m b ≡ inserted (key_text k) [] (pairs_in shelf)) × (m ≡ n + 1) × ((d : Slot) → ((get_or us i d).key ≡ k) × ((get_or us i d).span.size ≡ 0))
      by true e h = let a = added us m i k p parts place h.0 h.1 in (a.0, a.1, h.0, a.2)
      by false e h = absurd (clash e)

  dropped : (us : List Slot) (m i : ℕ) → i < n → ((d : Slot) → (get_or ss i d).span.size ≡ 0) → take m us ≡ holes.remove (take n ss) i
      → Kept us m shelf.used × ((d : Slot) → pairs_of us m b ≡ removed (key_text (get_or ss i d).key) (pairs_in shelf))
  dropped us m i h empty rows =
      let xs = take n ss in
      let l = length-take-le n ss shelf.rows.within in
      let d0 = first_of ss i (omega (arith, shelf.rows.within)) in
      let rows' : take m us ≡ take i xs ++ drop (i + 1) xs = rows ∙ ap (λ j. take i xs ++ drop j xs) (sym (add-one i)) in
      let held : (d : Slot) → Held (take i xs ++ drop (i + 1) xs) b (total xs) (removed (key_text (get_or ss i d).key) (entries xs b)) = λ d.
      let whole = split_slots i d h in
      let r = take_out (take i xs) (drop (i + 1) xs) (get_or ss i d) b (empty d) (ap (placed 0) (sym whole) ∙ shelf.places) (below_at i d h) in
      record { sum = r.sum ∙ ap total (sym whole); places = r.places; pairs = r.pairs ∙ ap (λ (ys : List Slot). removed (key_text (get_or ss i d).key) (entries ys b)) (sym whole) }
      in (
        record { sum = ap total rows' ∙ (held d0).sum ∙ shelf.sum; places = ap (placed 0) rows' ∙ (held d0).places },
        (λ d. ap (λ (ys : List Slot). entries ys b) rows' ∙ (held d).pairs),
      )

  pub dropped_at : (us : List Slot) (m i : ℕ) (r : Option Slot) → i < n → ((d : Slot) → (get_or ss i d).span.size ≡ 0)
      → MatchOption r ((n ≤ i) × (m ≡ n) × (us ≡ ss)) (λ x. (i < n) × ((d : Slot) → x ≡ get_or ss i d) × (m + 1 ≡ n) × (take m us ≡ holes.remove (take n ss) i))
      → Kept us m shelf.used × ((d : Slot) → pairs_of us m b ≡ removed (key_text (get_or ss i d).key) (pairs_in shelf))
  dropped_at us m i (Some x) lt empty out = dropped us m i lt empty out.3
  dropped_at us m i None lt empty out = absurd (omega (arith, lt, out.0))

  -- s is the slot at i, and c are the bytes after its value is replaced by v
  pub resized : (us ws : List Slot) (o m i : ℕ) (s : Slot) (v c tail : Bytes) → i < n → ((d : Slot) → s ≡ get_or ss i d) → shelf.used + length v ≤ length b + s.span.size
      → c ≡ take s.span.place b ++ (v ++ (take (shelf.used - (s.span.place + s.span.size)) (drop (s.span.place + s.span.size) b) ++ tail))
      → o ≡ n → us ≡ set ss i (slot s.key s.span.place (length v)) → m ≡ o → take m ws ≡ take (i + 1) (take o us) ++ laid (s.span.place + length v) (drop (i + 1) (take o us))
      → Kept ws m (shelf.used - s.span.size + length v) × ((d : Slot) → pairs_of ws m c ≡ inserted (key_text (get_or ss i d).key) v (pairs_in shelf)) × ((d : Slot) → ((get_or ws i d).key ≡ (get_or ss i d).key) × ((get_or ws i d).span.size ≡ length v))
  resized us ws o m i s v c tail h is room splice eo eu em rows =
      let xs = take n ss in
      let x = slot s.key s.span.place (length v) in
      let l = length-take-le n ss shelf.rows.within in
      let whole : xs ≡ take i xs ++ (s ∷ drop (i + 1) xs) = split_slots i s h ∙ ap (λ (y : Slot). take i xs ++ (y ∷ drop (i + 1) xs)) (sym (is s)) in
      let below : AllBelow (key_text s.key) (entries (take i xs) b) = subst (λ (y : Slot). AllBelow (key_text y.key) (entries (take i xs) b)) (sym (is s)) (below_at i s h) in
      let us' : take o us ≡ set xs i x = ap (λ j. take j us) eo ∙ ap (take n) eu ∙ take_of_set n ss i x in
      let rows' : take m ws ≡ take i xs ++ (x ∷ laid (s.span.place + length v) (drop (i + 1) xs)) = rows ∙ ap (λ (ys : List Slot). take (i + 1) ys ++ laid (s.span.place + length v) (drop (i + 1) ys)) us' ∙ relaid xs i x (s.span.place + length v) (omega arith) in
      let r = put_over (take i xs) (drop (i + 1) xs) s v b c tail shelf.used (ap total (sym whole) ∙ shelf.sum) shelf.short (ap (placed 0) (sym whole) ∙ shelf.places) below splice in
      let ti : length (take i xs) ≡ i = length-take-le i xs (omega arith) in
      let at : (d : Slot) → get_or ws i d ≡ x = λ d. sym (get_or-take m ws i d (omega arith)) ∙ ap (λ (ys : List Slot). get_or ys i d) rows' ∙ get_or_at (take i xs) x (laid (s.span.place + length v) (drop (i + 1) xs)) d i ti in
      let z = inside i s h in
      let sz = ap (λ (y : Slot). y.span.size) (is s) in (
        record { sum = ap total rows' ∙ r.sum; places = ap (placed 0) rows' ∙ r.places },
        (λ d. ap (λ (ys : List Slot). entries ys c) rows' ∙ r.pairs ∙ ap (λ (ys : List Slot). inserted (key_text s.key) v (entries ys b)) (sym whole) ∙ ap (λ (y : Slot). inserted (key_text y.key) v (entries xs b)) (is d)),
        (λ d. (ap (λ (y : Slot). y.key) (at d) ∙ ap (λ (y : Slot). y.key) (is d), ap (λ (y : Slot). y.span.size) (at d))),
      )

  -- the pair of a slot
  pub pair_at_lem : (i : ℕ) (x : Slot) (e : Pair) → i < n → ((d : Slot) → x ≡ get_or ss i d) → get_or (pairs_in shelf) i e ≡ pair (key_text x.key) (take x.span.size (drop x.span.place b))
  pair_at_lem i x e h is =
      let fs = take i (take n ss) in
      let bs = drop (i + 1) (take n ss) in
      let l = length-take-le n ss shelf.rows.within in
      let lf : length (entries fs b) ≡ i = length-entries fs b ∙ length-take-le i (take n ss) (omega arith) in
      let whole : take n ss ≡ fs ++ (x ∷ bs) = split_slots i x h ∙ ap (λ (y : Slot). fs ++ (y ∷ bs)) (sym (is x)) in
      let place : total fs ≡ x.span.place = sym (inside i x h).0 ∙ ap (λ (y : Slot). y.span.place) (sym (is x)) in
      ap (λ (ys : List Slot). get_or (entries ys b) i e) whole
      ∙ ap (λ (ps : Pairs). get_or ps i e) (entries-append fs (x ∷ bs) b)
      ∙ get_or_at (entries fs b) (pair (key_text x.key) (take x.span.size (drop (total fs) b))) (entries bs (drop x.span.size (drop (total fs) b))) e i lf
      ∙ ap (λ p. pair (key_text x.key) (take x.span.size (drop p b))) place

  pub many : length (pairs_in shelf) ≡ n
  many = length-entries (take n ss) b ∙ length-take-le n ss shelf.rows.within

  pub heavy : weight (pairs_in shelf) ≡ shelf.used
  heavy = weight-entries (take n ss) b (omega (arith, shelf.short, shelf.sum)) ∙ shelf.sum

  -- how much the pairs are after a value is set: where there was one, and where there was none
  pub known_fits : (i : ℕ) (x : Slot) (v : Bytes) → i < n → ((d : Slot) → x ≡ get_or ss i d)
      → (length (inserted (key_text x.key) v (pairs_in shelf)) ≡ n) × (weight (inserted (key_text x.key) v (pairs_in shelf)) + x.span.size ≡ shelf.used + length v)
  known_fits i x v h is =
      let k = key_text x.key in
      let fs = take i (take n ss) in
      let bs = drop (i + 1) (take n ss) in
      let w = take x.span.size (drop (total fs) b) in
      let back = entries bs (drop x.span.size (drop (total fs) b)) in
      let below : AllBelow k (entries fs b) = subst (λ (y : Slot). AllBelow (key_text y.key) (entries fs b)) (sym (is x)) (below_at i x h) in
      let whole : take n ss ≡ fs ++ (x ∷ bs) = split_slots i x h ∙ ap (λ (y : Slot). fs ++ (y ∷ bs)) (sym (is x)) in
      let ps : pairs_in shelf ≡ entries fs b ++ (pair k w ∷ back) = ap (λ (ys : List Slot). entries ys b) whole ∙ entries-append fs (x ∷ bs) b in
      let qs : inserted k v (pairs_in shelf) ≡ entries fs b ++ (pair k v ∷ back) = ap (inserted k v) ps ∙ inserted_over k v w (entries fs b) back below in
      let lp = ap length ps ∙ length-append (entries fs b) (pair k w ∷ back) in
      let lq = ap length qs ∙ length-append (entries fs b) (pair k v ∷ back) in
      let wp = ap weight ps ∙ weight-append (entries fs b) (pair k w ∷ back) in
      let wq = ap weight qs ∙ weight-append (entries fs b) (pair k v ∷ back) in
      let z = inside i x h in
      let zs = ap (λ (y : Slot). y.span.size) (is x) in
      let lw : length w ≡ x.span.size = length-take-le x.span.size (drop (total fs) b) (omega (arith, z.0, z.1, zs, shelf.short, length-drop (total fs) b)) in
      (omega (arith, lp, lq, many), omega (arith, wp, wq, heavy, lw))

  pub new_fits : (i : ℕ) (k : StoreKey) (v : Bytes) → Parts slot_before ss n (slot k 0 0) i
      → (length (inserted (key_text k) v (pairs_in shelf)) ≡ n + 1) × (weight (inserted (key_text k) v (pairs_in shelf)) ≡ shelf.used + length v)
  new_fits i k v parts =
      let t = key_text k in
      let fs = take i (take n ss) in
      let bs = drop i (take n ss) in
      let back = entries bs (drop (total fs) b) in
      let ps : pairs_in shelf ≡ entries fs b ++ back = ap (λ (ys : List Slot). entries ys b) (sym (take-append-drop i (take n ss))) ∙ entries-append fs bs b in
      let qs : inserted t v (pairs_in shelf) ≡ entries fs b ++ (pair t v ∷ back) =
      ap (inserted t v) ps ∙ inserted_between t v (entries fs b) back (front_below ss n i (slot k 0 0) b parts.0 parts.1) (back_above ss n i (slot k 0 0) (drop (total fs) b) shelf.rows.within parts.2)
      in
      let lp = ap length ps ∙ length-append (entries fs b) back in
      let lq = ap length qs ∙ length-append (entries fs b) (pair t v ∷ back) in
      let wp = ap weight ps ∙ weight-append (entries fs b) back in
      let wq = ap weight qs ∙ weight-append (entries fs b) (pair t v ∷ back) in
      (omega (arith, lp, lq, many), omega (arith, wp, wq, heavy))

  pub new_absent : (i : ℕ) (k : StoreKey) → Parts slot_before ss n (slot k 0 0) i → lookup (key_text k) (pairs_in shelf) ≡ None
  new_absent i k parts =
      let fs = take i (take n ss) in
      let bs = drop i (take n ss) in
      let back = entries bs (drop (total fs) b) in
      let ps : pairs_in shelf ≡ entries fs b ++ back = ap (λ (ys : List Slot). entries ys b) (sym (take-append-drop i (take n ss))) ∙ entries-append fs bs b in
      ap (lookup (key_text k)) ps ∙ absent_between (key_text k) (entries fs b) back (front_below ss n i (slot k 0 0) b parts.0 parts.1) (back_above ss n i (slot k 0 0) (drop (total fs) b) shelf.rows.within parts.2)
