-- What goes to the class list, and what is passed over. Assumes nothing.
use Rattle.std.proofs.Common.{◌≡◌, ℕ, ◌+◌, Bool, true, false, cond, ◌⊎◌, List, [], ◌∷◌, ◌++◌, map, length, Some, None, Ok, Err, Option, Result, sym, refl, ap, ◌∙◌, subst, inl, inr, arith, length-append}
use Rattle.std.specs.List.Sorted.{IsPermutation}
use Rattle.std.specs.List.{AllByRecursion as All}
use Rattle.std.proofs.ByRecursion.{All-weaker, all_shuffled}
use Rattle.std.proofs.lemmas.List.{length-map}
use Rattle.std.proofs.lemmas.List.Sorted.{IsPermutation-sym, length_permutation}
use Rattle.text.specs.Bytes.{Bytes}
use Rattle.text.specs.Utf8.{In}
use Rattle.paths.specs.Paths.{Path}
use Rattle.paths.specs.TotalOrders.{same_path_eq}
use Rattle.classes.specs.declared.listing.Node.{Node}
use Rattle.classes.specs.declared.listing.Passed.{Passed}
use Rattle.classes.specs.declared.listing.Reason.{Reason}
use Rattle.classes.specs.Classes.{Look, Entry, Told, entry, told, verdict, is_last, ok_part, err_part, granted_of, passed_of, kept_after, repeats_after, kept, repeats, repeated, Stands, Placed, ByBytes, Listed}
use Rattle.classes.proofs.Orders.{WeakAfter, kept_ascends}

-- ---- elements

module _ {X : Type 0} where
  pub in_left : (x : X) (xs ys : List X) → In x xs → In x (xs ++ ys)
  in_left x [] ys h = elim h [ ]
  in_left x (y ∷ xs) ys (inl e) = inl e
  in_left x (y ∷ xs) ys (inr h) = inr (in_left x xs ys h)

  pub in_right : (x : X) (xs ys : List X) → In x ys → In x (xs ++ ys)
  in_right x [] ys h = h
  in_right x (y ∷ xs) ys h = inr (in_right x xs ys h)

  in_append : (x : X) (xs ys : List X) → In x (xs ++ ys) → In x xs ⊎ In x ys
  in_append x [] ys h = inr h
  in_append x (y ∷ xs) ys (inl e) = inl (inl e)
  in_append x (y ∷ xs) ys (inr h) = by (in_append x xs ys h)
    where
      by : In x xs ⊎ In x ys → In x (y ∷ xs) ⊎ In x ys
      by (inl a) = inl (inr a)
      by (inr b) = inr b

  in_all : (P : X → Type 0) (xs : List X) (x : X) → All P xs → In x xs → P x
  in_all P [] x a h = elim h [ ]
  in_all P (y ∷ xs) x a (inl e) = subst P (sym e) a.0
  in_all P (y ∷ xs) x a (inr h) = in_all P xs x a.1 h

  all_in : (xs : List X) → All (λ y. In y xs) xs
  all_in [] = tt
  all_in (x ∷ xs) = (inl refl, All-weaker (λ y. In y xs) (λ y. In y (x ∷ xs)) (λ y h. inr h) xs (all_in xs))

  -- a shuffle has the same elements
  shuffled_from : (xs ys : List X) (y : X) → IsPermutation xs ys → In y ys → In y xs
  shuffled_from xs ys y s h = in_all (λ z. In z xs) ys y (all_shuffled (λ z. In z xs) xs ys s (all_in xs)) h

in_map : {X Y : Type 0} (f : X → Y) (x : X) (xs : List X) → In x xs → In (f x) (map f xs)
in_map f x [] h = elim h [ ]
in_map f x (y ∷ xs) (inl e) = inl (ap f e)
in_map f x (y ∷ xs) (inr h) = inr (in_map f x xs h)

from_map : {X Y : Type 0} (f : X → Y) (y : Y) (xs : List X) → In y (map f xs) → (x : X) × In x xs × (y ≡ f x)
from_map f y [] h = elim h [ ]
from_map f y (x ∷ xs) (inl e) = (x, inl refl, e)
from_map f y (x ∷ xs) (inr h) = let i = from_map f y xs h in (i.0, inr i.1, i.2)

-- ---- what is granted, and what is passed over

ok_in : (r : Result Entry Reason) (e : Entry) → r ≡ Ok e → In e (ok_part r)
ok_in (Ok d) e h = inl (cc)
ok_in (Err x) e h = absurd (let z : ◌≡◌ {A = ℕ} 0 1 = cc in omega arith)

in_ok : (r : Result Entry Reason) (e : Entry) → In e (ok_part r) → r ≡ Ok e
in_ok (Ok d) e (inl h) = ap (λ x. Ok x) (sym h)
in_ok (Ok d) e (inr h) = elim h [ ]
in_ok (Err x) e h = elim h [ ]

granted_in : (ls : List Look) (l : Look) (e : Entry) → In l ls → verdict l ≡ Ok e → In e (granted_of ls)
granted_in [] l e h v = elim h [ ]
granted_in (m ∷ ls) l e (inl h) v = in_left e (ok_part (verdict m)) (granted_of ls) (ok_in (verdict m) e (ap verdict (sym h) ∙ v))
granted_in (m ∷ ls) l e (inr h) v = in_right e (ok_part (verdict m)) (granted_of ls) (granted_in ls l e h v)

granted_from : (ls : List Look) (e : Entry) → In e (granted_of ls) → (l : Look) × In l ls × (verdict l ≡ Ok e)
granted_from [] e h = elim h [ ]
granted_from (m ∷ ls) e h = by (in_append e (ok_part (verdict m)) (granted_of ls) h) (granted_from ls e)
  where
    by : In e (ok_part (verdict m)) ⊎ In e (granted_of ls) → (In e (granted_of ls) → (l : Look) × In l ls × (verdict l ≡ Ok e)) → (l : Look) × In l (m ∷ ls) × (verdict l ≡ Ok e)
    by (inl a) i = (m, inl refl, in_ok (verdict m) e a)
    by (inr b) i = let f = i b in (f.0, inr f.1, f.2)

err_in : (t : Bytes) (r : Result Entry Reason) (x : Reason) → r ≡ Err x → In (record { path = t; reason = x }) (err_part t r)
err_in t (Ok d) x h = absurd (let z : ◌≡◌ {A = ℕ} 0 1 = cc in omega arith)
err_in t (Err y) x h = let same : x ≡ y = cc in inl (ap (λ (w : Reason). record { path = t; reason = w }) same)

passed_in : (ls : List Look) (l : Look) (x : Reason) → In l ls → verdict l ≡ Err x → In (record { path = l.path; reason = x }) (passed_of ls)
passed_in [] l x h v = elim h [ ]
passed_in (m ∷ ls) l x (inl h) v =
    in_left _ (err_part m.path (verdict m)) (passed_of ls)
    (subst (λ k. In (record { path = k.path; reason = x }) (err_part m.path (verdict m))) (sym h) (err_in m.path (verdict m) x (ap verdict (sym h) ∙ v)))
passed_in (m ∷ ls) l x (inr h) v = in_right _ (err_part m.path (verdict m)) (passed_of ls) (passed_in ls l x h v)

parts_one : (t : Bytes) (r : Result Entry Reason) → length (ok_part r) + length (err_part t r) ≡ 1
parts_one t (Ok e) = omega arith
parts_one t (Err x) = omega arith

all_go : (ls : List Look) → length (granted_of ls) + length (passed_of ls) ≡ length ls
all_go [] = omega arith
all_go (l ∷ ls) =
    omega (arith, all_go ls, parts_one l.path (verdict l), length-append (ok_part (verdict l)) (granted_of ls), length-append (err_part l.path (verdict l)) (passed_of ls))

-- ---- each path once

kept_from : (o : Option Path) (es : List Entry) (e : Entry) → In e (kept_after o es) → In e es
kept_from o [] e h = elim h [ ]
kept_from o (d ∷ es) e h = by (is_last o d.path) h (kept_from o es e) (kept_from (Some d.path) es e)
  where
    by : (b : Bool) → In e (cond b (kept_after o es) (d ∷ kept_after (Some d.path) es)) → (In e (kept_after o es) → In e es) → (In e (kept_after (Some d.path) es) → In e es) → In e (d ∷ es)
    by true g i j = inr (i g)
    by false (inl g) i j = inl g
    by false (inr g) i j = inr (j g)

kept_count : (o : Option Path) (es : List Entry) → length (kept_after o es) + length (repeats_after o es) ≡ length es
kept_count o [] = omega arith
kept_count o (d ∷ es) = by (is_last o d.path) (kept_count o es) (kept_count (Some d.path) es)
  where
    by : (b : Bool) → length (kept_after o es) + length (repeats_after o es) ≡ length es → length (kept_after (Some d.path) es) + length (repeats_after (Some d.path) es) ≡ length es → length (cond b (kept_after o es) (d ∷ kept_after (Some d.path) es)) + length (cond b (d ∷ repeats_after o es) (repeats_after (Some d.path) es)) ≡ length (d ∷ es)
    by true i j = omega arith
    by false i j = omega arith

-- an entry is kept, or it repeats a path that is kept, or that stood before them
abbrev Goes : Option Path → List Entry → Entry → Type 0
Goes o es e = In e (kept_after o es) ⊎ (((o ≡ Some e.path) ⊎ Stands e.path (kept_after o es)) × In e (repeats_after o es))

same_last : (o : Option Path) (p : Path) → is_last o p ≡ true → o ≡ Some p
same_last None p h = absurd (let z : ◌≡◌ {A = ℕ} 0 1 = cc in omega arith)
same_last (Some q) p h = ap (λ r. Some r) (same_path_eq q p h)

-- the same behind one more entry, by whether that repeats the path before it
abbrev Out : Option Path → Entry → List Entry → Entry → Bool → Type 0
Out o d es e b = In e (cond b (kept_after o es) (d ∷ kept_after (Some d.path) es)) ⊎ (((o ≡ Some e.path) ⊎ Stands e.path (cond b (kept_after o es) (d ∷ kept_after (Some d.path) es))) × In e (cond b (d ∷ repeats_after o es) (repeats_after (Some d.path) es)))

kept_goes : (o : Option Path) (es : List Entry) (e : Entry) → In e es → Goes o es e
kept_goes o [] e h = elim h [ ]
kept_goes o (d ∷ es) e h = by (is_last o d.path) refl h (kept_goes o es e) (kept_goes (Some d.path) es e)
  where
    again : Goes o es e → Out o d es e true
    again (inl a) = inl a
    again (inr a) = inr (a.0, inr a.1)

    later : Goes (Some d.path) es e → Out o d es e false
    later (inl a) = inl (inr a)
    later (inr (inl a, b)) = let is : d.path ≡ e.path = cc in inr (inr (d, inl refl, is), b)
    later (inr (inr a, b)) = inr (inr (a.0, inr a.1, a.2), b)

    by : (b : Bool) → is_last o d.path ≡ b → In e (d ∷ es) → (In e es → Goes o es e) → (In e es → Goes (Some d.path) es e) → Out o d es e b
    by true f (inl g) i j = inr (inl (same_last o d.path f ∙ ap (λ x. Some x.path) (sym g)), inl g)
    by true f (inr g) i j = again (i g)
    by false f (inl g) i j = inl (inl g)
    by false f (inr g) i j = later (j g)

-- ---- the class list

module _ (ls : List Look) (ns sorted : List Node) (is : map entry ns ≡ granted_of ls) (mixed : IsPermutation ns sorted) where
  abbrev es : List Entry
  es = map entry sorted

  abbrev passed : List Told
  passed = passed_of ls ++ map repeated (repeats es)

  entry_to : (e : Entry) → In e (granted_of ls) → In e es
  entry_to e h =
      let f = from_map entry e ns (subst (In e) (sym is) h) in
      subst (λ x. In x es) (sym f.2) (in_map entry f.0 sorted (shuffled_from sorted ns f.0 (IsPermutation-sym ns sorted mixed) f.1))

  entry_from : (e : Entry) → In e es → In e (granted_of ls)
  entry_from e h =
      let f = from_map entry e sorted h in
      subst (In e) is (subst (λ x. In x (map entry ns)) (sym f.2) (in_map entry f.0 ns (shuffled_from ns sorted f.0 mixed f.1)))

  goes_to : (e : Entry) → Goes None es e → In e (kept es) ⊎ (Stands e.path (kept es) × In (repeated e) passed)
  goes_to e (inl a) = inl a
  goes_to e (inr (inl a, b)) = absurd (let z : ◌≡◌ {A = ℕ} 0 1 = cc in omega arith)
  goes_to e (inr (inr a, b)) = inr (a, in_right (repeated e) (passed_of ls) (map repeated (repeats es)) (in_map repeated e (repeats es) b))

  place : (l : Look) → In l ls → Placed l (verdict l) (kept es) passed
  place l h = by (verdict l) refl
    where
      by : (r : Result Entry Reason) → verdict l ≡ r → Placed l r (kept es) passed
      by (Ok e) v = goes_to e (kept_goes None es e (entry_to e (granted_in ls l e h v)))
      by (Err x) v = in_left _ (passed_of ls) (map repeated (repeats es)) (passed_in ls l x h v)

  count : length (kept es) + length passed ≡ length ls
  count = omega (arith, kept_count None es, all_go ls, length-append (passed_of ls) (map repeated (repeats es)), length-map (repeats es) repeated, length-map sorted entry, length-map ns entry, ap length is, length_permutation ns sorted mixed)

  -- the list before what was passed over is sorted
  module _ (up : WeakAfter None es) (over : List Passed) (told_is : map told over ≡ passed) (last : List Passed) (turned : IsPermutation over last) (rises : ByBytes (map told last)) where
    to_last : (t : Told) → In t passed → In t (map told last)
    to_last t h =
        let f = from_map told t over (subst (In t) (sym told_is) h) in
        subst (λ x. In x (map told last)) (sym f.2) (in_map told f.0 last (shuffled_from last over f.0 (IsPermutation-sym over last turned) f.1))

    still : (l : Look) (r : Result Entry Reason) → Placed l r (kept es) passed → Placed l r (kept es) (map told last)
    still l (Ok e) (inl a) = inl a
    still l (Ok e) (inr a) = inr (a.0, to_last (repeated e) a.1)
    still l (Err x) h = to_last _ h

    pub listed : (nodes : List Entry) → nodes ≡ kept es → Listed ls nodes (map told last)
    listed nodes en =
        subst (λ x. Listed ls x (map told last)) (sym en) (record {
          ascending = kept_ascends None es up;
          placed = λ l h. still l (verdict l) (place l h);
          only = λ e h. granted_from ls e (entry_from e (kept_from None es e h));
          each = omega (arith, count, ap length told_is, length-map over told, length-map last told, length_permutation over last turned);
          over = rises;
        })
