-- The smallest text after given bytes, asked for again and again, runs through all texts once.
-- Assumes nothing.
use Rattle.std.proofs.Common.{◌≡◌, ℕ, zero, suc, ◌+◌, ◌<◌, ◌≤◌, Bool, true, false, cond, eqb, ◌⊎◌, List, [], ◌∷◌, Some, None, Option, sym, refl, ap, ◌∙◌, subst, inl, inr, arith}
use borrow.Author.Tests.{both_ways}
use Rattle.std.proofs.lemmas.Bool.{and_parts}
use Rattle.text.specs.Bytes.{Bytes, before, stripped}
use Rattle.text.specs.Utf8.{In}
use Rattle.text.proofs.Order.{Either, before_trans, before-alone, before_either}
use Rattle.keys.specs.Keys.{key_form, prefix_form}
use Rattle.keys.proofs.KeyForms.{form_in_front}
use Rattle.stores.specs.WellFormed.{well_key, well_prefix}
use Rattle.stores.specs.Pairs.{Pairs, AllKeys, Lawful, lower, least, added, when, within, opened, segment, keys_under, children}
use Rattle.stores.specs.Runs.{Run, Rises, ListsAll}
use Rattle.stores.proofs.Mounts.{strip_join}

-- ---- the smallest text after given bytes

-- it comes after them, is one of the texts, and none of those lies between
pub record Least (x : Bytes) (xs : List Bytes) (t : Bytes) : Type 0 where
  pub past : before x t ≡ true
  pub member : In t xs
  pub first : (u : Bytes) → In u xs → before x u ≡ true → before u t ≡ false

pub least_none : (x : Bytes) (xs : List Bytes) → least x xs ≡ None → (u : Bytes) → In u xs → before x u ≡ false
least_none x [] e u h = absurd h
least_none x (y ∷ xs) e u h = by (before x y) refl e h (λ q. least_none x xs q u)
  where
    never : (o : Option Bytes) → lower y o ≡ None → ⊥
    never None q = cc
    never (Some t) q = cc

    by : (b : Bool) → before x y ≡ b → cond b (lower y (least x xs)) (least x xs) ≡ None → (u ≡ y) ⊎ In u xs → (least x xs ≡ None → In u xs → before x u ≡ false) → before x u ≡ false
    by true i q h ih = absurd (never (least x xs) q)
    by false i q (inl j) ih = ap (before x) j ∙ i
    by false i q (inr j) ih = ih q j

-- one text more: it is the smallest now, or that of the others is
lower-least : (x y t : Bytes) (xs : List Bytes) (o : Option Bytes) → least x xs ≡ o → before x y ≡ true → ((u : Bytes) → o ≡ Some u → Least x xs u) → lower y o ≡ Some t → Least x (y ∷ xs) t
lower-least x y t xs None e b f q =
    let j : y ≡ t = grind arith in
    record { past = ap (before x) (sym j) ∙ b; member = inl (sym j); first = λ u h i. by u h i j }
  where
    by : (u : Bytes) → (u ≡ y) ⊎ In u xs → before x u ≡ true → y ≡ t → before u t ≡ false
    by u (inl k) i j = ap (before u) (sym j) ∙ ap (λ (v : Bytes). before v y) k ∙ before-alone y
    by u (inr k) i j = absurd (both_ways (before x u) (least_none x xs e u k) i)
lower-least x y t xs (Some z) e b f q = by (before y z) refl q
  where
    g : Least x xs z
    g = f z refl

    less : (u : Bytes) → before y z ≡ true → (u ≡ y) ⊎ In u xs → before x u ≡ true → before u y ≡ false
    less u l (inl k) i = ap (λ (v : Bytes). before v y) k ∙ before-alone y
    less u l (inr k) i = no (before u y) refl
      where
        no : (c : Bool) → before u y ≡ c → c ≡ false
        no true w = sym (before_trans u y z w l) ∙ g.first u k i
        no false w = refl

    more : (u : Bytes) → before y z ≡ false → (u ≡ y) ⊎ In u xs → before x u ≡ true → before u z ≡ false
    more u l (inl k) i = ap (λ (v : Bytes). before v z) k ∙ l
    more u l (inr k) i = g.first u k i

    by : (c : Bool) → before y z ≡ c → Some (cond c y z) ≡ Some t → Least x (y ∷ xs) t
    by true l r = let j : y ≡ t = grind arith in subst (λ (v : Bytes). Least x (y ∷ xs) v) j (record { past = b; member = inl refl; first = λ u h i. less u l h i })
    by false l r = let j : z ≡ t = grind arith in subst (λ (v : Bytes). Least x (y ∷ xs) v) j (record { past = g.past; member = inr g.member; first = λ u h i. more u l h i })

pub least_some : (x : Bytes) (xs : List Bytes) (t : Bytes) → least x xs ≡ Some t → Least x xs t
least_some x [] t e = absurd (cc)
least_some x (y ∷ xs) t e = by (before x y) refl e (λ u. least_some x xs u)
  where
    rest : (w : before x y ≡ false) → Least x xs t → Least x (y ∷ xs) t
    rest w g = record { past = g.past; member = inr g.member; first = λ u h i. elim h [ inl k ↦ absurd (both_ways (before x u) (ap (before x) k ∙ w) i) | inr k ↦ g.first u k i ] }

    by : (c : Bool) → before x y ≡ c → cond c (lower y (least x xs)) (least x xs) ≡ Some t → ((u : Bytes) → least x xs ≡ Some u → Least x xs u) → Least x (y ∷ xs) t
    by true w q ih = lower-least x y t xs (least x xs) refl w ih q
    by false w q ih = rest w (ih t q)

-- ---- how many texts come after given bytes: fewer after each answer

abbrev pub above : Bytes → List Bytes → ℕ
above x [] = 0
above x (y ∷ xs) = cond (before x y) (above x xs + 1) (above x xs)

above_fewer : (x t : Bytes) (xs : List Bytes) → before x t ≡ true → above t xs ≤ above x xs
above_fewer x t [] h = omega arith
above_fewer x t (y ∷ xs) h = by (before t y) (before x y) refl refl (above_fewer x t xs h)
  where
    by : (b c : Bool) → before t y ≡ b → before x y ≡ c → above t xs ≤ above x xs → cond b (above t xs + 1) (above t xs) ≤ cond c (above x xs + 1) (above x xs)
    by true true i j k = omega arith
    by true false i j k = absurd (both_ways (before x y) j (before_trans x t y h i))
    by false true i j k = omega arith
    by false false i j k = k

above_falls : (x t : Bytes) (xs : List Bytes) → before x t ≡ true → In t xs → above t xs < above x xs
above_falls x t [] h m = absurd m
above_falls x t (y ∷ xs) h m = by m (above_falls x t xs h)
  where
    here : t ≡ y → cond (before t y) (above t xs + 1) (above t xs) < cond (before x y) (above x xs + 1) (above x xs)
    here e =
        let a : before t y ≡ false = ap (before t) (sym e) ∙ before-alone t in
        let b : before x y ≡ true = ap (before x) (sym e) ∙ h in
        let f : above t xs ≤ above x xs = above_fewer x t xs h in
        rw (a, b) (omega arith)

    there : (b c : Bool) → before t y ≡ b → before x y ≡ c → above t xs < above x xs → cond b (above t xs + 1) (above t xs) < cond c (above x xs + 1) (above x xs)
    there true true i j k = omega arith
    there true false i j k = absurd (both_ways (before x y) j (before_trans x t y h i))
    there false true i j k = omega arith
    there false false i j k = k

    by : (t ≡ y) ⊎ In t xs → (In t xs → above t xs < above x xs) → cond (before t y) (above t xs + 1) (above t xs) < cond (before x y) (above x xs + 1) (above x xs)
    by (inl e) ih = here e
    by (inr i) ih = there (before t y) (before x y) refl refl (ih i)

pub least_falls : (x : Bytes) (xs : List Bytes) (t : Bytes) → least x xs ≡ Some t → above t xs < above x xs
least_falls x xs t e = let l = least_some x xs t e in above_falls x t xs l.past l.member

-- ---- runs

runs : (n : ℕ) (xs : List Bytes) (x : Bytes) → above x xs < n → (ts : List Bytes) × Run xs x ts
runs zero xs x h = absurd (omega arith)
runs (suc n) xs x h = by (least x xs) refl (λ t. runs n xs t)
  where
    by : (o : Option Bytes) → least x xs ≡ o → ((t : Bytes) → above t xs < n → (ts : List Bytes) × Run xs t ts) → (ts : List Bytes) × Run xs x ts
    by None e ih = ([], e)
    by (Some t) e ih =
        let f : above t xs < above x xs = least_falls x xs t e in
        let r = ih t (omega arith) in
        (t ∷ r.0, (e, r.1))

pub run_only : (xs : List Bytes) (x : Bytes) (ts us : List Bytes) → Run xs x ts → Run xs x us → ts ≡ us
run_only xs x [] [] r s = refl
run_only xs x [] (u ∷ us) r s = let z : None ≡ Some u = sym r ∙ s.0 in grind arith
run_only xs x (t ∷ ts) [] r s = let z : None ≡ Some t = sym s ∙ r.0 in grind arith
run_only xs x (t ∷ ts) (u ∷ us) r s =
    let e : Some t ≡ Some u = sym r.0 ∙ s.0 in
    let j : t ≡ u = cc in
    let i : ts ≡ us = run_only xs u ts us (subst (λ (v : Bytes). Run xs v ts) j r.1) s.1 in
    cc

pub run_rises : (xs : List Bytes) (x : Bytes) (ts : List Bytes) → Run xs x ts → Rises x ts
run_rises xs x [] r = tt
run_rises xs x (t ∷ ts) r = ((least_some x xs t r.0).past, run_rises xs t ts r.1)

-- what is in a run comes after where it began, and is one of the texts; and the other way
pub run_in : (xs : List Bytes) (x : Bytes) (ts : List Bytes) → Run xs x ts → (u : Bytes) → In u ts → (before x u ≡ true) × In u xs
run_in xs x [] r u h = absurd h
run_in xs x (t ∷ ts) r u (inl e) = let l = least_some x xs t r.0 in (ap (before x) e ∙ l.past, subst (λ (v : Bytes). In v xs) (sym e) l.member)
run_in xs x (t ∷ ts) r u (inr h) =
    let l = least_some x xs t r.0 in
    let i = run_in xs t ts r.1 u h in
    (before_trans x t u l.past i.0, i.1)

pub run_all : (xs : List Bytes) (x : Bytes) (ts : List Bytes) → Run xs x ts → (u : Bytes) → before x u ≡ true → In u xs → In u ts
run_all xs x [] r u b h = absurd (both_ways (before x u) (least_none x xs r u h) b)
run_all xs x (t ∷ ts) r u b h = by (before_either u t) (λ l. run_all xs t ts r.1 u l h)
  where
    by : Either u t → (before t u ≡ true → In u ts) → (u ≡ t) ⊎ In u ts
    by (inl l) ih = absurd (both_ways (before u t) ((least_some x xs t r.0).first u h b) l)
    by (inr (inl e)) ih = inl e
    by (inr (inr l)) ih = inr (ih l)

-- ---- all of the texts, where none is empty

abbrev pub NonEmpty : List Bytes → Type 0
NonEmpty [] = Unit {0}
NonEmpty (x ∷ xs) = (before [] x ≡ true) × NonEmpty xs

none_empty_lem : (xs : List Bytes) → NonEmpty xs → (u : Bytes) → In u xs → before [] u ≡ true
none_empty_lem [] h u i = absurd i
none_empty_lem (x ∷ xs) h u (inl e) = ap (before []) e ∙ h.0
none_empty_lem (x ∷ xs) h u (inr i) = none_empty_lem xs h.1 u i

pub lists_all : (xs : List Bytes) → NonEmpty xs → ListsAll xs
lists_all xs h = record {
  run = runs (above [] xs + 1) xs [] (omega arith);
  only = λ ts us. run_only xs [] ts us;
  rises = λ ts. run_rises xs [] ts;
  same = λ ts r t. ((λ i. (run_in xs [] ts r t i).1), (λ i. run_all xs [] ts r t (none_empty_lem xs h t i) i));
}

-- ---- keys, and children

key_filled : (longest : ℕ) (k : Bytes) → well_key longest k ≡ true → before [] k ≡ true
key_filled longest [] w = grind arith
key_filled longest (b ∷ k) w = refl

when-filled : (k : Bytes) (xs : List Bytes) (o : Option Bytes) → before [] k ≡ true → NonEmpty xs → NonEmpty (added (when o k) xs)
when-filled k xs None h n = n
when-filled k xs (Some t) h n = (h, n)

keys_filled : (longest : ℕ) (ps : Pairs) (p : Bytes) → AllKeys (λ k. well_key longest k ≡ true) ps → NonEmpty (keys_under p ps)
keys_filled longest [] p w = tt
keys_filled longest (a ∷ ps) p w = when-filled a.key (keys_under p ps) (stripped p a.key) (key_filled longest a.key w.0) (keys_filled longest ps p w.1)

pub keys_run : (longest : ℕ) (ps : Pairs) (p : Bytes) → Lawful ps longest → ListsAll (keys_under p ps)
keys_run longest ps p l = lists_all (keys_under p ps) (keys_filled longest ps p l.keys)

opened-filled : (b : ℕ) (o : Option Bytes) (xs : List Bytes) → NonEmpty xs → NonEmpty (added (opened o b) xs)
opened-filled b None xs n = n
opened-filled b (Some t) xs n = (refl, n)

-- a key has no `/` in front, so the part before its first `/` is not empty
segment-filled : (t : Bytes) (xs : List Bytes) → key_form true t ≡ true → NonEmpty xs → NonEmpty (added (segment t) xs)
segment-filled [] xs h n = n
segment-filled (b ∷ t) xs h n = by (eqb b 47) h
  where
    by : (s : Bool) → cond s (cond true false (key_form true t)) (key_form false t) ≡ true → NonEmpty (added (cond s (Some []) (opened (segment t) b)) xs)
    by true e = grind arith
    by false e = opened-filled b (segment t) xs n

within-filled : (p k : Bytes) (xs : List Bytes) (o : Option Bytes) → stripped p k ≡ o → prefix_form true p ≡ true → key_form true k ≡ true → NonEmpty xs → NonEmpty (added (within o) xs)
within-filled p k xs None e h w n = n
within-filled p k xs (Some t) e h w n = segment-filled t xs (sym (form_in_front true p t h) ∙ ap (key_form true) (sym (strip_join p k t e)) ∙ w) n

children-filled : (longest : ℕ) (ps : Pairs) (p : Bytes) → prefix_form true p ≡ true → AllKeys (λ k. well_key longest k ≡ true) ps → NonEmpty (children p ps)
children-filled longest [] p h w = tt
children-filled longest (a ∷ ps) p h w = within-filled p a.key (children p ps) (stripped p a.key) refl h (and_parts (key_form true a.key) _ w.0).0 (children-filled longest ps p h w.1)

pub children-run : (longest : ℕ) (ps : Pairs) (p : Bytes) → Lawful ps longest → well_prefix longest p ≡ true → ListsAll (children p ps)
children-run longest ps p l w = lists_all (children p ps) (children-filled longest ps p (and_parts (prefix_form true p) _ w).0 l.keys)
