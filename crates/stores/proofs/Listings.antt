-- What is listed through a prefix, and below with the prefix in front.
-- Assumes nothing.
use Rattle.std.proofs.Common.{◌≡◌, ℕ, zero, suc, ◌+◌, ◌-◌, ◌<◌, ◌≤◌, Bool, true, false, cond, ◌&&◌, eqb, leb, List, [], ◌∷◌, ◌++◌, length, take, Some, None, Ok, Option, sym, refl, ap, ◌∙◌, arith, length-append}
use Rattle.std.proofs.lemmas.Bool.{and_parts, leb-true}
use Rattle.std.proofs.lemmas.Bool.Decides.{nat_tests}
use Rattle.text.specs.Bytes.{Bytes, before, stripped}
use Rattle.text.specs.Utf8.{is_text}
use Rattle.text.proofs.Texts.{text_append}
use Rattle.text.proofs.Order.{strip_append, before-under}
use Rattle.keys.specs.Keys.{key_form, prefix_form}
use Rattle.paths.proofs.Readings.{never}
use Rattle.stores.specs.WellFormed.{well_key, well_prefix}
use Rattle.stores.specs.Pairs.{Pair, Pairs, mounted, AllKeys, Lawful, lower, least, added, when, keys_under, children, next_key, next_child}
use Rattle.stores.specs.Answers.{Found, guarded, fitted, key_after, child_after}
use Rattle.stores.specs.Laws.{behind}
use Rattle.stores.proofs.Mounts.{strip_join, and_false}

-- ---- a prefix taken off in two steps

abbrev pub onward : Bytes → Option Bytes → Option Bytes
onward q None = None
onward q (Some t) = stripped q t

pub strip_two : (p q y : Bytes) → stripped (p ++ q) y ≡ onward q (stripped p y)
strip_two [] q y = refl
strip_two (x ∷ p) q [] = refl
strip_two (x ∷ p) q (y ∷ ys) =
    elim (eqb x y) as (λ b. cond b (stripped (p ++ q) ys) None ≡ onward q (cond b (stripped p ys) None)) [ true ↦ strip_two p q ys | false ↦ refl ]

-- ---- children

children-step : (p q : Bytes) (a : Pair) (ps : Pairs) (o : Option Bytes) → stripped p a.key ≡ o → children (p ++ q) ps ≡ children q (mounted p ps) → children (p ++ q) (a ∷ ps) ≡ children q (mounted p (a ∷ ps))
children-step p q a ps None e ih = let s : stripped (p ++ q) a.key ≡ None = strip_two p q a.key ∙ ap (onward q) e in simp (e, s) ih
children-step p q a ps (Some t) e ih = let s : stripped (p ++ q) a.key ≡ stripped q t = strip_two p q a.key ∙ ap (onward q) e in simp (e, s, ih)

pub children-mounted : (p q : Bytes) (ps : Pairs) → children (p ++ q) ps ≡ children q (mounted p ps)
children-mounted p q [] = refl
children-mounted p q (a ∷ ps) = children-step p q a ps (stripped p a.key) refl (children-mounted p q ps)

-- ---- keys

abbrev pub fronted : Bytes → List Bytes → List Bytes
fronted p [] = []
fronted p (x ∷ xs) = (p ++ x) ∷ fronted p xs

keys_some : (p q k t : Bytes) (xs ys : List Bytes) (o : Option Bytes) → stripped q t ≡ o → k ≡ p ++ t → ys ≡ fronted p xs → added (when (stripped q t) k) ys ≡ fronted p (added (when (stripped q t) t) xs)
keys_some p q k t xs ys None e j h = simp e h
keys_some p q k t xs ys (Some u) e j h = simp e (cc)

keys_step : (p q : Bytes) (a : Pair) (ps : Pairs) (o : Option Bytes) → stripped p a.key ≡ o → keys_under (p ++ q) ps ≡ fronted p (keys_under q (mounted p ps)) → keys_under (p ++ q) (a ∷ ps) ≡ fronted p (keys_under q (mounted p (a ∷ ps)))
keys_step p q a ps None e ih = let s : stripped (p ++ q) a.key ≡ None = strip_two p q a.key ∙ ap (onward q) e in simp (e, s) ih
keys_step p q a ps (Some t) e ih =
    let s : stripped (p ++ q) a.key ≡ stripped q t = strip_two p q a.key ∙ ap (onward q) e in
    simp (e, s) (keys_some p q a.key t (keys_under q (mounted p ps)) (keys_under (p ++ q) ps) (stripped q t) refl (strip_join p a.key t e) ih)

pub keys_mounted : (p q : Bytes) (ps : Pairs) → keys_under (p ++ q) ps ≡ fronted p (keys_under q (mounted p ps))
keys_mounted p q [] = refl
keys_mounted p q (a ∷ ps) = keys_step p q a ps (stripped p a.key) refl (keys_mounted p q ps)

pub before_fronted : (p x y : Bytes) → before (p ++ x) (p ++ y) ≡ before x y
before_fronted p x y = before-under p x (p ++ y) y (strip_append p y)

lower_fronted : (p y : Bytes) (o : Option Bytes) → lower (p ++ y) (behind p o) ≡ behind p (lower y o)
lower_fronted p y None = refl
lower_fronted p y (Some z) =
    rw (before_fronted p y z) (elim (before y z) as (λ b. Some (cond b (p ++ y) (p ++ z)) ≡ Some (p ++ cond b y z)) [ true ↦ refl | false ↦ refl ])

pub least_fronted : (p x : Bytes) (xs : List Bytes) → least (p ++ x) (fronted p xs) ≡ behind p (least x xs)
least_fronted p x [] = refl
least_fronted p x (y ∷ xs) =
    let e : before (p ++ x) (p ++ y) ≡ before x y = before_fronted p x y in
    let ih : least (p ++ x) (fronted p xs) ≡ behind p (least x xs) = least_fronted p x xs in
    simp (e, ih) (elim (before x y) as (λ b. cond b (lower (p ++ y) (behind p (least x xs))) (behind p (least x xs)) ≡ behind p (cond b (lower y (least x xs)) (least x xs)))
    [ true ↦ lower_fronted p y (least x xs) | false ↦ refl ])

pub next_key_below : (p q after : Bytes) (ps : Pairs) → next_key (p ++ q) (p ++ after) ps ≡ behind p (next_key q after (mounted p ps))
next_key_below p q after ps = ap (least (p ++ after)) (keys_mounted p q ps) ∙ least_fronted p after (keys_under q (mounted p ps))

-- ---- texts of at most m bytes come after given bytes as they come after the first m of those

abbrev pub Short : ℕ → List Bytes → Type 0
Short m [] = Unit {0}
Short m (x ∷ xs) = (length x ≤ m) × Short m xs

pub before-cut : (m : ℕ) (x k : Bytes) → length k ≤ m → before (take m x) k ≡ before x k
before-cut zero [] [] h = refl
before-cut zero (x ∷ xs) [] h = refl
before-cut zero x (y ∷ ys) h = absurd (omega arith)
before-cut (suc m) [] k h = refl
before-cut (suc m) (x ∷ xs) [] h = refl
before-cut (suc m) (x ∷ xs) (y ∷ ys) h = let i : before (take m xs) ys ≡ before xs ys = before-cut m xs ys (omega arith) in rw i

pub least-cut : (m : ℕ) (x : Bytes) (xs : List Bytes) → Short m xs → least (take m x) xs ≡ least x xs
least-cut m x [] h = refl
least-cut m x (y ∷ xs) h = let e : before (take m x) y ≡ before x y = before-cut m x y h.0 in simp (e, least-cut m x xs h.1)

lower_short : (m : ℕ) (y t : Bytes) (o : Option Bytes) → length y ≤ m → ((z : Bytes) → o ≡ Some z → length z ≤ m) → lower y o ≡ Some t → length t ≤ m
lower_short m y t None h f e = let q : y ≡ t = grind arith in rw (sym q) h
lower_short m y t (Some z) h f e =
    (elim (before y z) as (λ b. Some (cond b y z) ≡ Some t → length t ≤ m) [
      | true ↦ λ q. let r : y ≡ t = grind arith in rw (sym r) h
      | false ↦ λ q. let r : z ≡ t = grind arith in rw (sym r) (f z refl)
    ]) e

pub least_short : (m : ℕ) (x t : Bytes) (xs : List Bytes) → Short m xs → least x xs ≡ Some t → length t ≤ m
least_short m x t [] h e = absurd (cc)
least_short m x t (y ∷ xs) h e =
    (elim (before x y) as (λ b. cond b (lower y (least x xs)) (least x xs) ≡ Some t → length t ≤ m) [
      | true ↦ λ q. lower_short m y t (least x xs) h.0 (λ z. least_short m x z xs h.1) q
      | false ↦ λ q. least_short m x t xs h.1 q
    ]) e

pub key_short : (longest : ℕ) (k : Bytes) → longest ≤ 400 → well_key longest k ≡ true → length k ≤ 400
key_short longest k h w =
    let l : length k ≤ longest = leb-true (length k) longest (and_parts (leb (length k) longest) (is_text k) (and_parts (key_form true k) _ w).1).0 in
    omega arith

short_some : (k : Bytes) (xs : List Bytes) (o : Option Bytes) → length k ≤ 400 → Short 400 xs → Short 400 (added (when o k) xs)
short_some k xs None h s = s
short_some k xs (Some t) h s = (h, s)

pub keys_short : (longest : ℕ) (q : Bytes) (ps : Pairs) → longest ≤ 400 → AllKeys (λ k. well_key longest k ≡ true) ps → Short 400 (keys_under q ps)
keys_short longest q [] h w = tt
keys_short longest q (a ∷ ps) h w = short_some a.key (keys_under q ps) (stripped q a.key) (key_short longest a.key h w.0) (keys_short longest q ps h w.1)

-- ---- the form of a prefix

pub prefix_in_front : (fresh : Bool) (t q : Bytes) → prefix_form fresh t ≡ true → prefix_form fresh (t ++ q) ≡ prefix_form true q
prefix_in_front fresh [] q h = ap (λ (f : Bool). prefix_form f q) h
prefix_in_front fresh (b ∷ t) q h = by (eqb b 47) fresh h (λ f. prefix_in_front f t q)
  where
    by : (slash fresh : Bool) → cond slash (cond fresh false (prefix_form true t)) (prefix_form false t) ≡ true → ((f : Bool) → prefix_form f t ≡ true → prefix_form f (t ++ q) ≡ prefix_form true q)
        → cond slash (cond fresh false (prefix_form true (t ++ q))) (prefix_form false (t ++ q)) ≡ prefix_form true q
    by true true g i = never (sym g)
    by true false g i = i true g
    by false fresh g i = i false g

-- where there is room for a key, a prefix is well formed above exactly if it is below, with the prefix in front
pub prefix_mounted : (longest : ℕ) (p q : Bytes) → prefix_form true p ≡ true → is_text p ≡ true → length p < longest → well_prefix (longest - length p) q ≡ well_prefix longest (p ++ q)
prefix_mounted longest p q h x l =
    let n : prefix_form true (p ++ q) ≡ prefix_form true q = prefix_in_front true p q h in
    let t : is_text (p ++ q) ≡ is_text q = text_append p q x in
    let e : leb (length q - 1) (longest - length p) ≡ leb (length (p ++ q) - 1) longest = room (length p) (length q) (length (p ++ q)) (length-append p q) l in
    cc
  where
    room : (a b c : ℕ) → c ≡ a + b → a < longest → leb (b - 1) (longest - a) ≡ leb (c - 1) longest
    room a b c e z = grind (arith, nat_tests)

pub child_mounted : (longest : ℕ) (p q after : Bytes) (ps : Pairs) (n : ℕ) → prefix_form true p ≡ true → is_text p ≡ true → length p < longest → child_after (longest - length p) (mounted p ps) q after n ≡ child_after longest ps (p ++ q) after n
child_mounted longest p q after ps n h x l =
    ap (λ (b : Bool). guarded b (fitted n (next_child q after (mounted p ps)))) (prefix_mounted longest p q h x l)
    ∙ ap (λ (cs : List Bytes). guarded (well_prefix longest (p ++ q)) (fitted n (least after cs))) (sym (children-mounted p q ps))

-- a prefix that is too long with the other in front is too long without it
pub prefix_long : (longest : ℕ) (p q : Bytes) → longest ≤ 400 → length p < longest → 401 < length p + length q → well_prefix (longest - length p) q ≡ false
prefix_long longest p q h l m =
    let e : leb (length q - 1) (longest - length p) ≡ false = over (length p) (length q) l m in
    ap (λ (b : Bool). prefix_form true q && (b && is_text q)) e ∙ and_false (prefix_form true q)
  where
    over : (a b : ℕ) → a < longest → 401 < a + b → leb (b - 1) (longest - a) ≡ false
    over a b z o = grind (arith, nat_tests)

-- the least key below, asked for into a buffer that no key overflows, is the least one above with the prefix in front
room_enough : (o : Option Bytes) → ((t : Bytes) → o ≡ Some t → length t ≤ 400) → fitted 400 o ≡ Ok o
room_enough None h = refl
room_enough (Some t) h = let l : length t ≤ 400 = h t refl in let e : leb (length t) 400 ≡ true = grind (arith, nat_tests) in simp e

pub key_below : (longest : ℕ) (p q after : Bytes) (ps : Pairs) → prefix_form true p ≡ true → is_text p ≡ true → length p < longest → Lawful ps longest → key_after longest ps (p ++ q) (take 400 (p ++ after)) 400 ≡ guarded (well_prefix (longest - length p) q) (Ok (behind p (next_key q after (mounted p ps))))
key_below longest p q after ps h x l w =
    let s : Short 400 (keys_under (p ++ q) ps) = keys_short longest (p ++ q) ps w.short w.keys in
    let e : least (take 400 (p ++ after)) (keys_under (p ++ q) ps) ≡ behind p (next_key q after (mounted p ps)) =
    least-cut 400 (p ++ after) (keys_under (p ++ q) ps) s ∙ next_key_below p q after ps in
    let f : fitted 400 (least (take 400 (p ++ after)) (keys_under (p ++ q) ps)) ≡ Ok (least (take 400 (p ++ after)) (keys_under (p ++ q) ps)) =
    room_enough (least (take 400 (p ++ after)) (keys_under (p ++ q) ps)) (λ t. least_short 400 (take 400 (p ++ after)) t (keys_under (p ++ q) ps) s) in
    ap (λ (b : Bool). guarded b (fitted 400 (least (take 400 (p ++ after)) (keys_under (p ++ q) ps)))) (sym (prefix_mounted longest p q h x l))
    ∙ ap (λ (r : Found). guarded (well_prefix (longest - length p) q) r) (f ∙ ap Ok e)

-- ---- a store that can have no key

no_key : (k : Bytes) → well_key 0 k ≡ true → ⊥
no_key [] h = cc
no_key (y ∷ k) h =
    let l : length (y ∷ k) ≤ 0 = leb-true (length (y ∷ k)) 0 (and_parts (leb (length (y ∷ k)) 0) (is_text (y ∷ k)) (and_parts (key_form true (y ∷ k)) _ h).1).0 in
    omega arith

pub no_pairs : (ps : Pairs) → AllKeys (λ k. well_key 0 k ≡ true) ps → ps ≡ []
no_pairs [] h = refl
no_pairs (a ∷ ps) h = absurd (no_key a.key h.0)

-- of the prefixes only the empty one is so short
pub only_empty : (b : ℕ) (q : Bytes) → well_prefix 0 (b ∷ q) ≡ false
only_empty b [] = elim (eqb b 47) as (λ s. (cond s (cond true false true) false && (leb 0 0 && is_text (b ∷ []))) ≡ false) [ true ↦ refl | false ↦ refl ]
only_empty b (c ∷ q) =
    let e : leb (length (b ∷ (c ∷ q)) - 1) 0 ≡ false = over (length q) in
    ap (λ (s : Bool). prefix_form true (b ∷ (c ∷ q)) && (s && is_text (b ∷ (c ∷ q)))) e ∙ and_false (prefix_form true (b ∷ (c ∷ q)))
  where
    over : (n : ℕ) → leb (suc (suc n) - 1) 0 ≡ false
    over n = grind (arith, nat_tests)
