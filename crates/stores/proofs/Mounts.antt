-- What a prefix view shows: look-up, insertion and removal below, and the same above.
-- Assumes nothing.
use Rattle.std.proofs.Common.{◌≡◌, ℕ, ◌+◌, ◌-◌, ◌<◌, ◌≤◌, Bool, true, false, cond, ◌&&◌, eqb, leb, [], ◌∷◌, ◌++◌, length, Some, None, Err, Option, sym, refl, ap, ◌∙◌, subst, arith, length-append}
use Rattle.std.proofs.lemmas.Bool.Decides.{nat_tests}
use Rattle.text.specs.Bytes.{Bytes, same, before, stripped}
use Rattle.text.specs.Utf8.{is_text}
use Rattle.text.proofs.Texts.{text_append}
use Rattle.keys.specs.Keys.{key_form, prefix_form}
use Rattle.keys.proofs.KeyForms.{form_in_front}
use Rattle.stores.specs.WellFormed.{well_key}
use Rattle.stores.specs.Pairs.{Pair, Pairs, pair, lookup, inserted, removed, mounted, AllAbove, AllKeys, Ascends, Lawful}
use Rattle.keys.specs.declared.fault.StoreFault.TheVariants.{Malformed}
use Rattle.stores.specs.Answers.{got, guarded, fitted}
use Rattle.text.proofs.Order.{before_not_same, before_trans, strip_append, same-under, same_apart, before-under}

pub and_false : (b : Bool) → (b && false) ≡ false
and_false true = refl
and_false false = refl

lookup-step : (p k : Bytes) (a : Pair) (ps : Pairs) (o : Option Bytes) → stripped p a.key ≡ o → lookup k (mounted p ps) ≡ lookup (p ++ k) ps → lookup k (mounted p (a ∷ ps)) ≡ lookup (p ++ k) (a ∷ ps)
lookup-step p k a ps None e ih = simp (e, same_apart p k a.key e) ih
lookup-step p k a ps (Some t) e ih = simp (e, same-under p k a.key t e, ih)

pub lookup-mounted : (p k : Bytes) (ps : Pairs) → lookup k (mounted p ps) ≡ lookup (p ++ k) ps
lookup-mounted p k [] = refl
lookup-mounted p k (a ∷ ps) = lookup-step p k a ps (stripped p a.key) refl (lookup-mounted p k ps)

-- a key above all, or below the rest of the list
pub inserted_front : (k v : Bytes) (ps : Pairs) → AllAbove k ps → inserted k v ps ≡ pair k v ∷ ps
inserted_front k v [] h = refl
inserted_front k v (a ∷ ps) h = let e : same k a.key ≡ false = before_not_same k a.key h.0 in simp (e, h.0)

pub above_trans : (j k : Bytes) (ps : Pairs) → before j k ≡ true → AllAbove k ps → AllAbove j ps
above_trans j k [] b h = tt
above_trans j k (a ∷ ps) b h = (before_trans j k a.key b h.0, above_trans j k ps b h.1)

above_step : (p k : Bytes) (a : Pair) (ps : Pairs) (o : Option Bytes) → stripped p a.key ≡ o → before (p ++ k) a.key ≡ true → AllAbove k (mounted p ps) → AllAbove k (mounted p (a ∷ ps))
above_step p k a ps None e b ih = simp e ih
above_step p k a ps (Some t) e b ih = simp e (sym (before-under p k a.key t e) ∙ b, ih)

pub above_mounted : (p k : Bytes) (ps : Pairs) → AllAbove (p ++ k) ps → AllAbove k (mounted p ps)
above_mounted p k [] h = tt
above_mounted p k (a ∷ ps) h = above_step p k a ps (stripped p a.key) refl h.0 (above_mounted p k ps h.1)

pub strip_join : (p y t : Bytes) → stripped p y ≡ Some t → y ≡ p ++ t
strip_join [] y t h = grind arith
strip_join (x ∷ p) [] t h = grind arith
strip_join (x ∷ p) (y ∷ ys) t h =
    (elim (eqb x y) as (λ b. eqb x y ≡ b → cond b (stripped p ys) None ≡ Some t → (y ∷ ys) ≡ (x ∷ (p ++ t))) [
      | true ↦ λ q e. let i : ys ≡ p ++ t = strip_join p ys t e in let j : x ≡ y = grind (arith, nat_tests) in cc
      | false ↦ λ q e. grind arith
    ]) refl h

ascends_step : (p : Bytes) (a : Pair) (ps : Pairs) (o : Option Bytes) → stripped p a.key ≡ o → AllAbove a.key ps → Ascends (mounted p ps) → Ascends (mounted p (a ∷ ps))
ascends_step p a ps None e h ih = simp e ih
ascends_step p a ps (Some t) e h ih =
    let j : a.key ≡ p ++ t = strip_join p a.key t e in
    simp e (above_mounted p t ps (subst (λ (y : Bytes). AllAbove y ps) j h), ih)

pub ascends_mounted : (p : Bytes) (ps : Pairs) → Ascends ps → Ascends (mounted p ps)
ascends_mounted p [] h = tt
ascends_mounted p (a ∷ ps) h = ascends_step p a ps (stripped p a.key) refl h.0 (ascends_mounted p ps h.1)

-- a pair inserted below shows as a pair inserted above
module _ (p k v : Bytes) (a : Pair) (ps : Pairs) where
  insert_none : (s b : Bool) → same (p ++ k) a.key ≡ s → before (p ++ k) a.key ≡ b → stripped p a.key ≡ None → AllAbove a.key ps → mounted p (inserted (p ++ k) v ps) ≡ inserted k v (mounted p ps) → mounted p (inserted (p ++ k) v (a ∷ ps)) ≡ inserted k v (mounted p (a ∷ ps))
  insert_none true b es eb eo h ih = let z : same (p ++ k) a.key ≡ false = same_apart p k a.key eo in grind arith
  insert_none false true es eb eo h ih =
      let f : inserted k v (mounted p ps) ≡ pair k v ∷ mounted p ps = inserted_front k v (mounted p ps) (above_mounted p k ps (above_trans (p ++ k) a.key ps eb h)) in
      let q : stripped p (p ++ k) ≡ Some k = strip_append p k in
      simp (es, eb, eo, q, f)
  insert_none false false es eb eo h ih = simp (es, eb, eo) ih

  insert_some : (t : Bytes) (s b : Bool) → same (p ++ k) a.key ≡ s → before (p ++ k) a.key ≡ b → stripped p a.key ≡ Some t → mounted p (inserted (p ++ k) v ps) ≡ inserted k v (mounted p ps) → mounted p (inserted (p ++ k) v (a ∷ ps)) ≡ inserted k v (mounted p (a ∷ ps))
  insert_some t true b es eb eo ih =
      let u : same k t ≡ true = sym (same-under p k a.key t eo) ∙ es in
      let q : stripped p (p ++ k) ≡ Some k = strip_append p k in
      simp (es, eo, u, q)
  insert_some t false true es eb eo ih =
      let u : same k t ≡ false = sym (same-under p k a.key t eo) ∙ es in
      let w : before k t ≡ true = sym (before-under p k a.key t eo) ∙ eb in
      let q : stripped p (p ++ k) ≡ Some k = strip_append p k in
      simp (es, eb, eo, u, w, q)
  insert_some t false false es eb eo ih =
      let u : same k t ≡ false = sym (same-under p k a.key t eo) ∙ es in
      let w : before k t ≡ false = sym (before-under p k a.key t eo) ∙ eb in
      simp (es, eb, eo, u, w, ih)

  insert-step : (o : Option Bytes) → stripped p a.key ≡ o → AllAbove a.key ps → mounted p (inserted (p ++ k) v ps) ≡ inserted k v (mounted p ps) → mounted p (inserted (p ++ k) v (a ∷ ps)) ≡ inserted k v (mounted p (a ∷ ps))
  insert-step None e h ih = insert_none (same (p ++ k) a.key) (before (p ++ k) a.key) refl refl e h ih
  insert-step (Some t) e h ih = insert_some t (same (p ++ k) a.key) (before (p ++ k) a.key) refl refl e ih

  remove_none : stripped p a.key ≡ None → mounted p (removed (p ++ k) ps) ≡ removed k (mounted p ps) → mounted p (removed (p ++ k) (a ∷ ps)) ≡ removed k (mounted p (a ∷ ps))
  remove_none eo ih = let z : same (p ++ k) a.key ≡ false = same_apart p k a.key eo in simp (z, eo) ih

  remove_some : (t : Bytes) (s : Bool) → same (p ++ k) a.key ≡ s → stripped p a.key ≡ Some t → mounted p (removed (p ++ k) ps) ≡ removed k (mounted p ps) → mounted p (removed (p ++ k) (a ∷ ps)) ≡ removed k (mounted p (a ∷ ps))
  remove_some t true es eo ih = let u : same k t ≡ true = sym (same-under p k a.key t eo) ∙ es in simp (es, eo, u)
  remove_some t false es eo ih = let u : same k t ≡ false = sym (same-under p k a.key t eo) ∙ es in simp (es, eo, u, ih)

  remove-step : (o : Option Bytes) → stripped p a.key ≡ o → mounted p (removed (p ++ k) ps) ≡ removed k (mounted p ps) → mounted p (removed (p ++ k) (a ∷ ps)) ≡ removed k (mounted p (a ∷ ps))
  remove-step None e ih = remove_none e ih
  remove-step (Some t) e ih = remove_some t (same (p ++ k) a.key) refl e ih

pub inserted-mounted : (p k v : Bytes) (ps : Pairs) → Ascends ps → mounted p (inserted (p ++ k) v ps) ≡ inserted k v (mounted p ps)
inserted-mounted p k v [] h = let q : stripped p (p ++ k) ≡ Some k = strip_append p k in simp q
inserted-mounted p k v (a ∷ ps) h = insert-step p k v a ps (stripped p a.key) refl h.0 (inserted-mounted p k v ps h.1)

pub removed-mounted : (p k : Bytes) (ps : Pairs) → mounted p (removed (p ++ k) ps) ≡ removed k (mounted p ps)
removed-mounted p k [] = refl
removed-mounted p k (a ∷ ps) = remove-step p k [] a ps (stripped p a.key) refl (removed-mounted p k ps)

-- a key is well formed above exactly if it is below, with the prefix
pub well_mounted : (longest : ℕ) (p k : Bytes) → prefix_form true p ≡ true → is_text p ≡ true → well_key (longest - length p) k ≡ well_key longest (p ++ k)
well_mounted longest p [] h x = let n : key_form true (p ++ []) ≡ false = form_in_front true p [] h in simp n
well_mounted longest p (y ∷ k) h x =
    let n : key_form true (p ++ (y ∷ k)) ≡ key_form true (y ∷ k) = form_in_front true p (y ∷ k) h in
    let t : is_text (p ++ (y ∷ k)) ≡ is_text (y ∷ k) = text_append p (y ∷ k) x in
    let e : leb (length (y ∷ k)) (longest - length p) ≡ leb (length (p ++ (y ∷ k))) longest = room longest (length p) (length (y ∷ k)) (length (p ++ (y ∷ k))) (length-append p (y ∷ k)) (omega arith) in
    sym (and_three _ _ _ _ _ _ n (sym e) t)
  where
    room : (longest a b c : ℕ) → c ≡ a + b → 0 < b → leb b (longest - a) ≡ leb c longest
    room longest a b c e z = grind (arith, nat_tests)

    and_three : (a b c d e f : Bool) → a ≡ d → b ≡ e → c ≡ f → (a && (b && c)) ≡ (d && (e && f))
    and_three a b c d e f u v w = cc

pub got-mounted : (longest : ℕ) (p k : Bytes) (ps : Pairs) (n : ℕ) → prefix_form true p ≡ true → is_text p ≡ true → got (longest - length p) (mounted p ps) k n ≡ got longest ps (p ++ k) n
got-mounted longest p k ps n h x =
    ap (λ (b : Bool). guarded b (fitted n (lookup k (mounted p ps)))) (well_mounted longest p k h x)
    ∙ ap (λ (o : Option Bytes). guarded (well_key longest (p ++ k)) (fitted n o)) (lookup-mounted p k ps)

lawful_step : (longest : ℕ) (p : Bytes) (a : Pair) (ps : Pairs) (o : Option Bytes) → prefix_form true p ≡ true → is_text p ≡ true → stripped p a.key ≡ o → well_key longest a.key ≡ true → AllKeys (λ k. well_key (longest - length p) k ≡ true) (mounted p ps) → AllKeys (λ k. well_key (longest - length p) k ≡ true) (mounted p (a ∷ ps))
lawful_step longest p a ps None h x e w ih = simp e ih
lawful_step longest p a ps (Some t) h x e w ih =
    let j : a.key ≡ p ++ t = strip_join p a.key t e in
    simp e (well_mounted longest p t h x ∙ ap (well_key longest) (sym j) ∙ w, ih)

pub lawful_mounted : (longest : ℕ) (p : Bytes) (ps : Pairs) → prefix_form true p ≡ true → is_text p ≡ true → AllKeys (λ k. well_key longest k ≡ true) ps → AllKeys (λ k. well_key (longest - length p) k ≡ true) (mounted p ps)
lawful_mounted longest p [] h x w = tt
lawful_mounted longest p (a ∷ ps) h x w = lawful_step longest p a ps (stripped p a.key) h x refl w.0 (lawful_mounted longest p ps h x w.1)

-- a key that is too long with the prefix is too long without it
pub well_long : (longest : ℕ) (p k : Bytes) → longest ≤ 400 → 400 < length p + length k → well_key (longest - length p) k ≡ false
well_long longest p [] h m = refl
well_long longest p (y ∷ k) h m =
    let z : 0 < length (y ∷ k) = omega arith in
    let e : leb (length (y ∷ k)) (longest - length p) ≡ false = over (length (y ∷ k)) (length p) z m in
    ap (λ (b : Bool). key_form true (y ∷ k) && (b && is_text (y ∷ k))) e ∙ and_false (key_form true (y ∷ k))
  where
    over : (n l : ℕ) → 0 < n → 400 < l + n → leb n (longest - l) ≡ false
    over n l z o = grind (arith, nat_tests)

pub got_long : (longest : ℕ) (p k : Bytes) (ps : Pairs) (n : ℕ) → longest ≤ 400 → 400 < length p + length k → got (longest - length p) ps k n ≡ Err Malformed
got_long longest p k ps n h m = ap (λ (b : Bool). guarded b (fitted n (lookup k ps))) (well_long longest p k h m)

pub mounted_lawful : (longest : ℕ) (p : Bytes) (ps : Pairs) → prefix_form true p ≡ true → is_text p ≡ true → Lawful ps longest → Lawful (mounted p ps) (longest - length p)
mounted_lawful longest p ps h x l = record { ascends = ascends_mounted p ps l.ascends; short = omega (arith, l.short); keys = lawful_mounted longest p ps h x l.keys }
