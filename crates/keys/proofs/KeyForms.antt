-- What has the form of a key and of a prefix, said by the parts between the `/`s and by the last byte.
-- Assumes nothing.
use Rattle.std.proofs.Common.{◌≡◌, ℕ, ◌≤◌, Bool, true, false, cond, ◌&&◌, eqb, leb, ◌⊎◌, List, [], ◌∷◌, ◌++◌, length, sym, refl, ap, ◌∙◌, inl, inr, arith, length-append}
use Rattle.std.proofs.lemmas.Bool.{and_parts, and_from, eqb-true, leb-true, le-leb}
use Rattle.text.specs.Bytes.{Bytes}
use Rattle.text.specs.Utf8.{is_text}
use Rattle.text.proofs.Texts.{text_append, text_cut}
use Rattle.paths.specs.Paths.{onto, split}
use Rattle.keys.specs.Keys.{key_form, prefix_form, is_key, is_prefix}
use Rattle.keys.specs.MetadataKeys.{without_last}
use Rattle.keys.specs.Laws.{none_empty, KeyAndPrefixForms}
use Rattle.paths.proofs.Readings.{never}

-- ---- keys and the parts between their `/`s

-- where a name has still to begin, and behind a byte of a name
form_parts : (t : Bytes) → (key_form true t ≡ none_empty (split t)) × ((x : ℕ) → key_form false t ≡ none_empty (onto x (split t)))
form_parts [] = (refl, λ x. refl)
form_parts (b ∷ t) =
    let i = form_parts t in
    (elim (eqb b 47) as (λ s. (cond s false (key_form false t) ≡ none_empty (cond s ([] ∷ split t) (onto b (split t))))
    × ((x : ℕ) → cond s (key_form true t) (key_form false t) ≡ none_empty (onto x (cond s ([] ∷ split t) (onto b (split t)))))) [
      | true ↦ (refl, λ x. i.0)
      | false ↦ (i.1 b, λ x. i.1 b ∙ onto-onto x b (split t))
    ])
  where
    onto-onto : (x y : ℕ) (ps : List Bytes) → none_empty (onto y ps) ≡ none_empty (onto x (onto y ps))
    onto-onto x y [] = refl
    onto-onto x y (n ∷ ps) = refl

pub key_form_parts : (k : Bytes) → key_form true k ≡ none_empty (split k)
key_form_parts k = (form_parts k).0

-- ---- a key and `/`

pub form_slash : (fresh : Bool) (k : Bytes) → prefix_form fresh (k ++ (47 ∷ [])) ≡ key_form fresh k
form_slash true [] = refl
form_slash false [] = refl
form_slash fresh (b ∷ k) = rw (form_slash true k, form_slash false k)

-- behind its first byte a prefix goes on as one
form_behind : (slash fresh : Bool) (t : Bytes) → cond slash (cond fresh false (prefix_form true t)) (prefix_form false t) ≡ true → (f : Bool) × (prefix_form f t ≡ true)
form_behind true true t h = never (sym h)
form_behind true false t h = (true, h)
form_behind false fresh t h = (false, h)

-- a prefix that is not empty ends with `/`
pub form_last : (fresh : Bool) (b : ℕ) (t : Bytes) → prefix_form fresh (b ∷ t) ≡ true → (b ∷ t) ≡ without_last b t ++ (47 ∷ [])
form_last fresh b [] h =
    (elim (eqb b 47) as (λ s. eqb b 47 ≡ s → cond s (cond fresh false true) false ≡ true → (b ∷ []) ≡ 47 ∷ []) [
      | true ↦ λ e g. ap (λ (x : ℕ). x ∷ []) (eqb-true b 47 e)
      | false ↦ λ e g. never (sym g)
    ]) refl h
form_last fresh b (c ∷ t) h = let k = form_behind (eqb b 47) fresh (c ∷ t) h in ap (λ (x : Bytes). b ∷ x) (form_last k.0 c t k.1)

-- a prefix in front of a text leaves the text to have the form of a key
pub form_in_front : (fresh : Bool) (t k : Bytes) → prefix_form fresh t ≡ true → key_form fresh (t ++ k) ≡ key_form true k
form_in_front fresh [] k h = ap (λ (f : Bool). key_form f k) h
form_in_front fresh (b ∷ t) k h = by (eqb b 47) fresh h (λ f. form_in_front f t k)
  where
    by : (slash fresh : Bool) → cond slash (cond fresh false (prefix_form true t)) (prefix_form false t) ≡ true → ((f : Bool) → prefix_form f t ≡ true → key_form f (t ++ k) ≡ key_form true k)
        → cond slash (cond fresh false (key_form true (t ++ k))) (key_form false (t ++ k)) ≡ key_form true k
    by true true g i = never (sym g)
    by true false g i = i true g
    by false fresh g i = i false g

-- ---- what makes a key, and a prefix

pub key_parts : (k : Bytes) → is_key k ≡ true → (key_form true k ≡ true) × (length k ≤ 400) × (is_text k ≡ true)
key_parts k h =
    let a = and_parts (key_form true k) (leb (length k) 400 && is_text k) h in
    let b = and_parts (leb (length k) 400) (is_text k) a.1 in
    (a.0, leb-true (length k) 400 b.0, b.1)

pub key_from : (k : Bytes) → key_form true k ≡ true → length k ≤ 400 → is_text k ≡ true → is_key k ≡ true
key_from k f l t = and_from (key_form true k) (leb (length k) 400 && is_text k) f (and_from (leb (length k) 400) (is_text k) (le-leb (length k) 400 l) t)

pub prefix_parts : (p : Bytes) → is_prefix p ≡ true → (prefix_form true p ≡ true) × (length p ≤ 401) × (is_text p ≡ true)
prefix_parts p h =
    let a = and_parts (prefix_form true p) (leb (length p) 401 && is_text p) h in
    let b = and_parts (leb (length p) 401) (is_text p) a.1 in
    (a.0, leb-true (length p) 401 b.0, b.1)

pub prefix_from : (p : Bytes) → prefix_form true p ≡ true → length p ≤ 401 → is_text p ≡ true → is_prefix p ≡ true
prefix_from p f l t = and_from (prefix_form true p) (leb (length p) 401 && is_text p) f (and_from (leb (length p) 401) (is_text p) (le-leb (length p) 401 l) t)

pub key_slash : (k : Bytes) → is_key k ≡ true → is_prefix (k ++ (47 ∷ [])) ≡ true
key_slash k h =
    let a = key_parts k h in
    prefix_from (k ++ (47 ∷ [])) (form_slash true k ∙ a.0) (omega (arith, length-append k (47 ∷ []))) (text_append k (47 ∷ []) a.2)

pub slash_key : (k : Bytes) → is_prefix (k ++ (47 ∷ [])) ≡ true → is_key k ≡ true
slash_key k h =
    let a = prefix_parts (k ++ (47 ∷ [])) h in
    key_from k (sym (form_slash true k) ∙ a.0) (omega (arith, length-append k (47 ∷ []))) (text_cut k [] 47 (omega arith) a.2).0

prefix_forms : (p : Bytes) → is_prefix p ≡ true → (p ≡ []) ⊎ ((k : Bytes) × (is_key k ≡ true) × (p ≡ k ++ (47 ∷ [])))
prefix_forms [] h = inl refl
prefix_forms (b ∷ t) h =
    let e = form_last true b t (prefix_parts (b ∷ t) h).0 in
    inr (without_last b t, slash_key (without_last b t) (ap is_prefix (sym e) ∙ h), e)

forms_prefix : (p : Bytes) → (p ≡ []) ⊎ ((k : Bytes) × (is_key k ≡ true) × (p ≡ k ++ (47 ∷ []))) → is_prefix p ≡ true
forms_prefix p (inl e) = ap is_prefix e
forms_prefix p (inr s) = ap is_prefix s.2 ∙ key_slash s.0 s.1

pub key_and_prefix_forms_lem : KeyAndPrefixForms
key_and_prefix_forms_lem = record { key = key_form_parts; prefix = λ p. (prefix_forms p, forms_prefix p) }
