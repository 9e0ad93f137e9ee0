-- The keys and the prefix of a valid path: they are keys and a prefix, and the path is read back from its prefix.
-- Assumes nothing.
use Rattle.std.proofs.Common.{◌≡◌, ℕ, ◌≤◌, true, [], ◌∷◌, ◌++◌, length, Ok, sym, refl, ap, ◌∙◌, append_assoc, arith, length-append}
use Rattle.std.proofs.lemmas.Bool.{and_parts}
use Rattle.text.specs.Bytes.{Bytes}
use Rattle.text.specs.Utf8.{is_text}
use Rattle.text.proofs.Texts.{text_append, text_plain}
use Rattle.keys.specs.declared.file.MetadataFile.{MetadataFile}
use Rattle.keys.specs.declared.file.MetadataFile.TheVariants.{ZarrJson, Zarray, Zgroup, Zattrs}
use Rattle.paths.specs.Paths.{Name, Path, are_names, slashed, rendered, in_limits, is_path, split, checked, relative}
use Rattle.keys.specs.Keys.{key_form, is_key, is_prefix}
use Rattle.keys.specs.MetadataKeys.{file_name, prefix_of, metadata_key, without_last, path_of_prefix}
use Rattle.keys.specs.Laws.{none_empty, PathKeysAreKeys}
use Rattle.paths.proofs.Splits.{name_text, names_head, names_tail, split_some, split-relative, relative-split}
use Rattle.paths.proofs.Readings.{never, checked_ok, checked_is}
use Rattle.paths.proofs.Extends.{few_bytes}
use Rattle.keys.proofs.KeyForms.{key_form_parts, form_last, form_in_front, key_from, prefix_parts, key_slash}

-- ---- the text of a prefix

pub prefix_slashed : (p : Path) → (47 ∷ prefix_of p) ≡ slashed p ++ (47 ∷ [])
prefix_slashed [] = refl
prefix_slashed (n ∷ p) = ap (λ (x : Bytes). 47 ∷ x) (ap (λ (x : Bytes). n ++ x) (prefix_slashed p) ∙ sym (append_assoc n (slashed p) (47 ∷ [])))

pub prefix_relative : (n : Name) (q : Path) → prefix_of (n ∷ q) ≡ relative (n ∷ q) ++ (47 ∷ [])
prefix_relative n q = ap (λ (x : Bytes). n ++ x) (prefix_slashed q) ∙ sym (append_assoc n (slashed q) (47 ∷ []))

pub prefix_length : (n : Name) (q : Path) → length (prefix_of (n ∷ q)) ≡ length (rendered (n ∷ q))
prefix_length n q = ap length (prefix_relative n q) ∙ length-append (relative (n ∷ q)) (47 ∷ []) ∙ omega arith

pub prefix_within : (p : Path) → in_limits p ≡ true → length (prefix_of p) ≤ 255
prefix_within [] l = omega arith
prefix_within (n ∷ q) l = omega (arith, prefix_length n q, few_bytes (n ∷ q) l)

-- ---- names with `/` between them are a key

names_full : (p : Path) → are_names p ≡ true → none_empty p ≡ true
names_full [] h = refl
names_full ([] ∷ p) h = never (sym h)
names_full ((b ∷ n) ∷ p) h = names_full p (names_tail (b ∷ n) p h)

slashed_text : (p : Path) → are_names p ≡ true → is_text (slashed p) ≡ true
slashed_text [] h = refl
slashed_text (n ∷ p) h =
    text_plain 47 (n ++ slashed p) (omega arith) ∙ text_append n (slashed p) (name_text n (names_head n p h)) ∙ slashed_text p (names_tail n p h)

relative_text : (n : Name) (q : Path) → are_names (n ∷ q) ≡ true → is_text (relative (n ∷ q)) ≡ true
relative_text n q h = sym (text_plain 47 (relative (n ∷ q)) (omega arith)) ∙ slashed_text (n ∷ q) h

pub relative_key : (n : Name) (q : Path) → is_path (n ∷ q) ≡ true → is_key (relative (n ∷ q)) ≡ true
relative_key n q h =
    let a = and_parts (are_names (n ∷ q)) (in_limits (n ∷ q)) h in
    key_from (relative (n ∷ q))
    (key_form_parts (relative (n ∷ q)) ∙ ap none_empty (split-relative n q a.0) ∙ names_full (n ∷ q) a.0)
    (omega (arith, few_bytes (n ∷ q) a.1))
    (relative_text n q a.0)

pub prefix_of_path : (p : Path) → is_path p ≡ true → is_prefix (prefix_of p) ≡ true
prefix_of_path [] h = refl
prefix_of_path (n ∷ q) h = ap is_prefix (prefix_relative n q) ∙ key_slash (relative (n ∷ q)) (relative_key n q h)

-- ---- the files

file_form : (f : MetadataFile) → key_form true (file_name f) ≡ true
file_form ZarrJson = refl
file_form Zarray = refl
file_form Zgroup = refl
file_form Zattrs = refl

pub file_short : (f : MetadataFile) → length (file_name f) ≤ 9
file_short ZarrJson = omega arith
file_short Zarray = omega arith
file_short Zgroup = omega arith
file_short Zattrs = omega arith

pub file_text : (f : MetadataFile) → is_text (file_name f) ≡ true
file_text ZarrJson = refl
file_text Zarray = refl
file_text Zgroup = refl
file_text Zattrs = refl

pub key_within : (p : Path) (f : MetadataFile) → in_limits p ≡ true → length (metadata_key p f) ≤ 264
key_within p f l = omega (arith, length-append (prefix_of p) (file_name f), prefix_within p l, file_short f)

pub key_of_path : (p : Path) (f : MetadataFile) → is_path p ≡ true → is_key (metadata_key p f) ≡ true
key_of_path p f h =
    let a = and_parts (are_names p) (in_limits p) h in
    let b = prefix_parts (prefix_of p) (prefix_of_path p h) in
    key_from (metadata_key p f)
    (form_in_front true (prefix_of p) (file_name f) b.0 ∙ file_form f)
    (omega (arith, key_within p f a.1))
    (text_append (prefix_of p) (file_name f) b.2 ∙ file_text f)

-- ---- the path of a prefix

last_off : (b : ℕ) (t : Bytes) → without_last b (t ++ (47 ∷ [])) ≡ b ∷ t
last_off b [] = refl
last_off b (c ∷ t) = ap (λ (x : Bytes). b ∷ x) (last_off c t)

pub prefix_read : (k : Bytes) → path_of_prefix (k ++ (47 ∷ [])) ≡ checked (split k) (split k)
prefix_read [] = refl
prefix_read (b ∷ k) = ap (λ (x : Bytes). checked (split x) (split x)) (last_off b k)

pub prefix_back : (p : Path) → is_path p ≡ true → path_of_prefix (prefix_of p) ≡ Ok p
prefix_back [] h = refl
prefix_back (n ∷ q) h =
    let a = and_parts (are_names (n ∷ q)) (in_limits (n ∷ q)) h in
    ap path_of_prefix (prefix_relative n q) ∙ prefix_read (relative (n ∷ q)) ∙ ap (λ (x : Path). checked x x) (split-relative n q a.0) ∙ checked_is (n ∷ q) (n ∷ q) a.0 a.1

prefix_split : (k : Bytes) → prefix_of (split k) ≡ k ++ (47 ∷ [])
prefix_split k =
    let s = split_some k in
    let e : split k ≡ s.0 ∷ s.1 = s.2 in
    ap prefix_of e ∙ prefix_relative s.0 s.1 ∙ ap (λ (x : Bytes). x ++ (47 ∷ [])) (ap relative (sym e) ∙ relative-split k)

pub prefix_only : (t : Bytes) (p : Path) → is_prefix t ≡ true → path_of_prefix t ≡ Ok p → prefix_of p ≡ t
prefix_only [] p h e = let q : [] ≡ p = cc in ap prefix_of (sym q)
prefix_only (b ∷ t) p h e =
    let k : Bytes = without_last b t in
    let q : split k ≡ p = (checked_ok (split k) (split k) p e).2 in
    ap prefix_of (sym q) ∙ prefix_split k ∙ sym (form_last true b t (prefix_parts (b ∷ t) h).0)

pub path_keys_are_keys_lem : PathKeysAreKeys
path_keys_are_keys_lem = record {
  key = λ p f h. (key_of_path p f h, key_within p f (and_parts (are_names p) (in_limits p) h).1);
  prefix = prefix_of_path;
  back = prefix_back;
  only = prefix_only;
}
