-- A metadata key begins with the prefix of a path exactly if its own path is that one or lies below it; and keys of different paths or files differ.
-- Assumes nothing.
use Rattle.std.proofs.Common.{◌≡◌, ℕ, Bool, true, false, cond, ◌&&◌, eqb, [], ◌∷◌, ◌++◌, Some, None, codes, sym, refl, ap, ◌∙◌, append_assoc, arith}
use Rattle.std.proofs.lemmas.Bool.Decides.{nat_tests}
use Rattle.std.proofs.lemmas.Bool.{and_parts, eq-eqb}
use Rattle.text.specs.Bytes.{Bytes, same, stripped}
use Rattle.text.proofs.Order.{same_refl, same_eq, strip_append}
use Rattle.keys.specs.declared.file.MetadataFile.{MetadataFile}
use Rattle.keys.specs.declared.file.MetadataFile.TheVariants.{ZarrJson, Zarray, Zgroup, Zattrs}
use Rattle.paths.specs.Names.{no_slash}
use Rattle.paths.specs.Paths.{Name, Path, are_names, split, parent_of, name_of, at_or_below, AtOrBelow}
use Rattle.keys.specs.MetadataKeys.{file_name, prefix_of, metadata_key}
use Rattle.keys.specs.Laws.{KeysUnderPrefix, KeysDiffer}
use Rattle.paths.proofs.Splits.{name_plain, names_head, names_tail, plain_tail, split_name, split_more}
use Rattle.paths.proofs.Readings.{never}
use Rattle.paths.proofs.Joins.{parent_last, name_last}

pub file_plain : (f : MetadataFile) → no_slash (file_name f) ≡ true
file_plain ZarrJson = refl
file_plain Zarray = refl
file_plain Zgroup = refl
file_plain Zattrs = refl

-- ---- a path in front

pub prefix_append : (g r : Path) → prefix_of (g ++ r) ≡ prefix_of g ++ prefix_of r
prefix_append [] r = refl
prefix_append (n ∷ g) r = rw (prefix_append g r, append_assoc)

pub key_append : (g r : Path) (f : MetadataFile) → metadata_key (g ++ r) f ≡ prefix_of g ++ metadata_key r f
key_append g r f = rw (prefix_append g r, append_assoc)

-- ---- a prefix taken off

-- a text without `/` does not begin with a name and `/`
strip_plain : (n t k : Bytes) → no_slash k ≡ true → stripped (n ++ (47 ∷ t)) k ≡ None
strip_plain [] t [] h = refl
strip_plain [] t (y ∷ k) h = grind (arith, nat_tests)
strip_plain (x ∷ n) t [] h = refl
strip_plain (x ∷ n) t (y ∷ k) h =
    let i : stripped (n ++ (47 ∷ t)) k ≡ None = strip_plain n t k (plain_tail y k h) in
    (elim (eqb x y) as (λ b. cond b (stripped (n ++ (47 ∷ t)) k) None ≡ None) [ true ↦ i | false ↦ refl ])

-- two names that differ
strip_other : (n k t u : Bytes) → no_slash n ≡ true → no_slash k ≡ true → same n k ≡ false → stripped (n ++ (47 ∷ t)) (k ++ (47 ∷ u)) ≡ None
strip_other [] [] t u hn hk h = never h
strip_other [] (y ∷ k) t u hn hk h = grind (arith, nat_tests)
strip_other (x ∷ n) [] t u hn hk h = grind (arith, nat_tests)
strip_other (x ∷ n) (y ∷ k) t u hn hk h =
    (elim (eqb x y) as (λ b. cond b (same n k) false ≡ false → cond b (stripped (n ++ (47 ∷ t)) (k ++ (47 ∷ u))) None ≡ None)
    [ true ↦ λ e. strip_other n k t u (plain_tail x n hn) (plain_tail y k hk) e | false ↦ λ e. refl ]) h

-- one name in front of both
strip_same : (n t u : Bytes) → stripped (n ++ t) (n ++ u) ≡ stripped t u
strip_same [] t u = refl
strip_same (x ∷ n) t u = rw (eq-eqb x x refl) (strip_same n t u)

apart : (n k : Name) (g p : Path) (f : MetadataFile) (b : Bool) → same n k ≡ b → are_names (n ∷ g) ≡ true → are_names (k ∷ p) ≡ true → (b && at_or_below g p) ≡ false
    → (at_or_below g p ≡ false → stripped (prefix_of g) (metadata_key p f) ≡ None) → stripped (prefix_of (n ∷ g)) (metadata_key (k ∷ p) f) ≡ None
apart n k g p f true e hg hp h ih =
    let q : n ≡ k = same_eq n k e in
    rw (sym q, append_assoc) (strip_same n (47 ∷ prefix_of g) (47 ∷ metadata_key p f) ∙ ih h)
apart n k g p f false e hg hp h ih =
    rw append_assoc (strip_other n k (prefix_of g) (prefix_of p ++ file_name f) (name_plain n (names_head n g hg)) (name_plain k (names_head k p hp)) e)

pub strip_apart : (g p : Path) (f : MetadataFile) → are_names g ≡ true → are_names p ≡ true → at_or_below g p ≡ false → stripped (prefix_of g) (metadata_key p f) ≡ None
strip_apart [] p f hg hp h = never h
strip_apart (n ∷ g) [] f hg hp h = strip_plain n (prefix_of g) (file_name f) (file_plain f)
strip_apart (n ∷ g) (k ∷ p) f hg hp h = apart n k g p f (same n k) refl hg hp h (strip_apart g p f (names_tail n g hg) (names_tail k p hp))

pub strip_below : (g r : Path) (f : MetadataFile) → stripped (prefix_of g) (metadata_key (g ++ r) f) ≡ Some (metadata_key r f)
strip_below g r f = rw (key_append g r f) (strip_append (prefix_of g) (metadata_key r f))

-- ---- the test and the relation

pub below_from_test : (g p : Path) → at_or_below g p ≡ true → AtOrBelow g p
below_from_test [] p h = (p, refl)
below_from_test (n ∷ g) [] h = never (sym h)
below_from_test (n ∷ g) (k ∷ p) h =
    let a = and_parts (same n k) (at_or_below g p) h in
    let i = below_from_test g p a.1 in
    let e : n ≡ k = same_eq n k a.0 in
    let j : p ≡ g ++ i.0 = i.1 in
    (i.0, cc)

pub test_from_below : (g r : Path) → at_or_below g (g ++ r) ≡ true
test_from_below [] r = refl
test_from_below (n ∷ g) r = rw (same_refl n) (test_from_below g r)

pub keys_under_prefix_lem : KeysUnderPrefix
keys_under_prefix_lem g p f hg hp = (
  (λ s. under (at_or_below g p) refl s.0 s.1),
  (λ b. (metadata_key b.0 f, rw b.1 (strip_below g b.0 f))),
)
  where
    under : (t : Bool) → at_or_below g p ≡ t → (k : Bytes) → stripped (prefix_of g) (metadata_key p f) ≡ Some k → AtOrBelow g p
    under true e k s = below_from_test g p e
    under false e k s = let z : None ≡ Some k = sym (strip_apart g p f hg hp e) ∙ s in let y : ◌≡◌ {A = ℕ} 0 1 = cc in absurd (omega arith)

-- ---- keys that are equal

-- the parts of a metadata key between its `/`s
pub split_key : (p : Path) (f : MetadataFile) → are_names p ≡ true → split (metadata_key p f) ≡ p ++ (file_name f ∷ [])
split_key [] f h = split_name (file_name f) (file_plain f)
split_key (n ∷ p) f h =
    ap split (append_assoc n (47 ∷ prefix_of p) (file_name f))
    ∙ split_more n (metadata_key p f) (name_plain n (names_head n p h))
    ∙ ap (λ (x : Path). n ∷ x) (split_key p f (names_tail n p h))

-- the file of its name
abbrev file_of : Bytes → MetadataFile
file_of t = cond (same t (codes "zarr.json")) ZarrJson (cond (same t (codes ".zarray")) Zarray (cond (same t (codes ".zgroup")) Zgroup Zattrs))

file_back : (f : MetadataFile) → file_of (file_name f) ≡ f
file_back ZarrJson = refl
file_back Zarray = refl
file_back Zgroup = refl
file_back Zattrs = refl

pub files_differ : (f g : MetadataFile) → file_name f ≡ file_name g → f ≡ g
files_differ f g e = sym (file_back f) ∙ ap file_of e ∙ file_back g

pub keys_differ_lem : KeysDiffer
keys_differ_lem p q f g hp hq e =
    let s : p ++ (file_name f ∷ []) ≡ q ++ (file_name g ∷ []) = sym (split_key p f hp) ∙ ap split e ∙ split_key q g hq in
    let a : Some p ≡ Some q = sym (parent_last p (file_name f)) ∙ ap parent_of s ∙ parent_last q (file_name g) in
    let b : file_name f ≡ file_name g = sym (name_last p (file_name f)) ∙ ap name_of s ∙ name_last q (file_name g) in
    let d : p ≡ q = cc in
    (d, files_differ f g b)
