-- Texts cut at their `/`s, and names put together again.
-- Assumes nothing.
use Rattle.std.proofs.Common.{◌≡◌, ℕ, true, false, cond, not, ◌&&◌, eqb, List, [], ◌∷◌, ◌++◌, sym, refl, ap, ◌∙◌, append_assoc, append-nil, arith}
use Rattle.std.proofs.lemmas.Bool.{and_parts, and_from, not-true}
use Rattle.std.proofs.lemmas.Bool.Decides.{nat_tests}
use Rattle.text.specs.Bytes.{Bytes}
use Rattle.text.specs.Utf8.{is_text}
use Rattle.paths.specs.Names.{no_slash, reserved, only_periods, is_name}
use Rattle.paths.specs.Paths.{Name, Path, are_names, slashed, rendered, onto, split, relative}

-- ---- names

pub name_text : (n : Name) → is_name n ≡ true → is_text n ≡ true
name_text n h = (and_parts (is_text n) (no_slash n && (not (reserved n) && not (only_periods n))) h).0

pub name_plain : (n : Name) → is_name n ≡ true → no_slash n ≡ true
name_plain n h = (and_parts (no_slash n) (not (reserved n) && not (only_periods n)) (and_parts (is_text n) (no_slash n && (not (reserved n) && not (only_periods n))) h).1).0

pub name_not_periods : (n : Name) → is_name n ≡ true → only_periods n ≡ false
name_not_periods n h =
    let a = and_parts (is_text n) (no_slash n && (not (reserved n) && not (only_periods n))) h in
    let b = and_parts (no_slash n) (not (reserved n) && not (only_periods n)) a.1 in
    not-true (only_periods n) (and_parts (not (reserved n)) (not (only_periods n)) b.1).1

pub names_head : (n : Name) (p : Path) → are_names (n ∷ p) ≡ true → is_name n ≡ true
names_head n p h = (and_parts (is_name n) (are_names p) h).0

pub names_tail : (n : Name) (p : Path) → are_names (n ∷ p) ≡ true → are_names p ≡ true
names_tail n p h = (and_parts (is_name n) (are_names p) h).1

pub names_back : (g r : Path) → are_names (g ++ r) ≡ true → are_names r ≡ true
names_back [] r h = h
names_back (n ∷ g) r h = names_back g r (names_tail n (g ++ r) h)

pub names_front : (g r : Path) → are_names (g ++ r) ≡ true → are_names g ≡ true
names_front [] r h = refl
names_front (n ∷ g) r h = and_from (is_name n) (are_names g) (names_head n (g ++ r) h) (names_front g r (names_tail n (g ++ r) h))

pub names_both : (g r : Path) → are_names g ≡ true → are_names (g ++ r) ≡ are_names r
names_both [] r h = refl
names_both (n ∷ g) r h = rw (names_head n g h) (names_both g r (names_tail n g h))

-- ---- one `/`

pub plain_head : (b : ℕ) (t : Bytes) → no_slash (b ∷ t) ≡ true → eqb b 47 ≡ false
plain_head b t h = not-true (eqb b 47) (and_parts (not (eqb b 47)) (no_slash t) h).0

pub plain_tail : (b : ℕ) (t : Bytes) → no_slash (b ∷ t) ≡ true → no_slash t ≡ true
plain_tail b t h = (and_parts (not (eqb b 47)) (no_slash t) h).1

pub split_name : (n : Bytes) → no_slash n ≡ true → split n ≡ n ∷ []
split_name [] h = refl
split_name (b ∷ n) h = rw (plain_head b n h, split_name n (plain_tail b n h))

pub split_more : (n t : Bytes) → no_slash n ≡ true → split (n ++ (47 ∷ t)) ≡ n ∷ split t
split_more [] t h = refl
split_more (b ∷ n) t h = rw (plain_head b n h, split_more n t (plain_tail b n h))

-- the parts of a text are one and more
pub split_some : (t : Bytes) → (n : Bytes) × (p : List Bytes) × (split t ≡ n ∷ p)
split_some [] = ([], [], refl)
split_some (b ∷ t) = (elim (eqb b 47) as (λ x. (n : Bytes) × (p : List Bytes) × (cond x ([] ∷ split t) (onto b (split t)) ≡ n ∷ p)) [
  | true ↦ ([], split t, refl)
  | false ↦ let s = split_some t in (b ∷ s.0, s.1, ap (onto b) s.2)
])

onto-append : (b : ℕ) (t : Bytes) (q : List Bytes) → onto b (split t ++ q) ≡ onto b (split t) ++ q
onto-append b t q = let s = split_some t in rw s.2 refl

pub split-append : (a b : Bytes) → split (a ++ (47 ∷ b)) ≡ split a ++ split b
split-append [] b = refl
split-append (x ∷ a) b =
    let i : split (a ++ (47 ∷ b)) ≡ split a ++ split b = split-append a b in
    (elim (eqb x 47) as (λ y. cond y ([] ∷ split (a ++ (47 ∷ b))) (onto x (split (a ++ (47 ∷ b)))) ≡ cond y ([] ∷ split a) (onto x (split a)) ++ split b) [
      | true ↦ ap (λ (z : List Bytes). [] ∷ z) i
      | false ↦ ap (onto x) i ∙ onto-append x a (split b)
    ])

-- ---- names written with `/` between them

pub split-relative : (n : Name) (p : Path) → are_names (n ∷ p) ≡ true → split (relative (n ∷ p)) ≡ n ∷ p
split-relative n [] h = ap split (append-nil n) ∙ split_name n (name_plain n (names_head n [] h))
split-relative n (k ∷ p) h = split_more n (relative (k ∷ p)) (name_plain n (names_head n (k ∷ p) h)) ∙ ap (λ (x : Path). n ∷ x) (split-relative k p (names_tail n (k ∷ p) h))

relative-onto : (b : ℕ) (t : Bytes) → relative (onto b (split t)) ≡ b ∷ relative (split t)
relative-onto b t = let s = split_some t in rw s.2 refl

slashed-split : (t : Bytes) → slashed (split t) ≡ 47 ∷ relative (split t)
slashed-split t = let s = split_some t in rw s.2 refl

pub relative-split : (t : Bytes) → relative (split t) ≡ t
relative-split [] = refl
relative-split (b ∷ t) = (elim (eqb b 47) as (λ x. eqb b 47 ≡ x → relative (cond x ([] ∷ split t) (onto b (split t))) ≡ b ∷ t) [
  | true ↦ λ e. let q : b ≡ 47 = grind (arith, nat_tests) in slashed-split t ∙ ap (λ (z : Bytes). 47 ∷ z) (relative-split t) ∙ ap (λ (z : ℕ). z ∷ t) (sym q)
  | false ↦ λ e. relative-onto b t ∙ ap (λ (z : Bytes). b ∷ z) (relative-split t)
]) refl

pub slashed-append : (p q : Path) → slashed (p ++ q) ≡ slashed p ++ slashed q
slashed-append [] q = refl
slashed-append (n ∷ p) q = ap (λ (z : Bytes). 47 ∷ z) (ap (λ (z : Bytes). n ++ z) (slashed-append p q) ∙ sym (append_assoc n (slashed p) (slashed q)))

pub rendered-split : (t : Bytes) → rendered (split t) ≡ 47 ∷ t
rendered-split t = let s = split_some t in let e : rendered (split t) ≡ 47 ∷ relative (split t) = rw s.2 refl in e ∙ ap (λ (z : Bytes). 47 ∷ z) (relative-split t)
