-- What the library's scans of a text say of its names, slashes and periods.
-- Assumes nothing.
use Rattle.std.proofs.Common.{◌≡◌, ℕ, zero, suc, ◌+◌, ◌<◌, ◌≤◌, true, false, not, cond, ◌&&◌, ◌||◌, eqb, List, [], ◌∷◌, ◌++◌, map, length, get_or, take, drop, is_some, Some, None, Err, Option, Bor, MatchOption, sym, refl, ap, ◌∙◌, arith, length-drop, ne_eqb}
use Rattle.std.proofs.lemmas.List.{get_or-drop}
use Rattle.std.proofs.lemmas.Bool.{and_parts, and_from}
use borrow.Author.Tests.{clash}
use Rattle.std.specs.Cmp.Lexicographic.{pointwise}
use Rattle.std.specs.List.{list_any, list_all, slice_split, onto_first}
use Rattle.text.specs.Bytes.{Bytes}
use Rattle.paths.specs.Names.{no_slash, only_periods, is_name}
use Rattle.paths.specs.Paths.{Path, Name, are_names, onto, split, extended, path_of}
use Rattle.paths.specs.declared.fault.PathFault.TheVariants.{Invalid}

pub no_slash_is : (t : Bytes) → not (list_any (λ b. eqb b 47) t) ≡ no_slash t
no_slash_is [] = refl
no_slash_is (b ∷ t) = elim (eqb b 47) as (λ x. not (x || list_any (λ c. eqb c 47) t) ≡ (not x && no_slash t)) [ true ↦ refl | false ↦ no_slash_is t ]

pub periods_is : (t : Bytes) → list_all (λ b. eqb b 46) t ≡ only_periods t
periods_is [] = refl
periods_is (b ∷ t) = ap (λ x. eqb b 46 && x) (periods_is t)

plain_all : (t : Bytes) → ((k : ℕ) → k < length t → get_or t k 0 ≡ 47 → ⊥) → no_slash t ≡ true
plain_all [] f = refl
plain_all (b ∷ t) f =
    and_from (not (eqb b 47)) (no_slash t) (ap not (ne_eqb b 47 (f zero (omega arith)))) (plain_all t (λ k h. f (suc k) (omega arith)))

-- a text has no `/` from an index on
pub plain_from : (t : Bytes) (i : ℕ) → ((k : ℕ) → i ≤ k → k < length t → get_or t k 0 ≡ 47 → ⊥) → no_slash (drop i t) ≡ true
plain_from t i f =
    plain_all (drop i t) (λ k h e. f (i + k) (omega arith) (omega (arith, length-drop i t)) (sym (get_or-drop i t k 0) ∙ e))

-- what `strip_prefix` leaves of a text that begins with `/`
pub slash_stripped : (t : Bytes) (r : Option (Bor Bytes)) → MatchOption r (pointwise eqb (take 1 t) (47 ∷ []) ≡ false) (λ x. (pointwise eqb (take 1 t) (47 ∷ []) ≡ true) × (x.now ≡ drop 1 t) × (length x.now + 1 ≡ length t)) → (names : Bor Bytes) → r ≡ Some names → path_of t ≡ extended [] names.now
slash_stripped t None h names e = absurd (clash (ap is_some e))
slash_stripped [] (Some x) h names e = absurd (omega (arith, h.2))
slash_stripped (b ∷ t) (Some x) h names e =
    let begins : eqb b 47 ≡ true = (and_parts (eqb b 47) true h.0).0 in
    let same : x ≡ names = cc in
    ap (λ z. cond z (extended [] t) (Err Invalid)) begins ∙ ap (extended []) (sym h.1) ∙ ap (λ (y : Bor Bytes). extended [] y.now) same

-- ---- the names between slashes
onto_is : (b : ℕ) (p : List Bytes) → onto_first b p ≡ onto b p
onto_is b [] = refl
onto_is b (n ∷ p) = refl

pub split_is : (t : Bytes) → slice_split (λ b. eqb b 47) t ≡ split t
split_is [] = refl
split_is (b ∷ t) =
    ap (λ p. cond (eqb b 47) ([] ∷ p) (onto_first b p)) (split_is t) ∙ ap (cond (eqb b 47) ([] ∷ split t)) (onto_is b (split t))

pub names_push : (p : List (Bor Bytes)) (n : Bor Bytes) → are_names (map (λ (m : Bor Bytes). m.now) p) ≡ true → is_name n.now ≡ true → are_names (map (λ (m : Bor Bytes). m.now) (p ++ (n ∷ []))) ≡ true
names_push [] n h e = and_from (is_name n.now) true e refl
names_push (m ∷ p) n h e =
    let w = and_parts (is_name m.now) (are_names (map (λ (m : Bor Bytes). m.now) p)) h in
    and_from (is_name m.now) (are_names (map (λ (m : Bor Bytes). m.now) (p ++ (n ∷ [])))) w.0 (names_push p n w.1 e)

-- one name that is unlawful
pub unlawful : (p : Path) (k : ℕ) (n : Name) → k < length p → n ≡ get_or p k n → is_name n ≡ false → are_names p ≡ false
unlawful [] k n h e f = absurd (omega arith)
unlawful (m ∷ p) zero n h e f = ap (λ x. is_name x && are_names p) (sym e) ∙ ap (λ x. x && are_names p) f
unlawful (m ∷ p) (suc k) n h e f =
    let i = unlawful p k n (omega arith) e f in
    elim (is_name m) as (λ x. (x && are_names p) ≡ false) [ true ↦ i | false ↦ refl ]
