-- Reserved names, part by part of a path's text. Assumes nothing.
use Rattle.std.proofs.Common.{◌≡◌, ℕ, Bool, true, false, cond, ◌&&◌, ◌||◌, eqb, List, [], ◌∷◌, drop, sym, refl, ap, ◌∙◌, arith, true-eqb, ne_eqb}
use Rattle.std.specs.List.{slice_split, onto_first, list_any}
use Rattle.text.specs.Bytes.{Bytes}
use Rattle.paths.specs.Names.{reserved}
use Rattle.classes.specs.Classes.{has_reserved}

abbrev parts : Bytes → List Bytes
parts t = slice_split (λ b. eqb b 47) t

abbrev front : List Bytes → Bytes
front [] = []
front (p ∷ ps) = p

any_front : (ps : List Bytes) → list_any reserved ps ≡ (reserved (front ps) || list_any reserved (drop 1 ps))
any_front [] = refl
any_front (p ∷ ps) = refl

-- a `/` is no `_`
slash_first : (a b : ℕ) → eqb a 47 ≡ true → false ≡ (eqb a 95 && eqb b 95)
slash_first a b e = let is = true-eqb a 47 (sym e) in ap (λ x. x && eqb b 95) (sym (ne_eqb a 95 (λ h. omega arith)))

never : (x : Bool) → false ≡ (x && false)
never true = refl
never false = refl

slash_second : (a b : ℕ) → eqb b 47 ≡ true → false ≡ (eqb a 95 && eqb b 95)
slash_second a b e = let is = true-eqb b 47 (sym e) in never (eqb a 95) ∙ ap (λ x. eqb a 95 && x) (sym (ne_eqb b 95 (λ h. omega arith)))

-- the part in front begins as the text does
front_reserved : (t : Bytes) → reserved (front (parts t)) ≡ reserved t
front_reserved [] = refl
front_reserved (a ∷ []) = by (eqb a 47)
  where
    by : (x : Bool) → reserved (front (cond x ([] ∷ ([] ∷ [])) (onto_first a ([] ∷ [])))) ≡ false
    by true = refl
    by false = refl
front_reserved (a ∷ b ∷ t) = by (eqb a 47) (eqb b 47) (parts t) refl refl
  where
    by : (x y : Bool) (ps : List Bytes) → eqb a 47 ≡ x → eqb b 47 ≡ y → reserved (front (cond x ([] ∷ cond y ([] ∷ ps) (onto_first b ps)) (onto_first a (cond y ([] ∷ ps) (onto_first b ps))))) ≡ (eqb a 95 && eqb b 95)
    by true y ps e f = slash_first a b e
    by false true ps e f = slash_second a b f
    by false false [] e f = refl
    by false false (p ∷ ps) e f = refl

behind_front : (b : ℕ) (ps : List Bytes) → drop 1 (onto_first b ps) ≡ drop 1 ps
behind_front b [] = refl
behind_front b (p ∷ ps) = refl

pub reserved_parts : (t : Bytes) → list_any reserved (drop 1 (parts t)) ≡ has_reserved t
reserved_parts [] = refl
reserved_parts (b ∷ t) = by (eqb b 47) (reserved_parts t)
  where
    by : (x : Bool) → list_any reserved (drop 1 (parts t)) ≡ has_reserved t → list_any reserved (drop 1 (cond x ([] ∷ parts t) (onto_first b (parts t)))) ≡ ((x && reserved t) || has_reserved t)
    by true h = any_front (parts t) ∙ ap (λ x. x || list_any reserved (drop 1 (parts t))) (front_reserved t) ∙ ap (λ x. reserved t || x) h
    by false h = ap (list_any reserved) (behind_front b (parts t)) ∙ h
