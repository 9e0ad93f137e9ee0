-- The path of a text: what is granted, what is over its limits, and what is invalid.
-- Assumes nothing.
use Rattle.std.proofs.Common.{◌≡◌, ℕ, Bool, true, false, cond, eqb, [], ◌∷◌, ◌++◌, is_ok, Ok, Err, Result, sym, refl, ap, ◌∙◌, subst, arith}
use Rattle.std.proofs.lemmas.Bool.{and_parts}
use Rattle.std.proofs.lemmas.Bool.Decides.{nat_tests}
use Rattle.text.specs.Bytes.{Bytes}
use Rattle.paths.specs.declared.fault.PathFault.{PathFault}
use Rattle.paths.specs.declared.fault.PathFault.TheVariants.{Invalid, OverLimits}
use Rattle.paths.specs.Names.{only_periods}
use Rattle.paths.specs.Paths.{Path, are_names, slashed, rendered, in_limits, is_path, split, checked, extended, path_of, is_path_text, names_in}
use Rattle.paths.specs.Laws.{Spells, ReadsWhatIsSpelled, SplittingUndoesWriting}
use Rattle.paths.proofs.Splits.{name_not_periods, names_head, split-relative, relative-split, rendered-split}

pub never : {X : Type 0} → true ≡ false → X
never e = let z : ◌≡◌ {A = ℕ} 0 1 = cc in absurd (omega arith)

-- ---- what a check grants

checked_by : (x y : Bool) (p q : Path) → cond x (cond y (Ok p) (Err OverLimits)) (Err Invalid) ≡ Ok q → (x ≡ true) × (y ≡ true) × (p ≡ q)
checked_by true true p q e = (refl, refl, cc)
checked_by true false p q e = let z : ◌≡◌ {A = ℕ} 0 1 = cc in absurd (omega arith)
checked_by false y p q e = let z : ◌≡◌ {A = ℕ} 0 1 = cc in absurd (omega arith)

pub checked_ok : (new p q : Path) → checked new p ≡ Ok q → (are_names new ≡ true) × (in_limits p ≡ true) × (p ≡ q)
checked_ok new p q e = checked_by (are_names new) (in_limits p) p q e

pub checked_is : (new p : Path) → are_names new ≡ true → in_limits p ≡ true → checked new p ≡ Ok p
checked_is new p h l = rw (h, l)

pub checked_over : (new p : Path) → are_names new ≡ true → in_limits p ≡ false → checked new p ≡ Err OverLimits
checked_over new p h l = rw (h, l)

pub checked_invalid : (new p : Path) → are_names new ≡ false → checked new p ≡ Err Invalid
checked_invalid new p h = rw h

-- ---- a text that begins with `/`

slash_head : (b : ℕ) (r : Result Path PathFault) (p : Path) → cond (eqb b 47) r (Err Invalid) ≡ Ok p → b ≡ 47
slash_head b r p e =
    (elim (eqb b 47) as (λ x. eqb b 47 ≡ x → cond x r (Err Invalid) ≡ Ok p → b ≡ 47) [
      | true ↦ λ f g. grind (arith, nat_tests)
      | false ↦ λ f g. let z : ◌≡◌ {A = ℕ} 0 1 = cc in absurd (omega arith)
    ]) refl e

-- what is read is what the text holds: its names are lawful, within the limits, and written so
pub path_read : (t : Bytes) (p : Path) → path_of t ≡ Ok p → (p ≡ names_in t) × (are_names p ≡ true) × (in_limits p ≡ true) × (rendered p ≡ t)
path_read [] p e = let z : ◌≡◌ {A = ℕ} 0 1 = cc in absurd (omega arith)
path_read (b ∷ []) p e =
    let h : b ≡ 47 = slash_head b (Ok []) p e in
    let f : ◌≡◌ {A = Result Path PathFault} (Ok []) (Ok p) = subst (λ (x : ℕ). cond (eqb x 47) (Ok []) (Err Invalid) ≡ Ok p) h e in
    let q : [] ≡ p = cc in
    (sym q, ap are_names (sym q), ap in_limits (sym q), ap rendered (sym q) ∙ ap (λ (x : ℕ). x ∷ []) (sym h))
path_read (b ∷ (c ∷ t)) p e =
    let s : Path = split (c ∷ t) in
    let h : b ≡ 47 = slash_head b (checked s s) p e in
    let f : checked s s ≡ Ok p = subst (λ (x : ℕ). cond (eqb x 47) (checked s s) (Err Invalid) ≡ Ok p) h e in
    let k = checked_ok s s p f in
    let q : s ≡ p = k.2 in
    (sym q, ap are_names (sym q) ∙ k.0, ap in_limits (sym q) ∙ k.1, ap rendered (sym q) ∙ rendered-split (c ∷ t) ∙ ap (λ (x : ℕ). x ∷ (c ∷ t)) (sym h))

granted_some : (r : Result Path PathFault) → is_ok r ≡ true → (p : Path) × (r ≡ Ok p)
granted_some (Ok p) h = (p, refl)
granted_some (Err e) h = never (sym h)

-- the text of a path value
pub valid_path : (t : Bytes) → is_path_text t ≡ true → path_of t ≡ Ok (names_in t)
valid_path t h = let g = granted_some (path_of t) h in g.1 ∙ ap (λ (p : Path). Ok p) (path_read t g.0 g.1).0

pub valid_names : (t : Bytes) → is_path_text t ≡ true → are_names (names_in t) ≡ true
valid_names t h = (path_read t (names_in t) (valid_path t h)).1

pub valid_limits : (t : Bytes) → is_path_text t ≡ true → in_limits (names_in t) ≡ true
valid_limits t h = (path_read t (names_in t) (valid_path t h)).2

pub valid_text : (t : Bytes) → is_path_text t ≡ true → rendered (names_in t) ≡ t
valid_text t h = (path_read t (names_in t) (valid_path t h)).3

-- ---- a text that spells a path

rendered_check : (n u : Bytes) (r : Path) → only_periods n ≡ false → split (n ++ u) ≡ r → (path_of (47 ∷ (n ++ u)) ≡ checked r r) × (names_in (47 ∷ (n ++ u)) ≡ r)
rendered_check [] u r d e = never d
rendered_check (b ∷ n) u r d e = (ap (λ (x : Path). checked x x) e, e)

pub spelled : (t : Bytes) (p : Path) → Spells t p → (path_of t ≡ checked p p) × (names_in t ≡ p)
spelled t [] s = subst (λ (x : Bytes). (path_of x ≡ checked [] []) × (names_in x ≡ [])) s.1 (refl, refl)
spelled t (n ∷ p) s =
    subst (λ (x : Bytes). (path_of x ≡ checked (n ∷ p) (n ∷ p)) × (names_in x ≡ n ∷ p)) s.1
    (rendered_check n (slashed p) (n ∷ p) (name_not_periods n (names_head n p s.0)) (split-relative n p s.0))

-- a valid path is read back from its text
pub path_rendered : (p : Path) → is_path p ≡ true → path_of (rendered p) ≡ Ok p
path_rendered p h = let a = and_parts (are_names p) (in_limits p) h in (spelled (rendered p) p (a.0, refl)).0 ∙ checked_is p p a.0 a.1

-- the cases of a text
abbrev Read : Bytes → Result Path PathFault → Type 0
Read t (Ok p) = Spells t p × (in_limits p ≡ true)
Read t (Err OverLimits) = (p : Path) × Spells t p × (in_limits p ≡ false)
Read t (Err Invalid) = (p : Path) → Spells t p → ⊥

no_fault : (p : Path) (x : Bool) → cond x (cond (in_limits p) (Ok p) (Err OverLimits)) (Err Invalid) ≡ Err Invalid → x ≡ true → ⊥
no_fault p x e h =
    let f : cond (in_limits p) (Ok p) (Err OverLimits) ≡ Err Invalid = subst (λ (y : Bool). cond y (cond (in_limits p) (Ok p) (Err OverLimits)) (Err Invalid) ≡ Err Invalid) h e in
    (elim (in_limits p) as (λ y. cond y (Ok p) (Err OverLimits) ≡ Err Invalid → ⊥) [
      | true ↦ λ g. let z : ◌≡◌ {A = ℕ} 0 1 = cc in omega arith
      | false ↦ λ g. let z : ◌≡◌ {A = ℕ} 0 1 = cc in omega arith
    ]) f

not_spelled : (t : Bytes) → path_of t ≡ Err Invalid → (p : Path) → Spells t p → ⊥
not_spelled t e p s = no_fault p (are_names p) (sym (spelled t p s).0 ∙ e) s.0

over_by : (s : Path) (x y : Bool) → cond x (cond y (Ok s) (Err OverLimits)) (Err Invalid) ≡ Err OverLimits → (x ≡ true) × (y ≡ false)
over_by s true true e = let z : ◌≡◌ {A = ℕ} 0 1 = cc in absurd (omega arith)
over_by s true false e = (refl, refl)
over_by s false y e = let z : ◌≡◌ {A = ℕ} 0 1 = cc in absurd (omega arith)

over_spelled : (t : Bytes) → path_of t ≡ Err OverLimits → (p : Path) × Spells t p × (in_limits p ≡ false)
over_spelled [] e = let z : ◌≡◌ {A = ℕ} 0 1 = cc in absurd (omega arith)
over_spelled (b ∷ t) e =
    (elim (eqb b 47) as (λ x. eqb b 47 ≡ x → cond x (extended [] t) (Err Invalid) ≡ Err OverLimits → (p : Path) × Spells (b ∷ t) p × (in_limits p ≡ false)) [
      | true ↦ λ f g. behind_slash t g (grind (arith, nat_tests))
      | false ↦ λ f g. let z : ◌≡◌ {A = ℕ} 0 1 = cc in absurd (omega arith)
    ]) refl e
  where
    behind_slash : (u : Bytes) → extended [] u ≡ Err OverLimits → b ≡ 47 → (p : Path) × Spells (b ∷ u) p × (in_limits p ≡ false)
    behind_slash [] g h = let z : ◌≡◌ {A = ℕ} 0 1 = cc in absurd (omega arith)
    behind_slash (c ∷ u) g h =
        let k = over_by (split (c ∷ u)) (are_names (split (c ∷ u))) (in_limits (split (c ∷ u))) g in
        (split (c ∷ u), (k.0, rendered-split (c ∷ u) ∙ ap (λ (x : ℕ). x ∷ (c ∷ u)) (sym h)), k.1)

read_cases : (t : Bytes) (r : Result Path PathFault) → path_of t ≡ r → Read t r
read_cases t (Ok p) e = let k = path_read t p e in ((k.1, k.3), k.2)
read_cases t (Err OverLimits) e = over_spelled t e
read_cases t (Err Invalid) e = not_spelled t e

only_spelled : (t : Bytes) (r : Result Path PathFault) → path_of t ≡ r → ((p : Path) → Spells t p → ⊥) → r ≡ Err Invalid
only_spelled t (Ok p) e h = absurd (h p (read_cases t (Ok p) e).0)
only_spelled t (Err OverLimits) e h = let k = over_spelled t e in absurd (h k.0 k.1)
only_spelled t (Err Invalid) e h = refl

pub reads_what_is_spelled_lem : ReadsWhatIsSpelled
reads_what_is_spelled_lem = record {
  granted = λ t p. (read_cases t (Ok p), λ s. (spelled t p s.0).0 ∙ checked_is p p s.0.0 s.1);
  over = λ t. (over_spelled t, λ s. (spelled t s.0 s.1).0 ∙ checked_over s.0 s.0 s.1.0 s.2);
  invalid = λ t. (not_spelled t, λ h. only_spelled t (path_of t) refl h);
  one = λ t p q s r. sym (spelled t p s).1 ∙ (spelled t q r).1;
}

pub splitting_undoes_writing_lem : SplittingUndoesWriting
splitting_undoes_writing_lem = record { names = split-relative; text = relative-split }
