-- Names put behind a base, as the code builds their text.
-- Assumes nothing.
use Rattle.std.proofs.Common.{◌≡◌, ℕ, ◌+◌, ◌<◌, ◌≤◌, Bool, true, false, cond, ◌&&◌, leb, [], ◌∷◌, ◌++◌, length, get_or, drop, is_ok, Some, None, Ok, Err, Result, sym, refl, ap, ◌∙◌, arith, length-append, eq-eqb, ne_eqb, le-leb, MatchResult}
use borrow.Author.Tests.{lt-leb}
use Rattle.std.proofs.lemmas.Bool.{and_parts, and_from, leb-true}
use Rattle.text.specs.Bytes.{Bytes}
use Rattle.paths.specs.declared.fault.PathFault.{PathFault}
use Rattle.paths.specs.declared.fault.PathFault.TheVariants.{Invalid, OverLimits}
use Rattle.paths.specs.declared.node_path.NodePath.{NodePath}
use Rattle.paths.specs.Paths.{Path, is_root, are_names, slashed, rendered, in_limits, split, checked, extended, path_of, is_path_text, names_in, without_slash}
use Rattle.paths.specs.Values.{path_text, names_of, path_in}
use Rattle.paths.proofs.Splits.{names_both, split_some, slashed-append, rendered-split}
use Rattle.paths.proofs.Readings.{never, spelled, checked_is, checked_over, valid_limits}

pub rendered-slashed : (p : Path) → is_root p ≡ false → rendered p ≡ slashed p
rendered-slashed [] h = never h
rendered-slashed (n ∷ p) h = refl

pub few_names : (p : Path) → in_limits p ≡ true → length p ≤ 32
few_names p h = let a = and_parts (leb (length (rendered p)) 255) (leb (length p) 32) h in leb-true (length p) 32 a.1

pub few_bytes : (p : Path) → in_limits p ≡ true → length (rendered p) ≤ 255
few_bytes p h = let a = and_parts (leb (length (rendered p)) 255) (leb (length p) 32) h in leb-true (length (rendered p)) 255 a.0

pub in_limits_lem : (p : Path) → length (rendered p) ≤ 255 → length p ≤ 32 → in_limits p ≡ true
in_limits_lem p h k = and_from (leb (length (rendered p)) 255) (leb (length p) 32) (le-leb (length (rendered p)) 255 h) (le-leb (length p) 32 k)

pub too_long : (p : Path) → 255 < length (rendered p) → in_limits p ≡ false
too_long p h = ap (λ (b : Bool). b && leb (length p) 32) (lt-leb (length (rendered p)) 255 h)

pub too_many : (p : Path) → 32 < length p → in_limits p ≡ false
too_many p h =
    let k : leb (length p) 32 ≡ false = lt-leb (length p) 32 h in
    ap (λ (b : Bool). leb (length (rendered p)) 255 && b) k
    ∙ (elim (leb (length (rendered p)) 255) as (λ b. (b && false) ≡ false) [ true ↦ refl | false ↦ refl ])

slashed-split : (t : Bytes) → slashed (split t) ≡ 47 ∷ t
slashed-split t = let s = split_some t in let e : slashed (split t) ≡ rendered (split t) = rw s.2 refl in e ∙ rendered-split t

pub rendered_with : (base : Path) (t : Bytes) → rendered (base ++ split t) ≡ slashed base ++ (47 ∷ t)
rendered_with [] t = rendered-split t
rendered_with (n ∷ p) t = slashed-append (n ∷ p) (split t) ∙ ap (λ (u : Bytes). slashed (n ∷ p) ++ u) (slashed-split t)

-- what a count of names says
pub counted : (b : Bool) (n k : ℕ) → Some n ≡ cond b (Some k) None → (b ≡ true) × (n ≡ k)
counted true n k e = (refl, cc)
counted false n k e = let z : ◌≡◌ {A = ℕ} 0 1 = cc in absurd (omega arith)

pub not_counted : (b : Bool) (k : ℕ) → None ≡ cond b (Some k) None → b ≡ false
not_counted true k e = let z : ◌≡◌ {A = ℕ} 0 1 = cc in absurd (omega arith)
not_counted false k e = refl

module _ (base : Path) (t : Bytes) (hb : are_names base ≡ true) (hs : are_names (split t) ≡ true) where
  with_names_lem : are_names (base ++ split t) ≡ true
  with_names_lem = names_both base (split t) hb ∙ hs

  pub names_with : names_in (slashed base ++ (47 ∷ t)) ≡ base ++ split t
  names_with = (spelled (slashed base ++ (47 ∷ t)) (base ++ split t) (with_names_lem, rendered_with base t)).1

  read_with : path_of (slashed base ++ (47 ∷ t)) ≡ checked (base ++ split t) (base ++ split t)
  read_with = (spelled (slashed base ++ (47 ∷ t)) (base ++ split t) (with_names_lem, rendered_with base t)).0

  long_with : length (rendered (base ++ split t)) ≡ length (slashed base) + 1 + length t
  long_with = ap length (rendered_with base t) ∙ length-append (slashed base) (47 ∷ t) ∙ omega arith

  limits_with : length (slashed base) + 1 + length t ≤ 255 → length base + length (split t) ≤ 32 → in_limits (base ++ split t) ≡ true
  limits_with h k = in_limits_lem (base ++ split t) (omega (arith, long_with)) (omega (arith, length-append base (split t)))

  pub valid_with : length base + length (split t) ≤ 32 → length (slashed base) + 1 + length t ≤ 255 → is_path_text (slashed base ++ (47 ∷ t)) ≡ true
  valid_with k h = ap is_ok (read_with ∙ checked_is (base ++ split t) (base ++ split t) with_names_lem (limits_with h k))

  -- the answer, from what building its text answers
  pub extended_by : length base + length (split t) ≤ 32 → (r : Result NodePath PathFault) → MatchResult r (λ p. path_text p ≡ slashed base ++ (47 ∷ t)) (λ e. (e ≡ OverLimits) × (255 < length (slashed base) + 1 + length t))
      → path_in r ≡ checked (split t) (base ++ split t)
  extended_by k (Ok p) h = ap (λ (x : Path). Ok x) (ap names_in h ∙ names_with) ∙ sym (checked_is (split t) (base ++ split t) hs (limits (ok_text p h)))
    where
      ok_text : (p : NodePath) → path_text p ≡ slashed base ++ (47 ∷ t) → in_limits (names_of p) ≡ true
      ok_text p h = valid_limits (path_text p) p.valid

      limits : in_limits (names_of p) ≡ true → in_limits (base ++ split t) ≡ true
      limits l = ap in_limits (sym (ap names_in h ∙ names_with)) ∙ l
  extended_by k (Err e) h = ap (λ (x : PathFault). Err x) h.0 ∙ sym (checked_over (split t) (base ++ split t) hs (too_long (base ++ split t) (omega (arith, long_with, h.1))))

pub over_names : (base s : Path) → are_names s ≡ true → 32 < length base + length s → checked s (base ++ s) ≡ Err OverLimits
over_names base s h l = checked_over s (base ++ s) h (too_many (base ++ s) (omega (arith, length-append base s)))

-- a text with a `/` at its front, and without
pub slash_front : (t : Bytes) → 0 < length t → get_or t 0 0 ≡ 47 → (path_of t ≡ extended [] (drop 1 t)) × (without_slash t ≡ drop 1 t)
slash_front [] l e = absurd (omega arith)
slash_front (b ∷ t) l e = (ap (λ (x : Bool). cond x (extended [] t) (Err Invalid)) (eq-eqb b 47 e), ap (λ (x : Bool). cond x t (b ∷ t)) (eq-eqb b 47 e))

pub other_front : (t : Bytes) → 0 < length t → (get_or t 0 0 ≡ 47 → ⊥) → (path_of t ≡ Err Invalid) × (without_slash t ≡ t)
other_front [] l e = absurd (omega arith)
other_front (b ∷ t) l e = (ap (λ (x : Bool). cond x (extended [] t) (Err Invalid)) (ne_eqb b 47 e), ap (λ (x : Bool). cond x t (b ∷ t)) (ne_eqb b 47 e))

pub extended_some : (base : Path) (t : Bytes) → 0 < length t → extended base t ≡ checked (split t) (base ++ split t)
extended_some base [] l = absurd (omega arith)
extended_some base (b ∷ t) l = refl

pub extended_none : (base : Path) (t : Bytes) → length t ≡ 0 → extended base t ≡ Ok base
extended_none base [] l = refl
extended_none base (b ∷ t) l = absurd (omega arith)
