-- What the definitions of paths amount to, in plain words, so that a contract can name it.
-- Assumes nothing.
use Rattle.std.specs.Prelude.{◌≡◌, ℕ, true, false, ◌⊎◌, ◌↔◌, ◌∷◌, ◌++◌, Some, Ok, Err, ◌==◌}
use Rattle.text.specs.Bytes.{Bytes, same}
use Rattle.paths.specs.declared.fault.PathFault.TheVariants.{Invalid, OverLimits}
use Rattle.paths.specs.Names.{is_name}
use Rattle.paths.specs.Paths.{Name, Path, are_names, slashed, rendered, in_limits, is_path, split, path_of, joined, parent_of, name_of, AtOrBelow, behind, relative, same_path, path_before, text_before}

-- ---- texts and paths

-- the text is how a path of lawful names is written
abbrev pub Spells : Bytes → Path → Type 0
Spells t p = (are_names p ≡ true) × (rendered p ≡ t)

-- A text is read as the path that it spells, if that is within the limits; it is over the limits if it spells a path that is not within them; and it is invalid if it spells none. It spells no two.
pub record ReadsWhatIsSpelled : Type 0 where
  pub granted : (t : Bytes) (p : Path) → (path_of t ≡ Ok p) ↔ (Spells t p × (in_limits p ≡ true))
  pub over : (t : Bytes) → (path_of t ≡ Err OverLimits) ↔ ((p : Path) × Spells t p × (in_limits p ≡ false))
  pub invalid : (t : Bytes) → (path_of t ≡ Err Invalid) ↔ ((p : Path) → Spells t p → ⊥)
  pub one : (t : Bytes) (p q : Path) → Spells t p → Spells t q → p ≡ q

-- Splitting a text at its `/`s undoes writing names with `/` between them, and the other way round.
pub record SplittingUndoesWriting : Type 0 where
  pub names : (n : Name) (p : Path) → are_names (n ∷ p) ≡ true → split (relative (n ∷ p)) ≡ n ∷ p
  pub text : (t : Bytes) → relative (split t) ≡ t

-- Joining a base and the text of a path relative to it gives the path.
abbrev pub JoinUndoesRelative : Type 0
JoinUndoesRelative = (base p : Path) → is_path p ≡ true → AtOrBelow base p → joined base (relative (behind base p)) ≡ Ok p

-- Joining a text that doesn't begin with `/` is reading the base, `/` and that text as one.
abbrev pub JoinReadsOneText : Type 0
JoinReadsOneText = (base : Path) (b : ℕ) (t : Bytes) → are_names base ≡ true → (b == 47) ≡ false → joined base (b ∷ t) ≡ path_of (slashed base ++ (47 ∷ (b ∷ t)))

-- The parent of a base joined with one name is the base, and its name is that name.
abbrev pub ParentUndoesJoin : Type 0
ParentUndoesJoin = (base p : Path) (n : Name) → is_name n ≡ true → joined base n ≡ Ok p → (parent_of p ≡ Some base) × (name_of p ≡ n)

-- ---- path order

-- Path order is a strict total order.
pub record PathOrderIsTotal : Type 0 where
  pub alone : (p : Path) → path_before p p ≡ false
  pub chain : (p q r : Path) → path_before p q ≡ true → path_before q r ≡ true → path_before p r ≡ true
  pub either : (p q : Path) → (path_before p q ≡ true) ⊎ ((p ≡ q) ⊎ (path_before q p ≡ true))

-- Comparing texts with `/` before every other byte is comparing paths name by name, each by its bytes.
abbrev pub TextsCompareAsPaths : Type 0
TextsCompareAsPaths = (p q : Path) → are_names p ≡ true → are_names q ≡ true → (text_before (rendered p) (rendered q) ≡ path_before p q) × (same (rendered p) (rendered q) ≡ same_path p q)
