-- Pieces of a report, added one after the other. Assumes nothing.
use Rattle.std.proofs.Common.{◌≡◌, ℕ, zero, suc, ◌+◌, List, [], ◌∷◌, ◌++◌, map, length, replicate, codes, sym, refl, ap, ◌∙◌, add-one, arith}
use Rattle.classes.specs.declared.listing.Passed.{Passed}
use Rattle.classes.specs.Classes.{told}
use Rattle.printing.proofs.Pieces.{joined}
use Rattle.console.specs.Reports.{spaces, passed_lines, passed_text}

snoc : (n x : ℕ) → x ∷ replicate n x ≡ replicate n x ++ x ∷ []
snoc zero x = refl
snoc (suc n) x = ap (λ l. x ∷ l) (snoc n x)

-- one more space behind n of them
pub space_more : (a b c : List ℕ) (n : ℕ) → b ≡ a ++ spaces n → c ≡ b ++ 32 ∷ [] → c ≡ a ++ spaces (n + 1)
space_more a b c n e f = joined a b c (spaces n) (32 ∷ []) e f ∙ ap (λ l. a ++ l) (sym (snoc n 32) ∙ ap spaces (sym (add-one n)))

pub passed_none : (ps : List Passed) → length ps ≡ 0 → codes "  nothing" ++ (10 ∷ []) ≡ passed_text (map told ps)
passed_none [] h = refl
passed_none (p ∷ ps) h = absurd (omega arith)

pub passed_some : (ps : List Passed) → (length ps ≡ 0 → ⊥) → passed_lines (map told ps) ≡ passed_text (map told ps)
passed_some [] h = absurd (h (omega arith))
passed_some (p ∷ ps) h = refl
