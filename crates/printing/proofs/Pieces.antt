-- Pieces of a text, added one after the other.
-- Assumes nothing.
use Rattle.std.proofs.Common.{◌≡◌, ℕ, List, ◌++◌, ap, ◌∙◌, append_assoc}

-- a second piece behind a first
pub joined : (a b c p q : List ℕ) → b ≡ a ++ p → c ≡ b ++ q → c ≡ a ++ (p ++ q)
joined a b c p q e f = f ∙ ap (λ l. l ++ q) e ∙ append_assoc a p q

-- a piece by another name
pub called : (a b p q : List ℕ) → b ≡ a ++ p → p ≡ q → b ≡ a ++ q
called a b p q e f = e ∙ ap (λ l. a ++ l) f
