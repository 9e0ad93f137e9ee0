-- What a call answers that writes the compact text of a document s: before and after are the output's bytes.
-- Assumes nothing.
use Rattle.std.specs.Prelude.{◌≡◌, ℕ, ◌<◌, ◌≤◌, List, ◌++◌, length, drop, Some, None, Option}
use Rattle.grammar.specs.Ast.{Json}
use Rattle.grammar.specs.Compact.{print}
use Rattle.grammar.specs.Grammar.{Padded}

-- s is a text of a tree, whose compact text stands at the front of the output, with the output's other bytes as they were
pub record Written (s before after : List ℕ) (n : ℕ) : Type 0 where
  pub json : Json
  pub shown : Padded 64 json s
  pub len : n ≡ length (print json)
  pub fits : n ≤ length before
  pub out : after ≡ print json ++ drop n before

-- s is a text of a tree, whose compact text is longer than the output
pub record TooLong (s before after : List ℕ) : Type 0 where
  pub json : Json
  pub shown : Padded 64 json s
  pub longer : length before < length (print json)
  pub same : after ≡ before

abbrev pub Compacted : List ℕ → List ℕ → List ℕ → Option ℕ → Type 0
Compacted s before after (Some n) = Written s before after n
Compacted s before after None = TooLong s before after
