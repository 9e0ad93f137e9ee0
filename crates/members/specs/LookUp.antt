-- A member of an object looked up by its name: the first one whose name, its escapes undone, is the text.
-- Assumes nothing.
use Rattle.std.specs.Prelude.{◌≡◌, ℕ, suc, ◌+◌, ◌<◌, ◌≤◌, Bool, true, cond, List, [], ◌∷◌, length, drop, Some, None, Option, nat_le}
use Rattle.std.specs.List.{between}
use Rattle.text.specs.Bytes.{same}
use Rattle.grammar.specs.Ast.{Json, Members, obj, mnone, malso}
use Rattle.grammar.specs.Grammar.{Shows}
use Rattle.grammar.specs.Terminals.{is_blank}
use Rattle.documents.specs.Reading.{Part, Refuses, AnyValue, ReadyPair}
use Rattle.documents.specs.declared.fault.DocumentFault.{DocumentFault}
use Rattle.documents.specs.declared.fault.DocumentFault.TheVariants.{Syntax, Form, Deep}
use Rattle.names.specs.Undone.{undone}
use Rattle.names.specs.declared.undone.Undoing.TheVariants.{Plain}
use Rattle.members.specs.declared.cursor.Cursor.{Cursor}
use Rattle.members.specs.declared.walk.ValuePlace.{ValuePlace}

-- a name, as it is written, is the text
abbrev pub is_name : List ℕ → List ℕ → Bool
is_name want n = same (undone Plain n) want

abbrev pub or_else : Option Json → Bool → Json → Option Json
or_else (Some y) z x = Some y
or_else None z x = cond z (Some x) None

-- the value of the first member with the name
abbrev pub first_named : List ℕ → Members → Option Json
first_named want mnone = None
first_named want (malso ms n x) = or_else (first_named want ms) (is_name want n) x

-- The bytes of s from one place up to another have the property P.
pub record Between (P : List ℕ → Type 0) (s : List ℕ) (from to : ℕ) : Type 0 where
  pub part : Part P (drop from s) (drop to s)
  pub low : from ≤ to
  pub high : to ≤ length s

-- The bytes at the place are the value of the first member with the name: behind the opening brace at a - 1 come members with other names, then this one's name and colon, and then the value.
pub record FoundAt (s : List ℕ) (d a : ℕ) (want : List ℕ) (ms : Members) (p : ValuePlace) : Type 0 where
  pub json : Json
  pub first : first_named want ms ≡ Some json
  pub before : Members
  pub name : List ℕ
  pub leads : Between (ReadyPair d before name) s a p.from
  pub fresh : first_named want before ≡ None
  pub is : is_name want name ≡ true
  pub shown : Between (Shows d json) s p.from p.to

abbrev pub Seen : List ℕ → ℕ → ℕ → List ℕ → Members → Option ValuePlace → Type 0
Seen s d a want ms (Some p) = FoundAt s d a want ms p
Seen s d a want ms None = first_named want ms ≡ None

-- The object behind the opening brace at a - 1, read whole, and what was found in it.
pub record Looked (s : List ℕ) (d a : ℕ) (want : List ℕ) (o : Option ValuePlace) : Type 0 where
  pub members : Members
  pub end : ℕ
  pub object : Between (λ t. Shows (suc d) (obj members) (123 ∷ t)) s a end
  pub seen : Seen s d a want members o

-- the bytes behind leading white space
abbrev pub bare : List ℕ → List ℕ
bare [] = []
bare (b ∷ t) = cond (is_blank b) (bare t) (b ∷ t)

-- An object begins at the cursor, behind white space, and was looked through.
pub record LookedUp (s : List ℕ) (c : Cursor) (want : List ℕ) (o : Option ValuePlace) : Type 0 where
  pub start : ℕ
  pub left : ℕ
  pub opens : bare (drop c.offset s) ≡ 123 ∷ drop (start + 1) s
  pub deep : c.depth ≡ suc left
  pub looked : Looked s left (start + 1) want o

-- The fault of a look-up: the bytes from the cursor on can be continued to a value up to that place and no further; or no object begins there that may nest so deep.
abbrev pub FaultAt : List ℕ → Cursor → DocumentFault → Type 0
FaultAt s c (Syntax n) = (n ≤ length s) × Refuses (AnyValue c.depth) (drop c.offset s) (drop n s)
FaultAt s c Form = (t : List ℕ) → bare (drop c.offset s) ≡ 123 ∷ t → 0 < c.depth → ⊥
FaultAt s c Deep = ⊥

-- the bytes from one place to another, and none where there are no such places
abbrev pub part_of : List ℕ → ℕ → ℕ → List ℕ
part_of s i j = cond (nat_le i j) (cond (nat_le j (length s)) (between i j s) []) []
