-- What a look-up amounts to in a permitted text.
-- Assumes nothing.
use Rattle.std.specs.Prelude.{◌≡◌, ℕ, List, Option}
use Rattle.grammar.specs.Ast.{Members, obj}
use Rattle.grammar.specs.Grammar.{Padded}
use Rattle.members.specs.LookUp.{LookedUp}
use Rattle.members.specs.declared.cursor.Cursor.{Cursor}
use Rattle.members.specs.declared.walk.ValuePlace.{ValuePlace}

-- In a permitted text of an object, a look-up from its front goes through just that object's members.
abbrev pub LookUpsTell : Type 0
LookUpsTell = (s : List ℕ) (c : Cursor) (want : List ℕ) (o : Option ValuePlace) (ms : Members) → c.offset ≡ 0 → c.depth ≡ 64 → Padded 64 (obj ms) s → (l : LookedUp s c want o) → l.looked.members ≡ ms
