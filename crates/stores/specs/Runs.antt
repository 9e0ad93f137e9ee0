-- Listing all of some texts by the smallest one that comes after given bytes, asked for again and again: each answer is the next question.
-- Assumes nothing.
use Rattle.std.specs.Prelude.{◌≡◌, true, ◌↔◌, List, [], ◌∷◌, ◌++◌, length, drop, Some, None}
use Rattle.text.specs.Bytes.{Bytes, before}
use Rattle.text.specs.Utf8.{In}
use Rattle.stores.specs.Pairs.{least}

-- the answers from given bytes on, until there is none
abbrev pub Run : List Bytes → Bytes → List Bytes → Type 0
Run xs after [] = least after xs ≡ None
Run xs after (t ∷ ts) = (least after xs ≡ Some t) × Run xs t ts

-- the first answers, and the last of them
abbrev pub Steps : List Bytes → Bytes → List Bytes → Bytes → Type 0
Steps xs after [] last = last ≡ after
Steps xs after (t ∷ ts) last = (least after xs ≡ Some t) × Steps xs t ts last

-- each comes after the one before it
abbrev pub Rises : Bytes → List Bytes → Type 0
Rises after [] = Unit {0}
Rises after (t ∷ ts) = (before after t ≡ true) × Rises t ts

-- a buffer to whose front the texts were written one after the other
abbrev pub written : List Bytes → Bytes → Bytes
written [] buf = buf
written (t ∷ ts) buf = written ts (t ++ drop (length t) buf)

-- The run from the empty text on: there is one, and no other; it rises; and a text is in it exactly if it is one of the texts.
pub record ListsAll (xs : List Bytes) : Type 0 where
  pub run : (ts : List Bytes) × Run xs [] ts
  pub only : (ts us : List Bytes) → Run xs [] ts → Run xs [] us → ts ≡ us
  pub rises : (ts : List Bytes) → Run xs [] ts → Rises [] ts
  pub same : (ts : List Bytes) → Run xs [] ts → (t : Bytes) → In t ts ↔ In t xs
