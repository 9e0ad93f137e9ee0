-- What the grammar amounts to, in plain words, so that a contract can name it.
-- Assumes nothing.
use Rattle.std.specs.Prelude.{◌≡◌, ℕ, ◌≤◌, true, ◌⊎◌, List, [], ◌∷◌, ◌++◌, length, take, drop}
use Rattle.text.specs.Utf8.{is_text}
use Rattle.grammar.specs.Ast.{Json, Members, obj}
use Rattle.grammar.specs.Compact.{print, squeezed}
use Rattle.grammar.specs.declared.kinds.Place.TheVariants.{Between}
use Rattle.grammar.specs.Grammar.{Shows, Padded, Text, Viable}
use Rattle.grammar.specs.Machine.{Out, done, open_end, stuck, parse}

-- s is p and then r, and p is the longest start of s that some permitted text continues: with one byte more of s, none does.
pub record Longest (s p r : List ℕ) : Type 0 where
  pub splits : s ≡ p ++ r
  pub starts : Viable p
  pub ends : (b : ℕ) (t : List ℕ) → r ≡ b ∷ t → Viable (p ++ (b ∷ [])) → ⊥

-- s is no text, and its first n bytes are its longest start that some permitted text continues.
pub record Refused (s : List ℕ) (n : ℕ) : Type 0 where
  pub within : n ≤ length s
  pub longest : Longest s (take n s) (drop n s)
  pub no_text : Text s → ⊥

-- Any bytes are a permitted text, or have a longest start that some permitted text continues.
abbrev pub TextOrLongest : Type 0
TextOrLongest = (s : List ℕ) → Text s ⊎ ((n : ℕ) × Refused s n)

-- What each answer of the automaton says of the bytes.
abbrev pub Says : List ℕ → Out → Type 0
Says s (done j) = Padded 64 j s
Says s open_end = Viable s × (Text s → ⊥)
Says s (stuck r) = (p : List ℕ) × Longest s p r

-- The automaton's answer is right for any bytes: a value that they are a text of; a start of a text that is none itself; or the longest start that can be continued.
abbrev pub ParseSays : Type 0
ParseSays = (s : List ℕ) → Says s (parse s)

-- The automaton reads each text, as the value that it is a text of.
abbrev pub ParseReads : Type 0
ParseReads = (s : List ℕ) (j : Json) → Padded 64 j s → parse s ≡ done j

-- A text has at most one tree.
abbrev pub OneTree : Type 0
OneTree = (s : List ℕ) (i j : Json) → Padded 64 i s → Padded 64 j s → i ≡ j

-- An object's text ends by itself: bytes that begin with one begin with no other, and what follows does not matter.
abbrev pub ObjectsEnd : Type 0
ObjectsEnd = (d : ℕ) (ms ns : Members) (t s u v : List ℕ) → Shows d (obj ms) t → Shows d (obj ns) s → t ++ u ≡ s ++ v → (ms ≡ ns) × (t ≡ s) × (u ≡ v)

-- The compact text of a tree that has some text is a text of the same tree, nested no deeper.
abbrev pub CompactShows : Type 0
CompactShows = (d : ℕ) (j : Json) (t : List ℕ) → Shows d j t → Shows d j (print j)

-- Reading it back gives the tree.
abbrev pub CompactReads : Type 0
CompactReads = (j : Json) (t : List ℕ) → Padded 64 j t → parse (print j) ≡ done j

-- Compacting twice is compacting once: whatever tree the compact text is a text of has that same compact text.
abbrev pub CompactStays : Type 0
CompactStays = (i j : Json) (t : List ℕ) → Padded 64 j t → Padded 64 i (print j) → print i ≡ print j

-- The compact text is the text without the white space outside its strings.
abbrev pub CompactDrops : Type 0
CompactDrops = (d : ℕ) (j : Json) (t : List ℕ) → Padded d j t → squeezed Between t ≡ print j

-- A permitted text is UTF-8 as a whole.
abbrev pub TextsAreUtf8 : Type 0
TextsAreUtf8 = (t : List ℕ) → Text t → is_text t ≡ true
