-- A few images, written out byte by byte.
-- Assumes nothing.
use Rattle.std.specs.Prelude.{[], ◌∷◌}
use Rattle.text.specs.Bytes.{Bytes}
use Rattle.stores.specs.Pairs.{Pairs, pair}
use Rattle.images.specs.Spells.{Spells}

-- the record of a pair, the end of the records, the key `a` at 16 and the value `b` at 17
abbrev pub one_pair : Bytes
one_pair = 1 ∷ 16 ∷ 0 ∷ 0 ∷ 0 ∷ 1 ∷ 0 ∷ 17 ∷ 0 ∷ 0 ∷ 0 ∷ 1 ∷ 0 ∷ 0 ∷ 0 ∷ 0 ∷ 97 ∷ 98 ∷ []

-- the same without its last byte, so that the value goes past the end
abbrev pub cut_off : Bytes
cut_off = 1 ∷ 16 ∷ 0 ∷ 0 ∷ 0 ∷ 1 ∷ 0 ∷ 17 ∷ 0 ∷ 0 ∷ 0 ∷ 1 ∷ 0 ∷ 0 ∷ 0 ∷ 0 ∷ 97 ∷ []

-- two records of one key at 31, with no byte of value
abbrev pub same_twice : Bytes
same_twice = 1 ∷ 31 ∷ 0 ∷ 0 ∷ 0 ∷ 1 ∷ 0 ∷ 0 ∷ 0 ∷ 0 ∷ 0 ∷ 0 ∷ 0 ∷ 0 ∷ 0 ∷ 1 ∷ 31 ∷ 0 ∷ 0 ∷ 0 ∷ 1 ∷ 0 ∷ 0 ∷ 0 ∷ 0 ∷ 0 ∷ 0 ∷ 0 ∷ 0 ∷ 0 ∷ 0 ∷ 97 ∷ []

-- the first two spell their pairs; the others nothing: without end, of another kind, with a part past the end, with a key twice
pub record ExamplesHold : Type 0 where
  pub none : Spells (0 ∷ []) []
  pub one : Spells one_pair (pair (97 ∷ []) (98 ∷ []) ∷ [])
  pub endless : (ps : Pairs) → Spells [] ps → ⊥
  pub kind : (ps : Pairs) → Spells (2 ∷ 0 ∷ []) ps → ⊥
  pub past : (ps : Pairs) → Spells cut_off ps → ⊥
  pub twice : (ps : Pairs) → Spells same_twice ps → ⊥
