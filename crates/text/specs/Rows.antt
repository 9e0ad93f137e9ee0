-- The code's rows, read as rows of the table.
-- Assumes nothing.
use Rattle.std.specs.Prelude.{ℕ, ◌-◌, cond, nat_lt, List, map, length, take, Bool}
use Rattle.std.specs.Int.Count.{count_leading_zeros}
use Rattle.text.specs.Bytes.{Bytes}
use Rattle.text.specs.Utf8.{Range, range, of_row}
use Rattle.text.specs.declared.utf8.ByteRange.{ByteRange}

abbrev pub range_of : ByteRange → Range
range_of r = range r.0 r.1

-- the bytes begin with a sequence of the row
abbrev pub fits : List ByteRange → Bytes → Bool
fits row bytes = of_row (map range_of row) (take (length row) bytes)

-- how many bytes a first byte asks for: as many as it has leading ones, and one where it has none
abbrev pub width_of : ℕ → ℕ
width_of b = cond (nat_lt b 128) 1 (count_leading_zeros 8 (255 - b))
