-- Bytes kept in place: an array whose first bytes are the text, and whose other bytes are zero.
-- Assumes nothing.
use Rattle.std.specs.Prelude.{Bool, true, ◌&&◌, [], ◌∷◌, ◌==◌}
use Rattle.text.specs.Bytes.{Bytes}

abbrev pub all_zero : Bytes → Bool
all_zero [] = true
all_zero (b ∷ t) = b == 0 && all_zero t
