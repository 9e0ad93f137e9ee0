-- Names of nodes, by the rules for node names of Zarr version 3.
-- Assumes nothing.
use Rattle.std.specs.Prelude.{Bool, true, false, not, ◌&&◌, [], ◌∷◌, ◌==◌}
use Rattle.text.specs.Bytes.{Bytes}
use Rattle.text.specs.Utf8.{is_text}

abbrev pub no_slash : Bytes → Bool
no_slash [] = true
no_slash (b ∷ t) = not (b == 47) && no_slash t

-- begins with `__`
abbrev pub reserved : Bytes → Bool
reserved [] = false
reserved (a ∷ []) = false
reserved (a ∷ (b ∷ t)) = a == 95 && b == 95

abbrev pub only_periods : Bytes → Bool
only_periods [] = true
only_periods (b ∷ t) = b == 46 && only_periods t

-- A name is text that has no `/`, doesn't begin with `__` and isn't made of periods only. (The empty text is, so it is no name.)
abbrev pub is_name : Bytes → Bool
is_name t = is_text t && (no_slash t && (not (reserved t) && not (only_periods t)))
