-- A string as it is written between its quotes, with its escapes undone: `\` and a letter stand for one character, `\u` and four digits for the character of that number, and a pair of surrogates for one character.
-- Assumes nothing.
use Rattle.std.specs.Prelude.{ℕ, ◌+◌, ◌-◌, ◌*◌, ◌/◌, ◌%◌, Bool, false, cond, List, [], ◌∷◌, ◌++◌, Some, None, Option, ◌==◌, nat_le, nat_lt}
use Rattle.names.specs.declared.undone.Undoing.{Undoing}
use Rattle.names.specs.declared.undone.Undoing.TheVariants.{Plain, Back, Digits, High, HighBack, LowDigits}
use Rattle.names.specs.declared.undone.Given.{Given}
use Rattle.names.specs.declared.undone.Given.TheVariants.{Byte, Code}

abbrev pub within : ℕ → ℕ → ℕ → Bool
within lo hi b = cond (nat_le lo b) (nat_le b hi) false

abbrev pub hex_of : ℕ → ℕ
hex_of b = cond (within 48 57 b) (b - 48) (cond (within 65 70 b) (b - 55) (cond (within 97 102 b) (b - 87) 0))

-- `b`, `f`, `n`, `r` and `t` stand for control characters, the others for themselves
abbrev pub simple_of : ℕ → ℕ
simple_of b = cond (b == 98) 8 (cond (b == 102) 12 (cond (b == 110) 10 (cond (b == 114) 13 (cond (b == 116) 9 b))))

-- a code unit of the last four digits
abbrev pub with_digit : ℕ → ℕ → ℕ
with_digit v b = v % 4096 * 16 + hex_of b

-- D800 to DBFF
abbrev pub is_high : ℕ → Bool
is_high v = within 55296 56319 v

-- ten bits of each of a pair
abbrev pub paired : ℕ → ℕ → ℕ
paired h l = 65536 + h % 1024 * 1024 + l % 1024

-- a character's bytes
abbrev pub utf8 : ℕ → List ℕ
utf8 v =
    cond (nat_lt v 128) (v ∷ [])
    (cond (nat_lt v 2048) ((192 + v / 64) ∷ (128 + v % 64) ∷ [])
    (cond (nat_lt v 65536) ((224 + v / 4096) ∷ (128 + v / 64 % 64) ∷ (128 + v % 64) ∷ [])
    ((240 + v / 262144) ∷ (128 + v / 4096 % 64) ∷ (128 + v / 64 % 64) ∷ (128 + v % 64) ∷ [])))

abbrev pub bytes_of : Option Given → List ℕ
bytes_of None = []
bytes_of (Some (Byte b)) = b ∷ []
bytes_of (Some (Code v)) = utf8 v

abbrev pub unit_given : ℕ → Option Given
unit_given v = cond (is_high v) None (Some (Code v))

abbrev pub given : Undoing → ℕ → Option Given
given Plain b = cond (b == 92) None (Some (Byte b))
given Back b = cond (b == 117) None (Some (Byte (simple_of b)))
given (Digits left v) b = cond (nat_lt 1 left) None (unit_given (with_digit v b))
given (High h) b = None
given (HighBack h) b = None
given (LowDigits left h v) b = cond (nat_lt 1 left) None (Some (Code (paired h (with_digit v b))))

abbrev pub unit_after : ℕ → Undoing
unit_after v = cond (is_high v) (High v) Plain

abbrev pub after : Undoing → ℕ → Undoing
after Plain b = cond (b == 92) Back Plain
after Back b = cond (b == 117) (Digits 4 0) Plain
after (Digits left v) b = cond (nat_lt 1 left) (Digits (left - 1) (with_digit v b)) (unit_after (with_digit v b))
after (High h) b = HighBack h
after (HighBack h) b = LowDigits 4 h 0
after (LowDigits left h v) b = cond (nat_lt 1 left) (LowDigits (left - 1) h (with_digit v b)) Plain

-- all that is given, byte by byte
abbrev pub undone : Undoing → List ℕ → List ℕ
undone s [] = []
undone s (b ∷ t) = bytes_of (given s b) ++ undone (after s b) t
