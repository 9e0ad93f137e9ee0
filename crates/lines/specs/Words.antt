-- The words of a line of a script, and what a word stands for: bytes as they are or in hexadecimal digits, and sizes.
-- Assumes nothing.
use Rattle.std.specs.Prelude.{ℕ, ◌+◌, ◌-◌, ◌*◌, ◌^◌, Bool, true, false, cond, ◌&&◌, List, [], ◌∷◌, ◌++◌, Some, None, codes, Option, ◌==◌, nat_le, nat_lt}
use Rattle.std.specs.Char.{is_ascii_hexdigit}
use Rattle.std.specs.Str.{bytes_eq}
use Rattle.text.specs.Bytes.{Bytes}

-- What stands between the spaces; the first part goes behind a word that has begun. Two spaces in a row have an empty word between them.
abbrev pub cut_behind : Bytes → Bytes → List Bytes
cut_behind word [] = word ∷ []
cut_behind word (b ∷ t) = cond (b == 32) (word ∷ cut_behind [] t) (cut_behind (word ++ (b ∷ [])) t)

abbrev pub cut : Bytes → List Bytes
cut line = cut_behind [] line

-- a hexadecimal digit and its value
abbrev pub is_hex : ℕ → Bool
is_hex b = is_ascii_hexdigit b

abbrev pub hex_value : ℕ → ℕ
hex_value b = cond (nat_le b 57) (b - 48) (cond (nat_le b 70) (b - 55) (b - 87))

-- pairs of digits, and the bytes they write
abbrev pub are_hex : Bytes → Bool
are_hex [] = true
are_hex (a ∷ []) = false
are_hex (a ∷ b ∷ t) = (is_hex a && is_hex b) && are_hex t

abbrev pub unhexed : Bytes → Bytes
unhexed [] = []
unhexed (a ∷ []) = []
unhexed (a ∷ b ∷ t) = (16 * hex_value a + hex_value b) ∷ unhexed t

-- what stands behind a `#` at the front
abbrev pub hashed : Bytes → Option Bytes
hashed [] = None
hashed (b ∷ t) = cond (b == 35) (Some t) None

-- The bytes of a word: in hexadecimal digits behind a `#`, else as they are.
abbrev pub spelled_by : Bytes → Option Bytes → Option Bytes
spelled_by w None = Some w
spelled_by w (Some digits) = cond (are_hex digits) (Some (unhexed digits)) None

abbrev pub spelled : Bytes → Option Bytes
spelled w = spelled_by w (hashed w)

-- A number in digits, below 2^64, at least one digit.
abbrev pub is_digit : ℕ → Bool
is_digit b = nat_le 48 b && nat_le b 57

-- one more digit, if the number stays below 2^64
abbrev pub digit_on : ℕ → ℕ → Option ℕ
digit_on n b = cond (is_digit b) (cond (nat_lt (n * 10 + (b - 48)) (2 ^ 64)) (Some (n * 10 + (b - 48))) None) None

abbrev pub number_from : Option ℕ → Bytes → Option ℕ
number_from None t = None
number_from (Some n) [] = Some n
number_from (Some n) (b ∷ t) = number_from (digit_on n b) t

abbrev pub number_of : Bytes → Option ℕ
number_of [] = None
number_of (b ∷ t) = number_from (Some 0) (b ∷ t)

-- A size: `full`, or a number.
abbrev pub size_of : ℕ → Bytes → Option ℕ
size_of full w = cond (bytes_eq w (codes "full")) (Some full) (number_of w)
