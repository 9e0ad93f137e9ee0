-- Bytes as they are printed, so that a line stays a line.
-- Assumes nothing.
use Rattle.std.specs.Prelude.{ℕ, zero, suc, ◌+◌, ◌-◌, ◌/◌, ◌%◌, cond, ◌||◌, [], ◌∷◌, ◌++◌, Some, None, Option, ◌==◌, nat_lt}
use Rattle.text.specs.Bytes.{Bytes}
use Rattle.text.specs.Utf8.{sequence_length, unless_zero}

-- 0 to 9, then a to f
abbrev pub hex_digit : ℕ → ℕ
hex_digit d = cond (nat_lt d 10) (48 + d) (97 + (d - 10))

-- `\xhh`
abbrev pub hex : ℕ → Bytes
hex b = 92 ∷ 120 ∷ hex_digit (b / 16) ∷ hex_digit (b % 16) ∷ []

-- a byte with which a well-formed sequence of n bytes begins, or that is part of none
abbrev pub first : Option ℕ → ℕ → Bytes
first None b = hex b
first (Some n) b = cond (nat_lt b 32) (hex b) (cond (b == 34 || b == 92) (92 ∷ b ∷ []) (b ∷ []))

-- k bytes of the sequence that has begun are still to come, and stand as they are
abbrev pub shown_in : ℕ → Bytes → Bytes
shown_in k [] = []
shown_in zero (b ∷ t) = first (unless_zero (sequence_length (b ∷ t))) b ++ shown_in (sequence_length (b ∷ t) - 1) t
shown_in (suc k) (b ∷ t) = b ∷ shown_in k t

abbrev pub shown : Bytes → Bytes
shown t = shown_in 0 t

-- in double quotes
abbrev pub quoted : Bytes → Bytes
quoted t = 34 ∷ (shown t ++ (34 ∷ []))
