-- Text: well-formed UTF-8, by the table of well-formed byte sequences in the Unicode Standard (table 3-7).
-- Assumes nothing.
use Rattle.std.specs.Prelude.{◌≡◌, ℕ, Bool, true, false, cond, ◌&&◌, ◌⊎◌, List, [], ◌∷◌, ◌++◌, length, take, nat_le, zero, suc, Some, None, Option}
use Rattle.text.specs.Bytes.{Bytes}

-- bytes from `low` to `high`, both counted in
pub record Range : Type 0 where
  pub low : ℕ
  pub high : ℕ

abbrev pub range : ℕ → ℕ → Range
range l h = record { low = l; high = h }

abbrev pub inside : Range → ℕ → Bool
inside r b = nat_le r.low b && nat_le b r.high

-- The nine rows of the table: a range for each byte of a sequence.
abbrev pub rows : List (List Range)
rows =
    (range 0x00 0x7F ∷ [])
    ∷ (range 0xC2 0xDF ∷ range 0x80 0xBF ∷ [])
    ∷ (range 0xE0 0xE0 ∷ range 0xA0 0xBF ∷ range 0x80 0xBF ∷ [])
    ∷ (range 0xE1 0xEC ∷ range 0x80 0xBF ∷ range 0x80 0xBF ∷ [])
    ∷ (range 0xED 0xED ∷ range 0x80 0x9F ∷ range 0x80 0xBF ∷ [])
    ∷ (range 0xEE 0xEF ∷ range 0x80 0xBF ∷ range 0x80 0xBF ∷ [])
    ∷ (range 0xF0 0xF0 ∷ range 0x90 0xBF ∷ range 0x80 0xBF ∷ range 0x80 0xBF ∷ [])
    ∷ (range 0xF1 0xF3 ∷ range 0x80 0xBF ∷ range 0x80 0xBF ∷ range 0x80 0xBF ∷ [])
    ∷ (range 0xF4 0xF4 ∷ range 0x80 0x8F ∷ range 0x80 0xBF ∷ range 0x80 0xBF ∷ [])
    ∷ []

-- the bytes are one sequence of the row: as many as it has ranges, each inside its own
abbrev pub of_row : List Range → Bytes → Bool
of_row [] [] = true
of_row [] (b ∷ t) = false
of_row (r ∷ rs) [] = false
of_row (r ∷ rs) (b ∷ t) = inside r b && of_row rs t

abbrev pub In : {A : Type 0} → A → List A → Type 0
In a [] = ⊥
In a (b ∷ l) = (a ≡ b) ⊎ In a l

-- Text is nothing, or a sequence of some row and text behind it.
pub data Text : Bytes → Type 0 where
  nothing : Text []
  sequence : (row : List Range) (s t : Bytes) → In row rows → of_row row s ≡ true → Text t → Text (s ++ t)

-- ---- the same as a test, byte by byte

-- some row begins with this byte; and the ranges of the bytes behind it in the first such row
abbrev pub begins : List (List Range) → ℕ → Bool
begins [] b = false
begins ([] ∷ more) b = begins more b
begins ((r ∷ rs) ∷ more) b = cond (inside r b) true (begins more b)

abbrev pub behind : List (List Range) → ℕ → List Range
behind [] b = []
behind ([] ∷ more) b = behind more b
behind ((r ∷ rs) ∷ more) b = cond (inside r b) rs (behind more b)

-- the list says which ranges the sequence that has begun still asks for
abbrev pub is_text_in : List Range → Bytes → Bool
is_text_in [] [] = true
is_text_in (r ∷ rs) [] = false
is_text_in [] (b ∷ t) = begins rows b && is_text_in (behind rows b) t
is_text_in (r ∷ rs) (b ∷ t) = inside r b && is_text_in rs t

abbrev pub is_text : Bytes → Bool
is_text t = is_text_in [] t

-- ---- the sequence in front

-- how many bytes the sequence has that the bytes begin with: as many as the first row that it is of, and 0 if it is of none
abbrev pub length_in : List (List Range) → Bytes → ℕ
length_in [] t = 0
length_in (row ∷ more) t = cond (of_row row (take (length row) t)) (length row) (length_in more t)

unfoldable pub sequence_length : Bytes → ℕ
sequence_length t = length_in rows t

-- a length that is none where it is 0
abbrev pub unless_zero : ℕ → Option ℕ
unless_zero zero = None
unless_zero (suc n) = Some (suc n)
