-- Numbers as RFC 8259 writes them, and the phases in which their bytes are read.
-- Assumes nothing.
use Rattle.std.specs.Prelude.{◌≡◌, ℕ, Bool, true, false, cond, List, [], ◌∷◌, ◌++◌, ◌==◌, Some, None, Option}
use Rattle.grammar.specs.Terminals.{is_digit, is_positive}
use Rattle.grammar.specs.declared.kinds.Phase.{Phase}
use Rattle.grammar.specs.declared.kinds.Phase.TheVariants.{AtMinus, AtZero, AtWhole, AtPoint, AtFraction, AtE, AtSign, AtExponent}

abbrev pub is_e : ℕ → Bool
is_e b = cond (b == 101) true (b == 69)

abbrev pub is_sign : ℕ → Bool
is_sign b = cond (b == 43) true (b == 45)

-- one digit or more
pub data Digits : List ℕ → Type 0 where
  d_one : (b : ℕ) → is_digit b ≡ true → Digits (b ∷ [])
  d_more : {r : List ℕ} (b : ℕ) → Digits r → is_digit b ≡ true → Digits (r ++ (b ∷ []))

-- digits that do not begin with 0
pub data Positive : List ℕ → Type 0 where
  p_one : (b : ℕ) → is_positive b ≡ true → Positive (b ∷ [])
  p_more : {r : List ℕ} (b : ℕ) → Positive r → is_digit b ≡ true → Positive (r ++ (b ∷ []))

-- 0 or digits that do not begin with 0, with a minus or without
pub data Whole : List ℕ → Type 0 where
  whole_zero : Whole (48 ∷ [])
  whole_pos : {r : List ℕ} → Positive r → Whole r
  whole_minus_zero : Whole (45 ∷ 48 ∷ [])
  whole_minus : {r : List ℕ} → Positive r → Whole (45 ∷ r)

-- the same, with a point and digits or without
pub data Mantissa : List ℕ → Type 0 where
  no_fraction : {r : List ℕ} → Whole r → Mantissa r
  fraction : {r f : List ℕ} → Whole r → Digits f → Mantissa (r ++ (46 ∷ f))

pub data Sign : List ℕ → Type 0 where
  no_sign : Sign []
  some_sign : (b : ℕ) → is_sign b ≡ true → Sign (b ∷ [])

-- the same, with an `e`, a sign or none, and digits, or without
pub data Number : List ℕ → Type 0 where
  no_exponent : {r : List ℕ} → Mantissa r → Number r
  exponent : {r s x : List ℕ} (e : ℕ) → Mantissa r → is_e e ≡ true → Sign s → Digits x → Number (r ++ (e ∷ (s ++ x)))

-- ---- the same byte by byte

abbrev pub next_digit : Phase → ℕ → Option Phase
next_digit p b = cond (is_digit b) (Some p) None

abbrev pub next_e : ℕ → Option Phase
next_e b = cond (is_e b) (Some AtE) None

abbrev pub next_point : ℕ → Option Phase
next_point b = cond (b == 46) (Some AtPoint) (next_e b)

-- what a byte does to a number that has come so far
abbrev pub next : Phase → ℕ → Option Phase
next AtMinus b = cond (b == 48) (Some AtZero) (cond (is_positive b) (Some AtWhole) None)
next AtZero b = next_point b
next AtWhole b = cond (is_digit b) (Some AtWhole) (next_point b)
next AtPoint b = next_digit AtFraction b
next AtFraction b = cond (is_digit b) (Some AtFraction) (next_e b)
next AtE b = cond (is_sign b) (Some AtSign) (next_digit AtExponent b)
next AtSign b = next_digit AtExponent b
next AtExponent b = next_digit AtExponent b

-- whether a number may end here
abbrev pub may_end : Phase → Bool
may_end AtMinus = false
may_end AtZero = true
may_end AtWhole = true
may_end AtPoint = false
may_end AtFraction = true
may_end AtE = false
may_end AtSign = false
may_end AtExponent = true

-- what has been read in each phase
pub data At : Phase → List ℕ → Type 0 where
  a_minus : At AtMinus (45 ∷ [])
  a_zero : At AtZero (48 ∷ [])
  a_minus_zero : At AtZero (45 ∷ 48 ∷ [])
  a_whole : {r : List ℕ} → Positive r → At AtWhole r
  a_minus_whole : {r : List ℕ} → Positive r → At AtWhole (45 ∷ r)
  a_point : {r : List ℕ} → Whole r → At AtPoint (r ++ (46 ∷ []))
  a_fraction : {r f : List ℕ} → Whole r → Digits f → At AtFraction (r ++ (46 ∷ f))
  a_e : {r : List ℕ} (e : ℕ) → Mantissa r → is_e e ≡ true → At AtE (r ++ (e ∷ []))
  a_sign : {r s : List ℕ} (e : ℕ) → Mantissa r → is_e e ≡ true → Sign s → At AtSign (r ++ (e ∷ s))
  a_exponent : {r s x : List ℕ} (e : ℕ) → Mantissa r → is_e e ≡ true → Sign s → Digits x → At AtExponent (r ++ (e ∷ (s ++ x)))
