-- Bytes, their order, and a prefix taken off.
-- Assumes nothing.
use Rattle.std.specs.Prelude.{ℕ, Bool, true, false, cond, List, [], ◌∷◌, Some, None, Option, ◌==◌, nat_lt}
use Rattle.std.specs.declared.cmp.Ordering.TheVariants.{Less, Equal, Greater}
use Rattle.std.specs.declared.cmp.Ordering.{Ordering}

abbrev pub Bytes : Type 0
Bytes = List ℕ

-- equal, byte for byte
abbrev pub same : Bytes → Bytes → Bool
same [] [] = true
same [] (y ∷ ys) = false
same (x ∷ xs) [] = false
same (x ∷ xs) (y ∷ ys) = cond (x == y) (same xs ys) false

-- the order by bytes: the first byte that differs decides, and a text that ends first is smaller
abbrev pub before : Bytes → Bytes → Bool
before [] [] = false
before [] (y ∷ ys) = true
before (x ∷ xs) [] = false
before (x ∷ xs) (y ∷ ys) = cond (x == y) (before xs ys) (nat_lt x y)

-- the same where each byte counts by a rank of its own
abbrev pub before_by : (ℕ → ℕ) → Bytes → Bytes → Bool
before_by rank [] [] = false
before_by rank [] (y ∷ ys) = true
before_by rank (x ∷ xs) [] = false
before_by rank (x ∷ xs) (y ∷ ys) = cond (x == y) (before_by rank xs ys) (nat_lt (rank x) (rank y))

-- the same as an answer of three
abbrev pub ordering : Bool → Bool → Ordering
ordering equal less = cond equal Equal (cond less Less Greater)

abbrev pub byte_order : Bytes → Bytes → Ordering
byte_order a b = ordering (same a b) (before a b)

abbrev pub order_by : (ℕ → ℕ) → Bytes → Bytes → Ordering
order_by rank a b = ordering (same a b) (before_by rank a b)

-- what is left of a text after a prefix, or none if it does not begin so
abbrev pub stripped : Bytes → Bytes → Option Bytes
stripped [] ys = Some ys
stripped (x ∷ xs) [] = None
stripped (x ∷ xs) (y ∷ ys) = cond (x == y) (stripped xs ys) None
