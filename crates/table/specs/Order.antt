-- A run of records in ascending order: where a record stands in it, and what putting one in or taking one out does.
-- Assumes nothing.
use Rattle.std.specs.Prelude.{◌≡◌, ℕ, ◌+◌, ◌<◌, ◌≤◌, Bool, true, false, if◌then◌else◌, List, length, Result, MatchResult, slice_index_or}
use Rattle.std.specs.Ordering.{is_lt}
use Rattle.std.specs.declared.cmp.Ordering.{Ordering}
use Rattle.std.specs.declared.cmp.Ordering.TheVariants.{Less, Equal, Greater}

-- x stands before y in the order that cmp computes
abbrev pub before : {X : Type 0} → (X → X → Ordering) → X → X → Bool
before cmp x y = is_lt (cmp x y)

-- where x stands to y in an order, as a comparison says it
abbrev pub ranked : {X : Type 0} → (X → X → Bool) → X → X → Ordering
ranked before x y = if before x y then Less else (if before y x then Greater else Equal)

-- the first n elements of xs strictly ascend
abbrev pub Ascending : {X : Type 0} → (X → X → Bool) → List X → ℕ → Type 0
Ascending {X} before xs n = (i j : ℕ) (d : X) → i < j → j < n → before (slice_index_or xs i d) (slice_index_or xs j d) ≡ true

-- neither stands before the other
abbrev pub Same : {X : Type 0} → (X → X → Bool) → X → X → Type 0
Same before x y = (before x y ≡ false) × (before y x ≡ false)

-- i parts the first n elements of xs into those before x and those after x
abbrev pub Parts : {X : Type 0} → (X → X → Bool) → List X → ℕ → X → ℕ → Type 0
Parts {X} before xs n x i = (i ≤ n) × ((k : ℕ) (d : X) → k < i → before (slice_index_or xs k d) x ≡ true) × ((k : ℕ) (d : X) → i ≤ k → k < n → before x (slice_index_or xs k d) ≡ true)

-- x, or one that is the same to the order, stands at i
abbrev pub Found : {X : Type 0} → (X → X → Bool) → List X → ℕ → X → ℕ → Type 0
Found {X} before xs n x i = (i < n) × ((d : X) → Same before (slice_index_or xs i d) x)

-- all that stands before i comes before x, and all that stands behind i, up to n, comes after x; what stands at i is no matter
abbrev pub Between : {X : Type 0} → (X → X → Bool) → List X → ℕ → X → ℕ → Type 0
Between {X} before xs n x i = ((k : ℕ) (d : X) → k < i → before (slice_index_or xs k d) x ≡ true) × ((k : ℕ) (d : X) → i < k → k < n → before x (slice_index_or xs k d) ≡ true)

-- x compares with every record as the one at i does
abbrev pub Alike : {X : Type 0} → (X → X → Bool) → List X → X → ℕ → Type 0
Alike {X} before xs x i = (y d : X) → (before x y ≡ before (slice_index_or xs i d) y) × (before y x ≡ before y (slice_index_or xs i d))

-- what a search says: where it stands, or where it would
abbrev pub Located : {X : Type 0} → (X → X → Bool) → List X → ℕ → X → Result ℕ ℕ → Type 0
Located before xs n x r = MatchResult r (Found before xs n x) (Parts before xs n x)

-- ys is xs with x put in at i, what stood from i to n moved up by one, and the rest as it was
pub record Opened {X : Type 0} (xs ys : List X) (i n : ℕ) (x : X) : Type 0 where
  pub long : length ys ≡ length xs
  pub low : (k : ℕ) (d : X) → k < i → slice_index_or ys k d ≡ slice_index_or xs k d
  pub here : (d : X) → slice_index_or ys i d ≡ x
  pub high : (k : ℕ) (d : X) → i ≤ k → k < n → slice_index_or ys (k + 1) d ≡ slice_index_or xs k d
  pub rest : (k : ℕ) (d : X) → n < k → slice_index_or ys k d ≡ slice_index_or xs k d

-- ys is xs with what stood after i, up to n, moved down by one
pub record Closed {X : Type 0} (xs ys : List X) (i n : ℕ) : Type 0 where
  pub long : length ys ≡ length xs
  pub low : (k : ℕ) (d : X) → k < i → slice_index_or ys k d ≡ slice_index_or xs k d
  pub high : (k : ℕ) (d : X) → i ≤ k → k + 1 < n → slice_index_or ys k d ≡ slice_index_or xs (k + 1) d
  pub rest : (k : ℕ) (d : X) → n ≤ k + 1 → slice_index_or ys k d ≡ slice_index_or xs k d
