-- Paths of nodes: a path is the list of its names, and `/` the empty list. How a path is written, when a text is one, the limits,
-- joining, what lies below what, and path order. From the rules for node paths of Zarr version 3; the limits are this engine's own.
-- Assumes nothing.
use Rattle.std.specs.Prelude.{◌≡◌, ℕ, ◌+◌, Bool, true, false, cond, ◌&&◌, List, [], ◌∷◌, ◌++◌, length, is_ok, Some, None, Ok, Err, Option, Result, ◌==◌, nat_le}
use Rattle.std.specs.declared.cmp.Ordering.{Ordering}
use Rattle.text.specs.Bytes.{Bytes, same, before, before_by, ordering}
use Rattle.paths.specs.declared.fault.PathFault.{PathFault}
use Rattle.paths.specs.declared.fault.PathFault.TheVariants.{Invalid, OverLimits}
use Rattle.paths.specs.Names.{is_name}

abbrev pub Name : Type 0
Name = Bytes

abbrev pub Path : Type 0
Path = List Name

abbrev pub are_names : Path → Bool
are_names [] = true
are_names (n ∷ p) = is_name n && are_names p

-- as it is written: `/`, or each name after a `/`
abbrev pub slashed : Path → Bytes
slashed [] = []
slashed (n ∷ p) = 47 ∷ (n ++ slashed p)

abbrev pub rendered : Path → Bytes
rendered [] = 47 ∷ []
rendered (n ∷ p) = slashed (n ∷ p)

-- at most 255 bytes and 32 names
abbrev pub in_limits : Path → Bool
in_limits p = nat_le (length (rendered p)) 255 && nat_le (length p) 32

abbrev pub is_path : Path → Bool
is_path p = are_names p && in_limits p

-- ---- the path of a text

-- the parts of a text between its `/`s
abbrev pub onto : ℕ → List Bytes → List Bytes
onto b [] = (b ∷ []) ∷ []
onto b (n ∷ p) = (b ∷ n) ∷ p

abbrev pub split : Bytes → List Bytes
split [] = [] ∷ []
split (b ∷ t) = cond (b == 47) ([] ∷ split t) (onto b (split t))

-- a path whose last names are new: an unlawful name is refused before a path over its limits
abbrev pub checked : List Bytes → Path → Result Path PathFault
checked new p = cond (are_names new) (cond (in_limits p) (Ok p) (Err OverLimits)) (Err Invalid)

-- the names of a text, with `/` between them, behind a base; an empty text adds none
abbrev pub extended : Path → Bytes → Result Path PathFault
extended base [] = Ok base
extended base (b ∷ t) = checked (split (b ∷ t)) (base ++ split (b ∷ t))

abbrev pub path_of : Bytes → Result Path PathFault
path_of [] = Err Invalid
path_of (b ∷ t) = cond (b == 47) (extended [] t) (Err Invalid)

abbrev pub is_path_text : Bytes → Bool
is_path_text t = is_ok (path_of t)

-- the names that the text of a path holds
abbrev pub names_in : Bytes → Path
names_in [] = []
names_in (b ∷ []) = []
names_in (b ∷ (c ∷ t)) = split (c ∷ t)

-- `join` drops one leading `/` of the relative text; if nothing is left, it gives the base
abbrev pub without_slash : Bytes → Bytes
without_slash [] = []
without_slash (b ∷ t) = cond (b == 47) t (b ∷ t)

abbrev pub joined : Path → Bytes → Result Path PathFault
joined base t = extended base (without_slash t)

-- ---- parts of a path

abbrev pub is_root : Path → Bool
is_root [] = true
is_root (n ∷ p) = false

-- the names but the last of `n` and those behind it, and the last
abbrev pub leading : Name → Path → Path
leading n [] = []
leading n (m ∷ p) = n ∷ leading m p

abbrev pub final : Name → Path → Name
final n [] = n
final n (m ∷ p) = final m p

-- the path without its last name; `/` has no parent
abbrev pub parent_of : Path → Option Path
parent_of [] = None
parent_of (n ∷ p) = Some (leading n p)

-- the last name; of `/` it is empty
abbrev pub name_of : Path → Name
name_of [] = []
name_of (n ∷ p) = final n p

-- p is the base or lies below it; p lies strictly below it
abbrev pub AtOrBelow : Path → Path → Type 0
AtOrBelow base p = (r : Path) × (p ≡ base ++ r)

abbrev pub Below : Path → Path → Type 0
Below base p = (n : Name) × (r : Path) × (p ≡ base ++ (n ∷ r))

abbrev pub at_or_below : Path → Path → Bool
at_or_below [] p = true
at_or_below (n ∷ b) [] = false
at_or_below (n ∷ b) (m ∷ p) = same n m && at_or_below b p

-- what is left of a path behind a base
abbrev pub behind : Path → Path → Path
behind [] p = p
behind (n ∷ b) [] = []
behind (n ∷ b) (m ∷ p) = behind b p

-- a path relative to a base, as a text: names with `/` between them
abbrev pub relative : Path → Bytes
relative [] = []
relative (n ∷ p) = n ++ slashed p

-- ---- path order

abbrev pub same_path : Path → Path → Bool
same_path [] [] = true
same_path [] (m ∷ q) = false
same_path (n ∷ p) [] = false
same_path (n ∷ p) (m ∷ q) = same n m && same_path p q

-- name by name, each by its bytes; a path that ends first is smaller
abbrev pub path_before : Path → Path → Bool
path_before [] [] = false
path_before [] (m ∷ q) = true
path_before (n ∷ p) [] = false
path_before (n ∷ p) (m ∷ q) = cond (same n m) (path_before p q) (before n m)

abbrev pub path_order : Path → Path → Ordering
path_order p q = ordering (same_path p q) (path_before p q)

-- The same on texts: the first byte that differs decides, and `/`, where a name ends, comes before every other byte.
abbrev pub rank : ℕ → ℕ
rank b = cond (b == 47) 0 (b + 1)

abbrev pub text_before : Bytes → Bytes → Bool
text_before a b = before_by rank a b
