-- The pairs of a store, strictly ascending by the bytes of their keys, so that stores with the same pairs have equal lists; and what is looked up, inserted, removed and listed in them.
-- Assumes nothing.
use Rattle.std.specs.Prelude.{◌≡◌, ℕ, ◌≤◌, true, cond, List, [], ◌∷◌, Some, None, Option, ◌==◌}
use Rattle.text.specs.Bytes.{Bytes, same, before, stripped}
use Rattle.stores.specs.WellFormed.{well_key}

pub record Pair : Type 0 where
  pub key : Bytes
  pub value : Bytes

abbrev pub Pairs : Type 0
Pairs = List Pair

abbrev pub pair : Bytes → Bytes → Pair
pair k v = record { key = k; value = v }

abbrev pub AllAbove : Bytes → Pairs → Type 0
AllAbove k [] = Unit {0}
AllAbove k (a ∷ ps) = (before k a.key ≡ true) × AllAbove k ps

abbrev pub Ascends : Pairs → Type 0
Ascends [] = Unit {0}
Ascends (a ∷ ps) = AllAbove a.key ps × Ascends ps

abbrev pub AllKeys : (Bytes → Type 0) → Pairs → Type 0
AllKeys P [] = Unit {0}
AllKeys P (a ∷ ps) = P a.key × AllKeys P ps

abbrev pub lookup : Bytes → Pairs → Option Bytes
lookup k [] = None
lookup k (a ∷ ps) = cond (same k a.key) (Some a.value) (lookup k ps)

abbrev pub inserted : Bytes → Bytes → Pairs → Pairs
inserted k v [] = pair k v ∷ []
inserted k v (a ∷ ps) = cond (same k a.key) (pair k v ∷ ps) (cond (before k a.key) (pair k v ∷ (a ∷ ps)) (a ∷ inserted k v ps))

abbrev pub removed : Bytes → Pairs → Pairs
removed k [] = []
removed k (a ∷ ps) = cond (same k a.key) ps (a ∷ removed k ps)

-- the pairs whose key begins with a prefix, with the prefix removed
abbrev pub consed : Option Bytes → Bytes → Pairs → Pairs
consed None v ps = ps
consed (Some k) v ps = pair k v ∷ ps

abbrev pub mounted : Bytes → Pairs → Pairs
mounted p [] = []
mounted p (a ∷ ps) = consed (stripped p a.key) a.value (mounted p ps)

-- the smallest of some texts that is greater than given bytes
abbrev pub lower : Bytes → Option Bytes → Option Bytes
lower x None = Some x
lower x (Some y) = Some (cond (before x y) x y)

abbrev pub least : Bytes → List Bytes → Option Bytes
least after [] = None
least after (x ∷ xs) = cond (before after x) (lower x (least after xs)) (least after xs)

abbrev pub added : Option Bytes → List Bytes → List Bytes
added None xs = xs
added (Some x) xs = x ∷ xs

abbrev pub when : {A : Type 0} → Option A → Bytes → Option Bytes
when None k = None
when (Some t) k = Some k

-- the part before the first `/`, or none if there is no `/`
abbrev pub opened : Option Bytes → ℕ → Option Bytes
opened None x = None
opened (Some t) x = Some (x ∷ t)

abbrev pub segment : Bytes → Option Bytes
segment [] = None
segment (x ∷ xs) = cond (x == 47) (Some []) (opened (segment xs) x)

abbrev pub within : Option Bytes → Option Bytes
within None = None
within (Some t) = segment t

-- the keys that begin with a prefix
abbrev pub keys_under : Bytes → Pairs → List Bytes
keys_under p [] = []
keys_under p (a ∷ ps) = added (when (stripped p a.key) a.key) (keys_under p ps)

-- the texts t without `/` for which some key is the prefix, t, `/` and more (no key ends with `/`, so there is more)
abbrev pub children : Bytes → Pairs → List Bytes
children p [] = []
children p (a ∷ ps) = added (within (stripped p a.key)) (children p ps)

abbrev pub next_key : Bytes → Bytes → Pairs → Option Bytes
next_key p after ps = least after (keys_under p ps)

abbrev pub next_child : Bytes → Bytes → Pairs → Option Bytes
next_child p after ps = least after (children p ps)

-- What holds of every store: its pairs ascend strictly by key, no key of it may be longer than 400 bytes, and every key is well formed and within the longest.
pub record Lawful (ps : Pairs) (longest : ℕ) : Type 0 where
  pub ascends : Ascends ps
  pub short : longest ≤ 400
  pub keys : AllKeys (λ k. well_key longest k ≡ true) ps
