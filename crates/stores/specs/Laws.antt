-- What the calls of every store amount to, in plain words, so that a contract can name it. A store is spoken of by its meaning, which its members give.
-- Assumes nothing.
use Rattle.std.specs.Prelude.{◌≡◌, ℕ, ◌<◌, true, false, ◌++◌, length, Some, None, Ok, Option, Result}
use Rattle.text.specs.Bytes.{Bytes, same}
use Rattle.text.specs.Utf8.{is_text}
use Rattle.keys.specs.declared.fault.StoreFault.{StoreFault}
use Rattle.keys.specs.Keys.{prefix_form}
use Rattle.keys.specs.MetadataKeys.{prefix_of}
use Rattle.paths.specs.Paths.{Path}
use Rattle.stores.specs.WellFormed.{well_prefix}
use Rattle.stores.specs.Pairs.{Pairs, Ascends, Lawful, lookup, keys_under, children, next_key, next_child}
use Rattle.stores.specs.Answers.{got, key_after, child_after, fitted}
use Rattle.stores.specs.Meaning.{Meaning, Set, Erase, view}
use Rattle.stores.specs.Runs.{ListsAll}

-- After a granted set, the key has the value; it is refused only where the buffer is too short for it.
abbrev pub SetThenGet : Type 0
SetThenGet = (k v : Bytes) (m n : Meaning) (r : Result Unit StoreFault) (size : ℕ) → Set k v m n r → r ≡ Ok tt → got n.longest n.pairs k size ≡ fitted size (Some v)

-- After a granted erase, the key has no value.
abbrev pub EraseThenGet : Type 0
EraseThenGet = (k : Bytes) (m n : Meaning) (r : Result Unit StoreFault) (size : ℕ) → Lawful m.pairs m.longest → Erase k m n r → r ≡ Ok tt → got n.longest n.pairs k size ≡ Ok None

-- Setting or erasing one key, granted or refused, leaves what every other key answers.
abbrev pub OtherKeysStay : Type 0
OtherKeysStay = (k v j : Bytes) (m n : Meaning) (r : Result Unit StoreFault) (size : ℕ) → same j k ≡ false
    → (Set k v m n r → got n.longest n.pairs j size ≡ got m.longest m.pairs j size) × (Erase k m n r → got n.longest n.pairs j size ≡ got m.longest m.pairs j size)

-- Erasing a key that is not there changes nothing: the meaning before is one that it may leave.
abbrev pub EraseAbsent : Type 0
EraseAbsent = (k : Bytes) (m : Meaning) (size : ℕ) → got m.longest m.pairs k size ≡ Ok None → Erase k m m (Ok tt)

-- A lawful store is lawful after every call.
abbrev pub WritesKeepLawful : Type 0
WritesKeepLawful = (k v : Bytes) (m n : Meaning) (r : Result Unit StoreFault) → Lawful m.pairs m.longest
    → (Set k v m n r → Lawful n.pairs n.longest) × (Erase k m n r → Lawful n.pairs n.longest)

-- every question of one store and of another has the same answer
pub record Alike (longest : ℕ) (ps : Pairs) (other : ℕ) (qs : Pairs) : Type 0 where
  pub gets : (k : Bytes) (size : ℕ) → got longest ps k size ≡ got other qs k size
  pub keys : (p after : Bytes) (size : ℕ) → key_after longest ps p after size ≡ key_after other qs p after size
  pub children : (p after : Bytes) (size : ℕ) → child_after longest ps p after size ≡ child_after other qs p after size

-- Two stores with equal pairs and equal longest keys answer every question alike.
abbrev pub EqualStoresAnswerAlike : Type 0
EqualStoresAnswerAlike = (longest other : ℕ) (ps qs : Pairs) → longest ≡ other → ps ≡ qs → Alike longest ps other qs

-- Pairs that ascend are told by what is looked up in them: two such lists that answer for every key alike are equal.
abbrev pub LookUpsTellPairs : Type 0
LookUpsTellPairs = (ps qs : Pairs) → Ascends ps → Ascends qs → ((k : Bytes) → lookup k ps ≡ lookup k qs) → ps ≡ qs

-- a text with a prefix in front, if there is one
abbrev pub behind : Bytes → Option Bytes → Option Bytes
behind p None = None
behind p (Some t) = Some (p ++ t)

-- A store seen through a prefix is lawful, reads as the store does with the prefix in front of the key, and what is set or erased below with the prefix in front is set or erased above.
-- Its keys and children are those below with the prefix in front; a prefix is well formed alike wherever there is room for a key.
pub record ViewsOfStores : Type 0 where
  pub lawful : (p : Bytes) (m : Meaning) → prefix_form true p ≡ true → is_text p ≡ true → Lawful m.pairs m.longest → Lawful (view p m).pairs (view p m).longest
  pub gets : (p k : Bytes) (m : Meaning) (size : ℕ) → prefix_form true p ≡ true → is_text p ≡ true → got (view p m).longest (view p m).pairs k size ≡ got m.longest m.pairs (p ++ k) size
  pub sets : (p k v : Bytes) (m n : Meaning) (r : Result Unit StoreFault) → prefix_form true p ≡ true → is_text p ≡ true → Ascends m.pairs → Set (p ++ k) v m n r → Set k v (view p m) (view p n) r
  pub erases : (p k : Bytes) (m n : Meaning) (r : Result Unit StoreFault) → prefix_form true p ≡ true → is_text p ≡ true → Erase (p ++ k) m n r → Erase k (view p m) (view p n) r
  pub keys : (p q after : Bytes) (m : Meaning) → next_key (p ++ q) (p ++ after) m.pairs ≡ behind p (next_key q after (view p m).pairs)
  pub children : (p q after : Bytes) (m : Meaning) → next_child (p ++ q) after m.pairs ≡ next_child q after (view p m).pairs
  pub prefixes : (p q : Bytes) (m : Meaning) → prefix_form true p ≡ true → is_text p ≡ true → length p < m.longest → well_prefix (view p m).longest q ≡ well_prefix m.longest (p ++ q)

-- A view through one prefix of a view through another is one view through both prefixes, one behind the other. So a mount at a path below a mount is one mount at the joined path.
pub record ViewsJoin : Type 0 where
  pub prefixes : (p q : Bytes) (m : Meaning) → view q (view p m) ≡ view (p ++ q) m
  pub paths : (a b : Path) (m : Meaning) → view (prefix_of b) (view (prefix_of a) m) ≡ view (prefix_of (a ++ b)) m

-- The next key under a prefix, asked for again and again from the empty text on, runs through all keys under it once, ascending; and so does the next child through all children.
pub record ListingFindsAll : Type 0 where
  pub keys : (longest : ℕ) (ps : Pairs) (p : Bytes) → Lawful ps longest → ListsAll (keys_under p ps)
  pub children : (longest : ℕ) (ps : Pairs) (p : Bytes) → Lawful ps longest → well_prefix longest p ≡ true → ListsAll (children p ps)
