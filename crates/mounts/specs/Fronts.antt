-- The prefix at which a store is mounted: which paths leave room for a key, what holds of every prefix, and what a mount lists that leaves no key.
-- Assumes nothing.
use Rattle.std.specs.Prelude.{◌≡◌, ℕ, ◌-◌, ◌≤◌, true, cond, [], ◌∷◌, length, take, drop, Some, None, Ok, Err, Option, Result, nat_le, nat_lt}
use Rattle.std.proofs.lemmas.Bool.{and_parts}
use Rattle.text.specs.Bytes.{Bytes, stripped}
use Rattle.text.specs.Utf8.{is_text}
use Rattle.paths.specs.declared.fault.PathFault.{PathFault}
use Rattle.paths.specs.declared.fault.PathFault.TheVariants.{OverLimits}
use Rattle.keys.specs.declared.fault.StoreFault.{StoreFault}
use Rattle.keys.specs.declared.fault.StoreFault.TheVariants.{Malformed}
use Rattle.keys.specs.declared.store_key.StorePrefix.{StorePrefix}
use Rattle.keys.specs.Keys.{prefix_form}
use Rattle.keys.specs.Values.{prefix_text}
use Rattle.stores.specs.Pairs.{Pairs, Lawful, lookup, mounted}
use Rattle.stores.specs.Answers.{Found, fitted}
use Rattle.stores.proofs.Mounts.{mounted_lawful}

-- a prefix, where the longest key has room for more than it; a path over the limits otherwise
abbrev pub room_for : ℕ → Bytes → Result Bytes PathFault
room_for longest p = cond (nat_lt (length p) longest) (Ok p) (Err OverLimits)

-- an answer of the code, read so
abbrev pub front_in : Result StorePrefix PathFault → Result Bytes PathFault
front_in (Ok k) = Ok (prefix_text k)
front_in (Err e) = Err e

-- a store that can have no key has nothing under the empty prefix, and every other is malformed
abbrev pub empty_under : Bytes → Found
empty_under [] = Ok None
empty_under (b ∷ q) = Err Malformed

-- an answer below tells of a key that has so many bytes in front, within the bytes read
abbrev pub Holds : Result (Option ℕ) StoreFault → ℕ → ℕ → Type 0
Holds (Err e) front size = Unit {0}
Holds (Ok None) front size = Unit {0}
Holds (Ok (Some n)) front size = (front ≤ n) × (n ≤ size)

-- what is shown of it: the key without those bytes
abbrev pub shown_part : Result (Option ℕ) StoreFault → Bytes → ℕ → ℕ → Found
shown_part (Err e) key front size = Err e
shown_part (Ok None) key front size = Ok None
shown_part (Ok (Some n)) key front size = fitted size (Some (take (n - front) (drop front key)))

-- what is looked up outside a prefix is the same in both
abbrev pub Outside : Bytes → Pairs → Pairs → Type 0
Outside p ps qs = (j : Bytes) → stripped p j ≡ None → lookup j qs ≡ lookup j ps

-- every prefix has the form of one, and is text
pub front_form : (k : StorePrefix) → prefix_form true (prefix_text k) ≡ true
front_form k = (and_parts (prefix_form true (prefix_text k)) _ k.well).0

pub front_text : (k : StorePrefix) → is_text (prefix_text k) ≡ true
front_text k = (and_parts (nat_le (length (prefix_text k)) 401) (is_text (prefix_text k)) (and_parts (prefix_form true (prefix_text k)) _ k.well).1).1

-- so a lawful store seen through it is lawful
pub lawful_under : {ps : Pairs} {longest : ℕ} (k : StorePrefix) → Lawful ps longest → Lawful (mounted (prefix_text k) ps) (longest - length (prefix_text k))
lawful_under {ps} {longest} k l = mounted_lawful longest (prefix_text k) ps (front_form k) (front_text k) l
