-- Keys of a store, and prefixes of keys.
-- Assumes nothing.
use Rattle.std.specs.Prelude.{ℕ, Bool, true, false, cond, not, ◌&&◌, [], ◌∷◌, length, Some, None, Ok, Err, Option, Result, ◌==◌, nat_le}
use Rattle.text.specs.Bytes.{Bytes}
use Rattle.text.specs.Utf8.{is_text}
use Rattle.keys.specs.declared.fault.StoreFault.{StoreFault}
use Rattle.keys.specs.declared.fault.StoreFault.TheVariants.{Malformed}

-- not empty, no `/` at either end and no `//`; the flag says that a name has still to begin
abbrev pub key_form : Bool → Bytes → Bool
key_form fresh [] = not fresh
key_form fresh (b ∷ t) = cond (b == 47) (cond fresh false (key_form true t)) (key_form false t)

-- the same, but the text ends where a name has to begin: it is empty, or such a text and `/`
abbrev pub prefix_form : Bool → Bytes → Bool
prefix_form fresh [] = fresh
prefix_form fresh (b ∷ t) = cond (b == 47) (cond fresh false (prefix_form true t)) (prefix_form false t)

-- both at once: none for a `/` where a name has to begin, else whether one has to begin at the end
abbrev pub ends_fresh : Bool → Bytes → Option Bool
ends_fresh fresh [] = Some fresh
ends_fresh fresh (b ∷ t) = cond (b == 47) (cond fresh None (ends_fresh true t)) (ends_fresh false t)

-- either form, and a text of at most n bytes in it: a trailing one ends where a name has to begin
abbrev pub form : Bool → Bytes → Bool
form true t = prefix_form true t
form false t = key_form true t

abbrev pub well_formed : ℕ → Bool → Bytes → Bool
well_formed n trailing t = form trailing t && (nat_le (length t) n && is_text t)

-- A key has 1 to 400 bytes of text, no `/` at either end and no `//`.
abbrev pub is_key : Bytes → Bool
is_key k = key_form true k && (nat_le (length k) 400 && is_text k)

-- A prefix is empty, or a key and `/`.
abbrev pub is_prefix : Bytes → Bool
is_prefix p = prefix_form true p && (nat_le (length p) 401 && is_text p)

-- a text as a key or a prefix, or the refusal of one that is malformed
abbrev pub key_or_fault : Bytes → Result Bytes StoreFault
key_or_fault k = cond (is_key k) (Ok k) (Err Malformed)

abbrev pub prefix_or_fault : Bytes → Result Bytes StoreFault
prefix_or_fault p = cond (is_prefix p) (Ok p) (Err Malformed)
