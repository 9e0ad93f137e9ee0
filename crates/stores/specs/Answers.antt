-- What each call of a store answers and what it leaves, refusals in their order included: a malformed key or prefix first, then an answer longer than the buffer, a value not taken or a key not let go.
-- Assumes nothing.
use Rattle.std.specs.Prelude.{ℕ, Bool, true, false, cond, ◌||◌, ◌++◌, length, drop, Some, None, Ok, Err, Option, Result, nat_le}
use Rattle.keys.specs.declared.fault.StoreFault.{StoreFault}
use Rattle.keys.specs.declared.fault.StoreFault.TheVariants.{Malformed, Longer, NotTaken, NotLetGo}
use Rattle.text.specs.Bytes.{Bytes}
use Rattle.stores.specs.WellFormed.{well_key, well_prefix}
use Rattle.stores.specs.Pairs.{Pairs, lookup, inserted, removed, next_key, next_child}

abbrev pub Found : Type 0
Found = Result (Option Bytes) StoreFault

-- a text that is to go into a buffer of n bytes
abbrev pub fitted : ℕ → Option Bytes → Found
fitted n None = Ok None
fitted n (Some t) = cond (nat_le (length t) n) (Ok (Some t)) (Err Longer)

-- an outcome where the key or the prefix is well formed, else the refusal of it
abbrev pub guarded : {A : Type 0} → Bool → Result A StoreFault → Result A StoreFault
guarded true r = r
guarded false r = Err Malformed

-- the value of a key; the least key under a prefix that comes after given bytes; the least child of it
abbrev pub got : ℕ → Pairs → Bytes → ℕ → Found
got longest ps k n = guarded (well_key longest k) (fitted n (lookup k ps))

abbrev pub key_after : ℕ → Pairs → Bytes → Bytes → ℕ → Found
key_after longest ps p after n = guarded (well_prefix longest p) (fitted n (next_key p after ps))

abbrev pub child_after : ℕ → Pairs → Bytes → Bytes → ℕ → Found
child_after longest ps p after n = guarded (well_prefix longest p) (fitted n (next_child p after ps))

-- the answer in the code, and the buffer after it: the text in front, the rest as it was
abbrev pub answer : Found → Result (Option ℕ) StoreFault
answer (Err e) = Err e
answer (Ok None) = Ok None
answer (Ok (Some t)) = Ok (Some (length t))

abbrev pub filled : Found → Bytes → Bytes
filled (Err e) b = b
filled (Ok None) b = b
filled (Ok (Some t)) b = t ++ drop (length t) b

abbrev pub decided : Bool → StoreFault → Pairs → Result Pairs StoreFault
decided true e ps = Ok ps
decided false e ps = Err e

-- the pairs after a call that writes, or its refusal
abbrev pub put : ℕ → Pairs → (Bytes → ℕ → Bool) → Bytes → Bytes → Result Pairs StoreFault
put longest ps takes k v = guarded (well_key longest k) (decided (takes k (length v)) NotTaken (inserted k v ps))

abbrev pub absent : Option Bytes → Bool
absent None = true
absent (Some v) = false

abbrev pub erased : ℕ → Pairs → (Bytes → Bool) → Bytes → Result Pairs StoreFault
erased longest ps lets k = guarded (well_key longest k) (decided (absent (lookup k ps) || lets k) NotLetGo (removed k ps))

abbrev pub done : Result Pairs StoreFault → Result Unit StoreFault
done (Ok ps) = Ok tt
done (Err e) = Err e

abbrev pub after : Result Pairs StoreFault → Pairs → Pairs
after (Ok ps) old = ps
after (Err e) old = old
