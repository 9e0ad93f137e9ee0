-- What a store means, by its members: its pairs, its longest key, what it takes and what it lets go; and each call that writes as a relation between the meaning before and after it.
-- Assumes nothing.
use Rattle.std.specs.Prelude.{◌≡◌, ℕ, ◌-◌, Bool, ◌++◌, length, Ok, Err, Result}
use Rattle.keys.specs.declared.fault.StoreFault.{StoreFault}
use Rattle.text.specs.Bytes.{Bytes}
use Rattle.stores.specs.Pairs.{Pairs, Lawful, mounted}
use Rattle.stores.specs.Answers.{put, erased, done}

pub record Meaning : Type 0 where
  pub pairs : Pairs
  pub longest : ℕ
  pub takes : Bytes → ℕ → Bool
  pub lets : Bytes → Bool

-- a refused call leaves all four; a granted one fixes the pairs and the longest key
abbrev pub Kept : Result Pairs StoreFault → Meaning → Meaning → Type 0
Kept (Ok ps) m n = (n.pairs ≡ ps) × (n.longest ≡ m.longest)
Kept (Err e) m n = n ≡ m

pub record Wrote (outcome : Result Pairs StoreFault) (m n : Meaning) (r : Result Unit StoreFault) : Type 0 where
  pub answers : r ≡ done outcome
  pub kept : Kept outcome m n

abbrev pub Set : Bytes → Bytes → Meaning → Meaning → Result Unit StoreFault → Type 0
Set k v m n r = Wrote (put m.longest m.pairs m.takes k v) m n r

abbrev pub Erase : Bytes → Meaning → Meaning → Result Unit StoreFault → Type 0
Erase k m n r = Wrote (erased m.longest m.pairs m.lets k) m n r

abbrev pub means : Pairs → ℕ → (Bytes → ℕ → Bool) → (Bytes → Bool) → Meaning
means ps n t l = record { pairs = ps; longest = n; takes = t; lets = l }

-- what the traits of a store tell of it
abbrev pub Members : Type 0 → Type 1
Members S = record {
  pairs : S → Pairs;
  longest : S → ℕ;
  lawful : (s : S) → Lawful (pairs s) (longest s);
  takes : S → Bytes → ℕ → Bool;
  lets : S → Bytes → Bool;
  ties : S → S → Type 0;
  still : (s : S) → ties s s;
}

abbrev pub meaning_of : {S : Type 0} → Members S → S → Meaning
meaning_of told s = means (told.pairs s) (told.longest s) (told.takes s) (told.lets s)

-- a store seen through a prefix
abbrev pub view : Bytes → Meaning → Meaning
view p m = means (mounted p m.pairs) (m.longest - length p) (λ k n. m.takes (p ++ k) n) (λ k. m.lets (p ++ k))
