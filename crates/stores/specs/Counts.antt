-- The children under a prefix counted by asking for the next one, again and again.
-- Assumes nothing.
use Rattle.std.specs.Prelude.{◌≡◌, ℕ, ◌-◌, ◌^◌, min, true, List, [], length, Ok, Err, Result}
use Rattle.keys.specs.declared.fault.StoreFault.{StoreFault}
use Rattle.text.specs.Bytes.{Bytes}
use Rattle.stores.specs.WellFormed.{well_prefix}
use Rattle.stores.specs.Pairs.{Pairs, children}
use Rattle.stores.specs.Answers.{child_after}
use Rattle.stores.specs.Runs.{Run, Steps, written}

-- granted: the names are the run from the empty text on, each was written to the buffer, and the answer is their number, or the largest that the code has
pub record Counted (longest : ℕ) (ps : Pairs) (p old new : Bytes) (n : ℕ) : Type 0 where
  pub names : List Bytes
  pub well : well_prefix longest p ≡ true
  pub run : Run (children p ps) [] names
  pub number : n ≡ min (length names) (2 ^ 64 - 1)
  pub buffer : new ≡ written names old

-- refused: the first names of the run were written, and the question after the last of them was refused so
pub record Stopped (longest : ℕ) (ps : Pairs) (p old new : Bytes) (e : StoreFault) : Type 0 where
  pub names : List Bytes
  pub last : Bytes
  pub steps : Steps (children p ps) [] names last
  pub refusal : child_after longest ps p last (length old) ≡ Err e
  pub buffer : new ≡ written names old

abbrev pub Tally : ℕ → Pairs → Bytes → Bytes → Bytes → Result ℕ StoreFault → Type 0
Tally longest ps p old new (Ok n) = Counted longest ps p old new n
Tally longest ps p old new (Err e) = Stopped longest ps p old new e
