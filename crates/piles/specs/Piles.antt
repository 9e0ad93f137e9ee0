-- What shows through layers, and what a call through them answers.
-- Assumes nothing.
use Rattle.std.specs.Prelude.{◌≡◌, List, Ok, Err, Result}
use Rattle.text.specs.Bytes.{Bytes}
use Rattle.keys.specs.declared.fault.StoreFault.{StoreFault}
use Rattle.paths.specs.declared.fault.PathFault.{PathFault}
use Rattle.stores.specs.Meaning.{Meaning, Set, view}
use Rattle.fences.specs.declared.table.Row.{Row}
use Rattle.fences.specs.Guard.{guard}
use Rattle.mounts.specs.Fronts.{Outside}
use Rattle.piles.specs.declared.fault.PileFault.{PileFault}
use Rattle.piles.specs.declared.fault.PileFault.TheVariants.{Path, Store}

-- what shows through a fence over a mount over a fence
abbrev pub layered : List Row → Bytes → List Row → Meaning → Meaning
layered inner p outer m = guard outer (view p (guard inner m))

-- a store's refusal among those of a pile
abbrev pub of_store : Result Unit StoreFault → Result Unit PileFault
of_store (Ok u) = Ok u
of_store (Err e) = Err (Store e)

-- A set at a path: refused where the path leaves no room, and the store is then as it was; else a set with the path's prefix in front, and what lies outside the prefix is as it was.
abbrev pub SetAt : {S : Type 0} → (S → Meaning) → (Bytes → Meaning → Meaning) → Result Bytes PathFault → Bytes → Bytes → S → S → Result Unit PileFault → Type 0
SetAt of seen (Ok p) k v s t r = (q : Result Unit StoreFault) × (r ≡ of_store q) × Set k v (seen p (of s)) (seen p (of t)) q × Outside p (of s).pairs (of t).pairs
SetAt of seen (Err e) k v s t r = (r ≡ Err (Path e)) × (t ≡ s)

-- Work done at a path: refused where the path leaves no room, and the store and the worker are then as they were; else done on what is seen with the path's prefix, and what lies outside the prefix is as it was.
abbrev pub DoneAt : {S W A : Type 0} → (S → Meaning) → (Bytes → Meaning → Meaning) → (W → Meaning → Meaning → W → A → Type 0) → Result Bytes PathFault → S → S → W → W → Result A PathFault → Type 0
DoneAt {S} {W} {A} of seen does (Ok p) s t w u r = (a : A) × (r ≡ Ok a) × does w (seen p (of s)) (seen p (of t)) u a × Outside p (of s).pairs (of t).pairs
DoneAt of seen does (Err e) s t w u r = (r ≡ Err e) × (t ≡ s) × (u ≡ w)
