-- What a fence means: the pairs and the longest key of the store below; it takes and lets go what the store does, except where a raised row covers the key.
-- Assumes nothing.
use Rattle.std.specs.Prelude.{ℕ, Bool, true, false, not, ◌&&◌, List, Some, None, Ok, Err, Option, Result}
use Rattle.keys.specs.declared.fault.StoreFault.{StoreFault}
use Rattle.keys.specs.declared.fault.StoreFault.TheVariants.{Malformed, Longer, NotTaken, NotLetGo, Image, Row as NoRow}
use Rattle.stores.specs.Meaning.{Meaning, means}
use Rattle.fences.specs.declared.table.Row.{Row}
use Rattle.fences.specs.Rows.{fenced}

abbrev pub guard : List Row → Meaning → Meaning
guard rows m = means m.pairs m.longest (λ k n. not (fenced rows k) && m.takes k n) (λ k. not (fenced rows k) && m.lets k)

-- whether there is a value, by what is answered to reading it into some buffer: a value longer than the buffer is one
abbrev pub presence : Result (Option ℕ) StoreFault → Result Bool StoreFault
presence (Ok None) = Ok false
presence (Ok (Some n)) = Ok true
presence (Err Malformed) = Err Malformed
presence (Err Longer) = Ok true
presence (Err NotTaken) = Err NotTaken
presence (Err NotLetGo) = Err NotLetGo
presence (Err Image) = Err Image
presence (Err NoRow) = Err NoRow
