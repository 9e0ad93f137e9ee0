-- What is told of a refusal by a store: number, layer and position.
-- Assumes nothing.
use Rattle.std.specs.Prelude.{ℕ}
use Rattle.text.specs.declared.fault.FaultReport.{FaultReport}
use Rattle.text.specs.declared.fault.Layer.TheVariants.{Store}
use Rattle.keys.specs.declared.fault.StoreFault.{StoreFault}
use Rattle.keys.specs.declared.fault.StoreFault.TheVariants.{Malformed, Longer, NotTaken, NotLetGo, Image, Row}

-- 13: a malformed key or prefix; 22: an answer longer than the buffer; 23: a value not taken; 24: a key not let go; 51: bytes that are no image; 52: no such row of a fence, or a malformed prefix for one
abbrev pub store_number : StoreFault → ℕ
store_number Malformed = 13
store_number Longer = 22
store_number NotTaken = 23
store_number NotLetGo = 24
store_number Image = 51
store_number Row = 52

abbrev pub told_of_store : StoreFault → FaultReport
told_of_store e = record { number = store_number e; layer = Store; position = 0 }
