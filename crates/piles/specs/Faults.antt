-- What is told of a refusal by a pile of layers: what is told of the path's or of the store's.
-- Assumes nothing.
use Rattle.text.specs.declared.fault.FaultReport.{FaultReport}
use Rattle.paths.specs.Faults.{told_of_path}
use Rattle.keys.specs.Faults.{told_of_store}
use Rattle.piles.specs.declared.fault.PileFault.{PileFault}
use Rattle.piles.specs.declared.fault.PileFault.TheVariants.{Path, Store}

abbrev pub told_of_pile : PileFault → FaultReport
told_of_pile (Path e) = told_of_path e
told_of_pile (Store e) = told_of_store e
