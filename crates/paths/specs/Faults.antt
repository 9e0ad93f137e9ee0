-- What is told of a refusal of the path layer: number, layer and position.
-- Assumes nothing.
use Rattle.text.specs.declared.fault.FaultReport.{FaultReport}
use Rattle.text.specs.declared.fault.Layer.TheVariants.{Path}
use Rattle.paths.specs.declared.fault.PathFault.{PathFault}
use Rattle.paths.specs.declared.fault.PathFault.TheVariants.{Invalid, OverLimits}

-- 11: an invalid path or name; 12: a path over its limits
abbrev pub told_of_path : PathFault → FaultReport
told_of_path Invalid = record { number = 11; layer = Path; position = 0 }
told_of_path OverLimits = record { number = 12; layer = Path; position = 0 }
