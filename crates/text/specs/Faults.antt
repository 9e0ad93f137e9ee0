-- How messages name the layers, and tell of a refusal.
-- Assumes nothing.
use Rattle.std.specs.Prelude.{◌++◌, codes, decimal}
use Rattle.text.specs.Bytes.{Bytes}
use Rattle.text.specs.declared.fault.FaultReport.{FaultReport}
use Rattle.text.specs.declared.fault.Layer.{Layer}
use Rattle.text.specs.declared.fault.Layer.TheVariants.{Path, Store, Document, Node, Group}

abbrev pub layer_name : Layer → Bytes
layer_name Path = codes "path"
layer_name Store = codes "store"
layer_name Document = codes "document"
layer_name Node = codes "node"
layer_name Group = codes "group"

-- `fault NUMBER LAYER POSITION`
abbrev pub fault_text : FaultReport → Bytes
fault_text f = codes "fault " ++ (decimal f.number ++ (codes " " ++ (layer_name f.layer ++ (codes " " ++ decimal f.position))))
