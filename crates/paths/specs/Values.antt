-- What the values of the code mean: the text that a path or a row holds, and the names of a path.
-- Assumes nothing.
use Rattle.std.specs.Prelude.{take, Some, None, Ok, Err, Option, Result}
use Rattle.text.specs.Bytes.{Bytes}
use Rattle.paths.specs.declared.fault.PathFault.{PathFault}
use Rattle.paths.specs.declared.node_path.NodePath.{NodePath}
use Rattle.paths.specs.declared.path_row.PathRow.{PathRow}
use Rattle.paths.specs.Paths.{Path, names_in}

abbrev pub path_text : NodePath → Bytes
path_text v = take v.text.len v.text.bytes

abbrev pub names_of : NodePath → Path
names_of v = names_in (path_text v)

abbrev pub row_text : PathRow → Bytes
row_text r = take r.len r.bytes

-- an answer of the code, read so
abbrev pub path_in : Result NodePath PathFault → Result Path PathFault
path_in (Ok v) = Ok (names_of v)
path_in (Err e) = Err e

abbrev pub path_if_any : Option NodePath → Option Path
path_if_any (Some v) = Some (names_of v)
path_if_any None = None
