-- A path value is fixed by its names, down to its last byte.
-- Assumes nothing.
use Rattle.std.specs.Prelude.{◌≡◌}
use Rattle.paths.specs.declared.node_path.NodePath.{NodePath}
use Rattle.paths.specs.Values.{names_of}

-- Two path values with the same names hold the same bytes, also behind their text, and the same counts.
abbrev pub SameNamesSameMemory : Type 0
SameNamesSameMemory = (v w : NodePath) → names_of v ≡ names_of w → (v.text.bytes ≡ w.text.bytes) × (v.text.len ≡ w.text.len) × (v.names ≡ w.names)
