-- What the invariants of a path value say of its names.
-- Assumes nothing.
use Rattle.std.proofs.Common.{◌≡◌, ℕ, ◌≤◌, true, sym, subst}
use Rattle.paths.specs.declared.node_path.NodePath.{NodePath}
use Rattle.paths.specs.Paths.{are_names, in_limits, is_path, rendered}
use Rattle.paths.specs.Values.{path_text, names_of}
use Rattle.std.proofs.lemmas.Bool.{and_from}
use Rattle.paths.proofs.Readings.{valid_names, valid_limits, valid_text}
use Rattle.paths.proofs.Extends.{few_names}

pub lawful : (v : NodePath) → are_names (names_of v) ≡ true
lawful v = valid_names (path_text v) v.valid

pub within : (v : NodePath) → in_limits (names_of v) ≡ true
within v = valid_limits (path_text v) v.valid

pub is_path_lem : (v : NodePath) → is_path (names_of v) ≡ true
is_path_lem v = and_from (are_names (names_of v)) (in_limits (names_of v)) (lawful v) (within v)

pub written : (v : NodePath) → rendered (names_of v) ≡ path_text v
written v = valid_text (path_text v) v.valid

pub few : (v : NodePath) → v.names ≤ 32
few v = subst (λ (k : ℕ). k ≤ 32) (sym v.counted) (few_names (names_of v) (within v))
