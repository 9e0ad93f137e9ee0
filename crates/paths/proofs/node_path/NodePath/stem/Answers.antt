use Rattle.std.proofs.Common.{sym, ◌∙◌}
use Rattle.paths.specs.Values.{names_of}
use Rattle.paths.proofs.Extends.{rendered-slashed}
use Rattle.paths.proofs.node_path.NodePath.stem.Goals as goal

pub returns-else-is_root : goal.returns-else-is_root
returns-else-is_root c = c.as_bytes.ensures ∙ rendered-slashed (names_of c.args.self.now) (sym c.if-is_root.ensures)
