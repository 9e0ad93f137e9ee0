use Rattle.std.proofs.Common.{sym, ◌∙◌}
use Rattle.paths.specs.Values.{path_text}
use Rattle.paths.proofs.Readings.{valid_text}
use Rattle.paths.proofs.node_path.NodePath.as_bytes.Goals as goal

pub returns : goal.returns
returns c = c.as_bytes.ensures ∙ sym (valid_text (path_text c.args.self.now) c.args.self.now.valid)
