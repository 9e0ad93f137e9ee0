use Rattle.std.proofs.Common.{sym}
use Rattle.paths.proofs.Values.{written}
use Rattle.paths.proofs.node_path.convert.PathRowFromRefNodePath.from.Goals as goal

pub returns : goal.returns
returns c = (sym (written c.args.path.now), c.args.path.now.text.clean)
