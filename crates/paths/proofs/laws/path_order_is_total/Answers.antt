use Rattle.paths.proofs.PathOrder.{path_order_is_total_lem}
use Rattle.paths.proofs.laws.path_order_is_total.Goals as goal

pub returns : goal.returns
returns c = path_order_is_total_lem
