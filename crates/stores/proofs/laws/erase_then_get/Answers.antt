use Rattle.stores.proofs.Changes.{erase_then_get_lem}
use Rattle.stores.proofs.laws.erase_then_get.Goals as goal

pub returns : goal.returns
returns c = erase_then_get_lem
