use Rattle.stores.proofs.Readback.{read_after}
use Rattle.stores.proofs.laws.set_then_get.Goals as goal

pub returns : goal.returns
returns c = read_after
