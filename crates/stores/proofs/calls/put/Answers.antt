use Rattle.stores.proofs.Readback.{granted}
use Rattle.stores.proofs.calls.put.Goals as goal

pub returns-clause-pairs : goal.returns-clause-pairs
returns-clause-pairs g c e = (granted _ _ _ _ _ c.set.result c.set.ensures.means e).1
