use Rattle.images.proofs.Instances.{examples_hold_lem}
use Rattle.images.proofs.laws.examples_hold.Goals as goal

pub returns : goal.returns
returns c = examples_hold_lem
