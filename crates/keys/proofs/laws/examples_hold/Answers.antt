use Rattle.keys.proofs.Examples.{examples_hold_lem}
use Rattle.keys.proofs.laws.examples_hold.Goals as goal

pub returns : goal.returns
returns c = examples_hold_lem
