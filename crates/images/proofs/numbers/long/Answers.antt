use Rattle.std.proofs.Common.{rules}
use Rattle.images.specs.Layout.{number4}
use Rattle.images.proofs.numbers.long.Goals as goal

pub returns : goal.returns
unfolding number4
returns c = search rules
