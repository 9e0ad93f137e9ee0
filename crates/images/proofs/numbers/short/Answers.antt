use Rattle.std.proofs.Common.{rules}
use Rattle.images.specs.Layout.{number2}
use Rattle.images.proofs.numbers.short.Goals as goal

pub returns : goal.returns
unfolding number2
returns c = search rules
