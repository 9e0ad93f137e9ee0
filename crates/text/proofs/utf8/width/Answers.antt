use Rattle.text.proofs.Rows.{width_is}
use Rattle.text.proofs.utf8.width.Goals as goal

pub returns : goal.returns
returns c = width_is c.args.b c.leading_ones.result c.max.result c.ranges.b.fits c.leading_ones.ensures c.max.ensures
