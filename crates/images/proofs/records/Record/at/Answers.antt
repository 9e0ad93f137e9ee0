use Rattle.std.proofs.Common.{sym}
use Rattle.images.proofs.Reading.{placed}
use Rattle.images.proofs.records.Record.at.Goals as goal

pub invariant_of-result : goal.invariant_of-result
invariant_of-result c = record { placed = placed c.args.image.now c.args.at (sym c.if-has_pair.ensures) }
