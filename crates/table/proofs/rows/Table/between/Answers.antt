use Rattle.std.proofs.Common.{◌+◌, arith}
use Rattle.table.proofs.Places.{between_from}
use Rattle.table.proofs.rows.Table.between.Goals as goal

pub returns-then-follows : goal.returns-then-follows
returns-then-follows g c up = (
  (λ yes. between_from g.T.OrderedBy.before g.met.T.OrderedBy.chain _ _ _ _ up c.requires (c.follows.ensures.0 c.if-follows.true) (c.precedes.ensures.0 yes)),
  (λ between. c.precedes.ensures.1 (λ d lt. between.1 (c.args.i + 1) d (omega arith) lt)),
)
