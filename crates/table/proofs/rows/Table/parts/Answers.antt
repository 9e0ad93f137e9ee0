use Rattle.std.proofs.Common.{arith}
use Rattle.table.proofs.Places.{parts_from}
use Rattle.table.proofs.rows.Table.parts.Goals as goal

pub returns-then-follows-clause-place : goal.returns-then-follows-clause-place
returns-then-follows-clause-place g c up = (
  (λ yes. parts_from g.T.OrderedBy.before g.met.T.OrderedBy.chain _ _ _ _ up (omega arith) (c.follows.ensures.0 c.if-follows.true) (c.precedes.ensures.0 yes)),
  (λ parts. c.precedes.ensures.1 (λ d lt. parts.2 c.args.i d (omega arith) lt)),
)
