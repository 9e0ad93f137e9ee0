use Rattle.std.proofs.Common.{◌∙◌}
use Rattle.table.proofs.Searching.{first_by}
use Rattle.table.proofs.order.is_before.Goals as goal

pub returns : goal.returns
returns g c = c.is_lt.ensures ∙ first_by g.T.OrderedBy.before g.met.T.OrderedBy.chain g.met.T.OrderedBy.alone _ _ _ c.compare_by.ensures
