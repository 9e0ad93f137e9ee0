use Rattle.table.proofs.Searching.{ranked_by}
use Rattle.table.proofs.order.rank.Goals as goal

pub returns : goal.returns
returns g c = ranked_by g.T.OrderedBy.before g.met.T.OrderedBy.chain g.met.T.OrderedBy.alone _ _ _ c.compare_by.ensures
