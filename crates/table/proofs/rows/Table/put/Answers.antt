use Rattle.table.proofs.Slides.{ascending_opened}
use Rattle.table.proofs.rows.Table.put.Goals as goal

pub returns-clause-ascends : goal.returns-clause-ascends
returns-clause-ascends g c up parts = ascending_opened g.T.OrderedBy.before _ _ _ _ _ c.open.ensures up parts
