use Rattle.stores.proofs.Joins.{view_join, view_paths}
use Rattle.stores.proofs.laws.views_join.Goals as goal

pub returns : goal.returns
returns c = record { prefixes = view_join; paths = view_paths }
