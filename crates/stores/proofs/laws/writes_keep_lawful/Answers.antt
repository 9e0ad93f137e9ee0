use Rattle.stores.proofs.Changes.{writes_keep_lawful_lem}
use Rattle.stores.proofs.laws.writes_keep_lawful.Goals as goal

pub returns : goal.returns
returns c = writes_keep_lawful_lem
