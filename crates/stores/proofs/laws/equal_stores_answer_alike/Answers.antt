use Rattle.stores.proofs.Same.{equal_stores_answer_alike_lem}
use Rattle.stores.proofs.laws.equal_stores_answer_alike.Goals as goal

pub returns : goal.returns
returns c = equal_stores_answer_alike_lem
