use Rattle.images.proofs.Spelling.{one_spelling_lem}
use Rattle.images.proofs.laws.one_spelling.Goals as goal

pub returns : goal.returns
returns c = one_spelling_lem
