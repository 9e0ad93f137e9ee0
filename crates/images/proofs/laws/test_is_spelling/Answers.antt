use Rattle.images.proofs.Spelling.{test_is_spelling_lem}
use Rattle.images.proofs.laws.test_is_spelling.Goals as goal

pub returns : goal.returns
returns c = test_is_spelling_lem
