use Rattle.text.proofs.Scalars.{to_utf8, from_utf8}
use Rattle.text.proofs.laws.test_is_library.Goals as goal

pub returns : goal.returns
returns c = λ t. (to_utf8 t, from_utf8 t)
