use Rattle.text.proofs.Tables.{from_text, to_text}
use Rattle.text.proofs.laws.test_is_table.Goals as goal

pub returns : goal.returns
returns c = λ t. (to_text t, from_text t)
