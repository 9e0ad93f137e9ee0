use Rattle.keys.proofs.KeyForms.{key_and_prefix_forms_lem}
use Rattle.keys.proofs.laws.key_and_prefix_forms.Goals as goal

pub returns : goal.returns
returns c = key_and_prefix_forms_lem
