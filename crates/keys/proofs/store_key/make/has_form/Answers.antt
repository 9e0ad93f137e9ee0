use Rattle.std.proofs.Common.{◌∙◌}
use Rattle.keys.proofs.KeyScans.{form_answer}
use Rattle.keys.proofs.store_key.make.has_form.Goals as goal

pub returns : goal.returns
returns c = c.eq.ensures ∙ form_answer c.args.trailing c.args.text.now c.ends_fresh.result c.ends_fresh.ensures
