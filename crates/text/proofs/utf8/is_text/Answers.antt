use Rattle.std.proofs.Common.{◌∙◌}
use Rattle.text.proofs.Scalars.{tells_text}
use Rattle.text.proofs.utf8.is_text.Goals as goal

pub returns : goal.returns
returns c = c.is_ok.ensures.value ∙ tells_text _ c.args.s.now c.from_utf8.result c.from_utf8.ensures.cases
