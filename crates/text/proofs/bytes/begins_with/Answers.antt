use Rattle.std.proofs.Common.{◌∙◌}
use Rattle.text.proofs.Shared.{begins_is}
use Rattle.text.proofs.bytes.begins_with.Goals as goal

pub returns : goal.returns
returns c = c.starts_with.ensures.value ∙ begins_is c.args.prefix.now c.args.text.now
