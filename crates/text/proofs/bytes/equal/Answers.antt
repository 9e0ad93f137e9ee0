use Rattle.std.proofs.Common.{◌∙◌}
use Rattle.text.proofs.Shared.{same_is}
use Rattle.text.proofs.bytes.equal.Goals as goal

pub returns : goal.returns
returns c = c.eq.ensures ∙ same_is c.args.a.now c.args.b.now
