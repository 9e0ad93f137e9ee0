use Rattle.std.proofs.Common.{◌∙◌}
use Rattle.text.proofs.Shared.{cmp_is}
use Rattle.text.proofs.bytes.compare.Goals as goal

pub returns : goal.returns
returns c = c.cmp.ensures ∙ cmp_is c.args.a.now c.args.b.now
