use Rattle.std.proofs.Common.{not, ap, ◌∙◌}
use Rattle.paths.proofs.Scans.{no_slash_is}
use Rattle.paths.proofs.slashes.is_plain.Goals as goal

pub returns : goal.returns
returns c = ap not c.contains.ensures.value ∙ no_slash_is c.args.text.now
