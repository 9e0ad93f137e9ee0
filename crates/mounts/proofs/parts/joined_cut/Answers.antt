use Rattle.std.proofs.Common.{◌∙◌}
use Rattle.mounts.proofs.Cuts.{take_cut}
use Rattle.mounts.proofs.parts.joined_cut.Goals as goal

pub returns : goal.returns
returns c = rw c.unwrap.ensures at c.of.ensures ∙ take_cut 400 c.min.result c.min-2.result c.args.front.now c.args.back.now c.min.ensures c.min-2.ensures
