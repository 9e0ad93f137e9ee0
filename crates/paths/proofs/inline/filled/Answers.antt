use Rattle.std.proofs.Common.{replicate}
use Rattle.paths.proofs.Padding.{laid}
use Rattle.paths.proofs.inline.filled.Goals as goal

pub returns : goal.returns
returns g c =
    laid c.args.front.now c.args.middle.now c.args.back.now c.copy_from_slice.new.self c.copy_from_slice-2.new.self c.copy_from_slice-3.new.self (replicate g.row.N 0) c.copy_from_slice.ensures.after c.copy_from_slice-2.ensures.after c.copy_from_slice-3.ensures.after
