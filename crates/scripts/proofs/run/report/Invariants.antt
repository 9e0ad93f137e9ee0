use Rattle.std.proofs.Common.{length}
use Rattle.scripts.proofs.run.report.Given as goal

abbrev pub decreases-loop-run : goal.decreases-loop-run
decreases-loop-run l = length l.run.lines.rest.now
