use Rattle.std.proofs.Common.{take}
use Rattle.documents.specs.Reading.{Part, Each}
use Rattle.documents.proofs.scan.follow.Given as goal

abbrev pub invariant-loop-e : goal.invariant-loop-e
invariant-loop-e g l = Part (Each _ g.E.Expected.meets (take l.e-index l.expected)) l.bytes l.rest
