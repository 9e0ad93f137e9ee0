use Rattle.std.proofs.Common.{length}
use Rattle.members.proofs.Walks.{Walking}
use Rattle.members.proofs.walk.walk.Given as goal

abbrev pub invariant-loop-named : goal.invariant-loop-named
invariant-loop-named l = Walking l.doc l.depth l.initial.cursor.offset l.member.bytes.now l.want l.found

abbrev pub decreases-loop-named : goal.decreases-loop-named
decreases-loop-named l = length l.member.bytes.now
