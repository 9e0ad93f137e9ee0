use Rattle.std.proofs.Common.{◌+◌, ◌*◌, length}
use Rattle.documents.proofs.Arrays.{AtValue}
use Rattle.documents.proofs.Objects.{AtName}
use Rattle.documents.proofs.read.+array_object_value.Given as goal

abbrev pub decreases-array : goal.decreases-array
decreases-array l = 2 * l.depth + 1

abbrev pub decreases-object : goal.decreases-object
decreases-object l = 2 * l.depth + 1

abbrev pub decreases-value : goal.decreases-value
decreases-value l = 2 * l.depth

abbrev pub invariant-array-loop-end : goal.invariant-array-loop-end
invariant-array-loop-end l = AtValue l.depth l.bytes l.item.bytes.now

abbrev pub decreases-array-loop-end : goal.decreases-array-loop-end
decreases-array-loop-end l = length l.item.bytes.now

abbrev pub invariant-object-loop-named : goal.invariant-object-loop-named
invariant-object-loop-named l = AtName l.depth l.bytes l.member.bytes.now

abbrev pub decreases-object-loop-named : goal.decreases-object-loop-named
decreases-object-loop-named l = length l.member.bytes.now
