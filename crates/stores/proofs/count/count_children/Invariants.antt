use Rattle.std.proofs.Common.{take}
use Rattle.stores.specs.Pairs.{children}
use Rattle.stores.proofs.Runs.{above}
use Rattle.stores.proofs.Tallies.{Halfway}
use Rattle.stores.proofs.count.count_children.Given as goal

abbrev pub invariant-loop-n : goal.invariant-loop-n
invariant-loop-n g l = Halfway (children l.prefix (g.S.ReadStore.pairs l.store)) l.initial.name l.name (take l.last.len l.last.bytes) l.count

abbrev pub decreases-loop-n : goal.decreases-loop-n
decreases-loop-n g l = above (take l.last.len l.last.bytes) (children l.prefix (g.S.ReadStore.pairs l.store))
