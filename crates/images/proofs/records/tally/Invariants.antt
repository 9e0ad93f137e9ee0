use Rattle.std.specs.Slice.Iter.{chunks_rest, chunks_size}
use Rattle.std.specs.Iterator.Adapters.{enumerate_count, enumerate_source}
use Rattle.images.proofs.Counting.{Ahead}
use Rattle.images.proofs.records.tally.Given as goal

abbrev pub invariant-loop-n : goal.invariant-loop-n
invariant-loop-n l = Ahead l.image (chunks_size (enumerate_source l.n-iterator)) (chunks_rest (enumerate_source l.n-iterator)) (enumerate_count l.n-iterator) l.last
