use Rattle.std.proofs.Common.{◌≡◌, true, ◌++◌, vec_items}
use Rattle.std.specs.Slice.Iter.{chunks_exact_rest, chunks_exact_size}
use Rattle.lines.specs.Words.{are_hex, unhexed}
use Rattle.lines.proofs.word.spelling.unhex.Given as goal

abbrev pub invariant-loop-pair : goal.invariant-loop-pair
invariant-loop-pair l = record { two : chunks_exact_size l.pair-iterator ≡ 2; pairs : are_hex (chunks_exact_rest l.pair-iterator) ≡ true; so_far : unhexed l.digits ≡ vec_items l.out ++ unhexed (chunks_exact_rest l.pair-iterator) }
