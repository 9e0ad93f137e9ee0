use Rattle.std.proofs.Common.{◌≡◌, map, vec_items}
use Rattle.lines.proofs.split.words.Given as goal

abbrev pub invariant-loop-word : goal.invariant-loop-word
invariant-loop-word l = map vec_items (vec_items l.words) ≡ map (λ x. x.now) l.yielded
