use Rattle.std.proofs.Common.{◌≡◌, true, length, map}
use Rattle.paths.specs.Paths.{are_names}
use Rattle.paths.proofs.node_path.make.count_names.Given as goal

abbrev pub invariant-loop-name : goal.invariant-loop-name
invariant-loop-name l = (l.count ≡ length l.yielded) × (are_names (map (λ n. n.now) l.yielded) ≡ true)
