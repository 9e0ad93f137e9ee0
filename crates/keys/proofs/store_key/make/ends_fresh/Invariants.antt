use Rattle.std.proofs.Common.{◌≡◌, true, drop}
use Rattle.keys.specs.Keys.{ends_fresh}
use Rattle.keys.proofs.store_key.make.ends_fresh.Given as goal

abbrev pub invariant-loop-b : goal.invariant-loop-b
invariant-loop-b l = ends_fresh true l.text ≡ ends_fresh l.fresh (drop l.b-index l.text)
