use Rattle.grammar.specs.Compact.{squeezed}
use Rattle.grammar.specs.declared.kinds.Place.TheVariants.{Between}
use Rattle.compact.proofs.Copies.{Copied}
use Rattle.compact.proofs.write.squeeze.Given as goal

abbrev pub invariant-loop-n : goal.invariant-loop-n
invariant-loop-n l = Copied (squeezed Between l.doc) l.initial.out (squeezed l.n-iterator.iter.place l.n-iterator.iter.rest.now) l.out l.n-iterator.count
