use Rattle.std.proofs.Common.{length}
use Rattle.grammar.specs.Grammar.{Ws}
use Rattle.documents.specs.Reading.{Part}
use Rattle.documents.proofs.scan.blanks.Given as goal

abbrev pub invariant-loop-b : goal.invariant-loop-b
invariant-loop-b l = Part Ws l.bytes l.rest

abbrev pub decreases-loop-b : goal.decreases-loop-b
decreases-loop-b l = length l.rest
