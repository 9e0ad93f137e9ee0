use Rattle.std.proofs.Common.{length}
use Rattle.grammar.specs.Grammar.{Chars}
use Rattle.documents.specs.Reading.{Part}
use Rattle.documents.proofs.scan.chars.Given as goal

abbrev pub invariant-loop-tail : goal.invariant-loop-tail
invariant-loop-tail l = Part Chars l.bytes l.rest

abbrev pub decreases-loop-tail : goal.decreases-loop-tail
decreases-loop-tail l = length l.rest
