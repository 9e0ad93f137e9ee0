use Rattle.std.proofs.Common.{◌≡◌, drop, Some}
use Rattle.lines.specs.Words.{number_of, number_from}
use Rattle.lines.proofs.numbers.number_of.Given as goal

abbrev pub invariant-loop-digit : goal.invariant-loop-digit
invariant-loop-digit l = number_of l.word ≡ number_from (Some l.n) (drop l.digit-index l.word)
