use Rattle.std.proofs.Common.{rules}
use Rattle.grammar.specs.Grammar.{Ws, w_none, w_more}
use Rattle.documents.proofs.Parts.{part_none, part_more}
use Rattle.documents.proofs.scan.blanks.Goals as goal

pub loop-b-init : goal.loop-b-init
loop-b-init c = part_none Ws _ w_none

pub loop-b-preserved : goal.loop-b-preserved
loop-b-preserved c = part_more Ws _ _ _ _ (λ t x. w_more _ x (search rules)) c.loop-b.invariant c.in-Some.ensures.cases.0
