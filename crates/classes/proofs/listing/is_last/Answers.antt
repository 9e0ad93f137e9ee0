use Rattle.std.proofs.Common.{rules, tests}
use Rattle.classes.proofs.Turns.{said_of_last}
use Rattle.classes.proofs.listing.is_last.Goals as goal

pub returns : goal.returns
returns c = said_of_last c.args.nodes.now c.last.result _ c.is_some_and.result _ c.last.ensures.value c.is_some_and.ensures (λ n g. search (rules, tests))
