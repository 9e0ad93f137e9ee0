use Rattle.std.proofs.Common.{eqb, ◌∙◌, rules, tests}
use Rattle.std.proofs.lemmas.Iterator.{YieldsList-from_slice}
use Rattle.std.proofs.lemmas.Iterator.Search.{all_from_yields_List}
use Rattle.paths.proofs.Scans.{periods_is}
use Rattle.paths.proofs.node_name.is_only_periods.Goals as goal

pub returns : goal.returns
returns c =
    all_from_yields_List (λ b. eqb b 46) _ _ _ c.all.ensures.ran (YieldsList-from_slice c.args.text.now cc) (λ x b q k. search (rules, tests))
    ∙ periods_is c.args.text.now
