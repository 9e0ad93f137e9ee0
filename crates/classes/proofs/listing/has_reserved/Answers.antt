use Rattle.std.proofs.Common.{eqb, ◌∙◌, rules, tests}
use Rattle.std.proofs.lemmas.Iterator.Adapters.{YieldsList-from_skip}
use Rattle.std.proofs.lemmas.Iterator.Search.{any_from_yields_List}
use Rattle.std.proofs.lemmas.Iterator.Splits.{YieldsList-from_slice_split}
use Rattle.paths.specs.Names.{reserved}
use Rattle.classes.proofs.Reserved.{reserved_parts}
use Rattle.classes.proofs.listing.has_reserved.Goals as goal

pub returns : goal.returns
returns c =
    let path = c.args.path.now in
    let parts = YieldsList-from_slice_split _ (λ b. eqb b 47) path (cc) (cc) (cc) (λ x b q k. search (rules, tests)) in
    any_from_yields_List reserved _ _ _ c.any.ensures.ran (YieldsList-from_skip 1 parts (cc)) (λ x b q k. search (rules, tests)) ∙ reserved_parts path
