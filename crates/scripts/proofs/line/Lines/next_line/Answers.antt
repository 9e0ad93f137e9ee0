use Rattle.std.proofs.Common.{eqb, take, ap, ◌∙◌, rules, tests}
use Rattle.std.proofs.lemmas.List.{take_rest}
use Rattle.std.proofs.lemmas.Iterator.{YieldsList-from_slice}
use Rattle.std.proofs.lemmas.Iterator.Search.{position_from_yields_List}
use Rattle.scripts.proofs.Ends.{end_is, rest_is}
use Rattle.scripts.proofs.line.Lines.next_line.Goals as goal

pub returns-clause-line : goal.returns-clause-line
returns-clause-line c =
    let t = c.args.self.now.rest.now in
    let found = position_from_yields_List (λ b. eqb b 10) _ _ c.position.result c.position.ensures.ran (YieldsList-from_slice t cc) (λ x b q k. search (rules, tests)) in
    ap (λ n. take n t) (end_is t _ _ found c.unwrap_or-end.ensures)

pub returns-clause-rest : goal.returns-clause-rest
returns-clause-rest c =
    let t = c.args.self.now.rest.now in
    let found = position_from_yields_List (λ b. eqb b 10) _ _ c.position.result c.position.ensures.ran (YieldsList-from_slice t cc) (λ x b q k. search (rules, tests)) in
    take_rest t c.min.result ∙ rest_is t _ c.min.result (end_is t _ _ found c.unwrap_or-end.ensures) c.min.ensures
