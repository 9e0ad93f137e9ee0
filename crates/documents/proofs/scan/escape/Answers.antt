use Rattle.std.proofs.lemmas.Result.{MatchResult-weaker}
use Rattle.documents.proofs.Strings.{e_simple, e_unit, e_unit_bad}
use Rattle.documents.proofs.scan.escape.Goals as goal

pub returns-in-Simple-default : goal.returns-in-Simple-default
returns-in-Simple-default c =
    let f = c.in_ok-tail.ensures in
    e_simple _ _ _ f.1 (cc)

pub returns-in-CodeUnit-default : goal.returns-in-CodeUnit-default
returns-in-CodeUnit-default c =
    let f = c.in_ok-tail.ensures in
    MatchResult-weaker c.unit.result c.unit.ensures (λ q g. e_unit _ _ _ f.1 (cc) _ g) (λ q g. e_unit_bad _ _ _ f.1 (cc) _ g)
