use Rattle.std.proofs.lemmas.Result.{MatchResult-weaker}
use Rattle.documents.proofs.Strings.{u_d, u_d_bad, u_other, u_other_bad}
use Rattle.documents.proofs.scan.unit.Goals as goal

pub returns-in-FirstD-default : goal.returns-in-FirstD-default
returns-in-FirstD-default c =
    let f = c.in_ok-tail.ensures in
    MatchResult-weaker c.unit_d.result c.unit_d.ensures (λ q g. u_d _ _ _ f.1 (cc) _ g) (λ q g. u_d_bad _ _ _ f.1 (cc) _ g)

pub returns-in-OtherHex-default : goal.returns-in-OtherHex-default
returns-in-OtherHex-default c =
    let f = c.in_ok-tail.ensures in
    MatchResult-weaker c.follow.result c.follow.ensures (λ q g. u_other _ _ _ f.1 (cc) _ g) (λ q g. u_other_bad _ _ _ f.1 (cc) _ g)
