use Rattle.std.proofs.lemmas.Result.{MatchResult-weaker}
use Rattle.documents.proofs.Strings.{d_whole, d_whole_bad, d_pair, d_pair_bad}
use Rattle.documents.proofs.scan.unit_d.Goals as goal

pub returns-in-Whole-default : goal.returns-in-Whole-default
returns-in-Whole-default c =
    let f = c.in_ok-tail.ensures in
    MatchResult-weaker c.follow.result c.follow.ensures (λ q g. d_whole _ _ _ f.1 (cc) _ g) (λ q g. d_whole_bad _ _ _ f.1 (cc) _ g)

pub returns-in-High-default : goal.returns-in-High-default
returns-in-High-default c =
    let f = c.in_ok-tail.ensures in
    MatchResult-weaker c.follow-in-High-default.result c.follow-in-High-default.ensures (λ q g. d_pair _ _ _ f.1 (cc) _ g) (λ q g. d_pair_bad _ _ _ f.1 (cc) _ g)
