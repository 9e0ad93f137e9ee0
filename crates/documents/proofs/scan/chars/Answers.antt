use Rattle.std.proofs.lemmas.Result.{err_from_is_err_and}
use Rattle.documents.proofs.Strings.{str_begin, str_stop, str_plain, str_escape, str_escape_bad, str_long, str_long_bad}
use Rattle.documents.proofs.scan.chars.Goals as goal

pub loop-tail-init : goal.loop-tail-init
loop-tail-init c = str_begin c.args.bytes.now

pub returns-in_err-tail : goal.returns-in_err-tail
returns-in_err-tail c =
    let p = err_from_is_err_and c.from_residual.result c.from_residual.ensures.1 in
    rw (p.1, p.2) (str_stop _ _ c.loop-tail.invariant _ c.in_err-tail.ensures)

pub returns-in_err-rest-in-Back-default : goal.returns-in_err-rest-in-Back-default
returns-in_err-rest-in-Back-default c =
    let f = c.in_ok-tail.ensures in
    let p = err_from_is_err_and c.from_residual-in_err-rest-in-Back-default.result c.from_residual-in_err-rest-in-Back-default.ensures.1 in
    rw (p.1, p.2) (str_escape_bad _ _ c.loop-tail.invariant _ _ f.1 (cc) _ c.in_err-rest-in-Back-default.ensures)

pub returns-in_err-rest-in-Long-default : goal.returns-in_err-rest-in-Long-default
returns-in_err-rest-in-Long-default c =
    let f = c.in_ok-tail.ensures in
    let p = err_from_is_err_and c.from_residual-in_err-rest-in-Long-default.result c.from_residual-in_err-rest-in-Long-default.ensures.1 in
    rw (p.1, p.2) (str_long_bad _ _ c.loop-tail.invariant _ _ f.1 c.in-Long-default.lead (cc) _ (cc) _ c.in_err-rest-in-Long-default.ensures)

pub loop-tail-preserved-in-Plain-default : goal.loop-tail-preserved-in-Plain-default
loop-tail-preserved-in-Plain-default c =
    let f = c.in_ok-tail.ensures in
    str_plain _ _ c.loop-tail.invariant _ _ f.1 (cc)

pub loop-tail-preserved-in_ok-rest-in-Back-default : goal.loop-tail-preserved-in_ok-rest-in-Back-default
loop-tail-preserved-in_ok-rest-in-Back-default c =
    let f = c.in_ok-tail.ensures in
    str_escape _ _ c.loop-tail.invariant _ _ f.1 (cc) _ c.in_ok-rest-in-Back-default.ensures

pub loop-tail-preserved : goal.loop-tail-preserved
loop-tail-preserved c =
    let f = c.in_ok-tail.ensures in
    str_long _ _ c.loop-tail.invariant _ _ f.1 c.in-Long-default.lead (cc) _ (cc) _ c.in_ok-rest-in-Long-default.ensures
