use Rattle.std.proofs.lemmas.Result.{err_from_is_err_and}
use Rattle.documents.proofs.Objects.{m_no_colon, m_name}
use Rattle.documents.proofs.read.name.Goals as goal

pub returns-in_err-value : goal.returns-in_err-value
returns-in_err-value c =
    let p = err_from_is_err_and c.from_residual-in_err-value.result c.from_residual-in_err-value.ensures.1 in
    rw (p.1, p.2) (m_no_colon _ _ c.in_ok-quoted.ensures _ _ c.in_ok-behind.ensures c.blanks.ensures _ c.blanks.result.no_blank c.in_err-value.ensures)

pub returns : goal.returns
returns c = m_name _ _ c.in_ok-quoted.ensures _ _ c.in_ok-behind.ensures c.blanks.ensures _ _ c.in_ok-value.ensures c.blanks-2.ensures
