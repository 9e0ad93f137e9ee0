use Rattle.std.proofs.Common.{rules, of_calls}
use Rattle.std.proofs.lemmas.Result.{err_from_is_err_and}
use Rattle.documents.proofs.Documents.{doc_fail, doc_ok, doc_rest, mapped_ok, mapped_err}
use Rattle.documents.proofs.read.document.Goals as goal

pub returns-in_err-behind : goal.returns-in_err-behind
returns-in_err-behind c =
    let p = err_from_is_err_and c.from_residual.result c.from_residual.ensures.1 in
    let m = mapped_err _ _ _ c.value.result c.map_err.result c.in_err-behind.field-0.0 c.value.ensures c.map_err.ensures.cases c.in_err-behind.was in
    let h = m.2 in
    rw (p.1, p.2) (doc_fail _ _ m.0.rest.now _ c.blanks.ensures m.1 (search of_calls))

pub returns-then-is_empty : goal.returns-then-is_empty
returns-then-is_empty c =
    let g = mapped_ok _ _ _ c.value.result c.map_err.result c.in_ok-behind.behind c.value.ensures c.map_err.ensures.cases c.in_ok-behind.was in
    doc_ok _ _ _ _ c.blanks.ensures g c.blanks-2.ensures (search rules)

pub returns-else-is_empty : goal.returns-else-is_empty
returns-else-is_empty c =
    let g = mapped_ok _ _ _ c.value.result c.map_err.result c.in_ok-behind.behind c.value.ensures c.map_err.ensures.cases c.in_ok-behind.was in
    doc_rest _ _ _ _ _ c.blanks.ensures g c.blanks-2.ensures c.blanks-2.result.no_blank (search rules) c.fault_in.ensures
