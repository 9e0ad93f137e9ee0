use Rattle.std.proofs.Common.{refl, arith, of_calls}
use Rattle.std.proofs.lemmas.Result.{err_from_is_err_and}
use Rattle.documents.proofs.Documents.{mapped}
use Rattle.documents.proofs.Words.{starts, starts_not}
use Rattle.members.proofs.Walks.{error_is, from_get, l_other, l_looked, l_refused}
use Rattle.members.proofs.reader.look_up.Goals as goal

pub returns-in_err-members : goal.returns-in_err-members
returns-in_err-members c =
    let g = rw c.in_ok-bytes.ensures.ok_part at c.get.ensures.lookup in
    let f = c.in_err-members.ensures in
    let q = err_from_is_err_and c.from_residual-in_err-members.result c.from_residual-in_err-members.ensures.1 in
    rw (q.1, q.2, error_is _ _ _ f.ok_part f.value) (λ t e z. l_other c.args.doc.now c.args.cursor.now.offset c.blanks.result.bytes.now (from_get c.args.doc.now c.args.cursor.now.offset _ c.blanks.result.bytes.now g.0.2 c.blanks.ensures) c.blanks.result.no_blank (starts_not 123 _ (rw f.ok_part at c.strip_prefix.ensures.cases)) t e)

pub returns : goal.returns
returns c =
    let g = rw c.in_ok-bytes.ensures.ok_part at c.get.ensures.lookup in
    let f = rw c.in_ok-members.ensures.ok_part at c.strip_prefix.ensures.cases in
    let h = starts 123 c.blanks.result.bytes.now _ f.0 f.1 in
    let less = rw c.in_ok-depth.ensures.ok_part at c.checked_sub.ensures in
    mapped _ _ _ _ _ c.walk.result c.map_err.result c.walk.ensures c.map_err.ensures.cases (λ o l. l_looked _ _ _ _ _ o _ _ (from_get c.args.doc.now c.args.cursor.now.offset _ c.blanks.result.bytes.now g.0.2 c.blanks.ensures) c.blanks.result.no_blank h refl (omega (arith, less)) l) (λ e f n m. l_refused _ c.args.cursor.now _ _ _ f _ _ (from_get c.args.doc.now c.args.cursor.now.offset _ c.blanks.result.bytes.now g.0.2 c.blanks.ensures) h refl (omega (arith, less)) n (search of_calls))
