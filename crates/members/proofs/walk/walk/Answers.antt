use Rattle.std.proofs.Common.{refl, sym}
use Rattle.std.proofs.lemmas.Result.{err_from_is_err_and}
use Rattle.documents.proofs.Words.{begins, begins_not, starts, starts_not}
use Rattle.documents.proofs.Objects.{o_pair_stops}
use Rattle.members.proofs.Walks.{error_is, from_place, w_none, w_begin, w_pair, w_close, w_next}
use Rattle.members.proofs.walk.walk.Goals as goal

pub returns-then-starts_with : goal.returns-then-starts_with
returns-then-starts_with c = w_none _ _ _ _ _ _ c.requires (from_place c.args.doc.now c.args.cursor.now.offset _ c.blanks-member.ensures) (begins 125 _ (sym c.if-starts_with.ensures.value))

pub loop-named-init : goal.loop-named-init
loop-named-init c = w_begin _ _ _ _ _ (from_place c.args.doc.now c.args.cursor.now.offset _ c.blanks-member.ensures) c.blanks-member.result.no_blank (begins_not 125 _ (sym c.if-starts_with.ensures.value))

pub returns-then-starts_with-2 : goal.returns-then-starts_with-2
returns-then-starts_with-2 c =
    let p = w_pair _ _ _ _ _ _ _ _ _ _ _ _ c.or-found.result c.requires c.loop-named.invariant c.in_ok-named.ensures c.in_ok-behind.ensures c.blanks-end.ensures refl c.name_is.ensures (cc) in
    w_close _ _ _ _ _ _ _ c.requires p (begins 125 _ (sym c.if-starts_with-2.ensures.value))

pub returns-in_err-rest : goal.returns-in_err-rest
returns-in_err-rest c =
    let p = w_pair _ _ _ _ _ _ _ _ _ _ _ _ c.or-found.result c.requires c.loop-named.invariant c.in_ok-named.ensures c.in_ok-behind.ensures c.blanks-end.ensures refl c.name_is.ensures (cc) in
    let f = c.in_err-rest.ensures in
    let q = err_from_is_err_and c.from_residual-in_err-rest.result c.from_residual-in_err-rest.ensures.1 in
    rw (q.1, q.2, error_is _ _ _ f.ok_part f.value) (o_pair_stops _ _ _ p.pair c.blanks-end.result.no_blank (begins_not 125 _ (sym c.if-starts_with-2.ensures.value)) (starts_not 44 _ (rw f.ok_part at c.strip_prefix.ensures.cases)))

pub loop-named-preserved : goal.loop-named-preserved
loop-named-preserved c =
    let p = w_pair _ _ _ _ _ _ _ _ _ _ _ _ c.or-found.result c.requires c.loop-named.invariant c.in_ok-named.ensures c.in_ok-behind.ensures c.blanks-end.ensures refl c.name_is.ensures (cc) in
    let f = rw c.in_ok-rest.ensures.ok_part at c.strip_prefix.ensures.cases in
    w_next _ _ _ _ _ _ _ _ p (starts 44 _ _ f.0 f.1) c.blanks-member-in-loop-named.ensures
