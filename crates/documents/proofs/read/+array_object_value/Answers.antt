use Rattle.std.proofs.Common.{rules}
use Rattle.std.proofs.lemmas.Result.{err_from_is_err_and}
use Rattle.documents.proofs.Words.{starts, starts_not, unlike_end, unlike_at}
use Rattle.documents.proofs.Values.{v_string, v_minus, v_zero, v_positive, v_true, v_no_true, v_false, v_no_false, v_null, v_no_null, v_array, v_object}
use Rattle.documents.proofs.Arrays.{a_none, a_begin, a_item, a_item_bad, a_close, a_next}
use Rattle.documents.proofs.Objects.{o_none, o_begin, o_name, o_pair, o_pair_stops, o_close, o_next}
use Rattle.documents.proofs.read.+array_object_value.Goals as goal
use Rattle.documents.proofs.read.+array_object_value.Goals.{value-in-Quote-default+in_ok-rest-in-Quote-default, value-in-Minus-default+in_ok-rest-in-Minus-default, value-in-Zero-default+in_ok-rest-in-Zero-default, value-in-Positive-default+in_ok-rest-in-Positive-default, value-in-OpenArray-default+in_ok-rest-in-OpenArray-default, value-in-OpenObject-default+in_ok-rest-in-OpenObject-default, value-in-LitT-default+in_ok-rest-in-LitT-default, value-in-LitF-default+in_ok-rest-in-LitF-default, value-in-LitN-default+in_ok-rest-in-LitN-default}

pub array-returns-in-Some : goal.array-returns-in-Some
array-returns-in-Some t c = a_none _ _ _ c.blanks-item.ensures _ (starts 93 _ _ c.in-Some.ensures.cases.0 c.in-Some.ensures.cases.1)

pub array-loop-end-init : goal.array-loop-end-init
array-loop-end-init t c = a_begin _ _ _ c.blanks-item.ensures c.blanks-item.result.no_blank (starts_not 93 _ c.in_default.ensures.cases)

pub object-returns-in-Some : goal.object-returns-in-Some
object-returns-in-Some t c = o_none _ _ _ c.blanks-member.ensures _ (starts 125 _ _ c.in-Some.ensures.cases.0 c.in-Some.ensures.cases.1)

pub object-loop-named-init : goal.object-loop-named-init
object-loop-named-init t c = o_begin _ _ _ c.blanks-member.ensures c.blanks-member.result.no_blank (starts_not 125 _ c.in_default.ensures.cases)

pub array-returns-in_default-split_first : goal.array-returns-in_default-split_first
array-returns-in_default-split_first t c = a_item_bad _ _ _ (a_item _ _ _ _ _ c.loop-end.invariant c.in_ok-value.ensures c.blanks-end.ensures) c.blanks-end.result.no_blank (unlike_end 93 _ c.in_default-split_first.ensures.cases) (unlike_end 44 _ c.in_default-split_first.ensures.cases)

pub array-returns-in_default-b : goal.array-returns-in_default-b
array-returns-in_default-b t c = a_item_bad _ _ _ (a_item _ _ _ _ _ c.loop-end.invariant c.in_ok-value.ensures c.blanks-end.ensures) c.blanks-end.result.no_blank (unlike_at 93 _ _ _ c.in-Some-split_first.ensures.cases.0 (search rules)) (unlike_at 44 _ _ _ c.in-Some-split_first.ensures.cases.0 (search rules))

pub array-loop-end-preserved : goal.array-loop-end-preserved
array-loop-end-preserved t c = a_next _ _ _ (a_item _ _ _ _ _ c.loop-end.invariant c.in_ok-value.ensures c.blanks-end.ensures) _ _ (rw (← c.in-44.is) c.in-Some-split_first.ensures.cases.0) c.blanks-item-in-44.ensures

pub object-returns-in_default-split_first : goal.object-returns-in_default-split_first
object-returns-in_default-split_first t c = o_pair_stops _ _ _ (o_pair _ _ _ _ _ (o_name _ _ _ _ _ c.loop-named.invariant c.in_ok-named.ensures) c.in_ok-value.ensures c.blanks-end.ensures) c.blanks-end.result.no_blank (unlike_end 125 _ c.in_default-split_first.ensures.cases) (unlike_end 44 _ c.in_default-split_first.ensures.cases)

pub object-returns-in_default-b : goal.object-returns-in_default-b
object-returns-in_default-b t c = o_pair_stops _ _ _ (o_pair _ _ _ _ _ (o_name _ _ _ _ _ c.loop-named.invariant c.in_ok-named.ensures) c.in_ok-value.ensures c.blanks-end.ensures) c.blanks-end.result.no_blank (unlike_at 125 _ _ _ c.in-Some-split_first.ensures.cases.0 (search rules)) (unlike_at 44 _ _ _ c.in-Some-split_first.ensures.cases.0 (search rules))

pub object-loop-named-preserved : goal.object-loop-named-preserved
object-loop-named-preserved t c = o_next _ _ _ (o_pair _ _ _ _ _ (o_name _ _ _ _ _ c.loop-named.invariant c.in_ok-named.ensures) c.in_ok-value.ensures c.blanks-end.ensures) _ _ (rw (← c.in-44.is) c.in-Some-split_first.ensures.cases.0) c.blanks-member-in-44.ensures

pub array-returns-in-93 : goal.array-returns-in-93
array-returns-in-93 t c = a_close _ _ _ (a_item _ _ _ _ _ c.loop-end.invariant c.in_ok-value.ensures c.blanks-end.ensures) _ (rw (← c.in-93.is) c.in-Some-split_first.ensures.cases.0)

pub object-returns-in-125 : goal.object-returns-in-125
object-returns-in-125 t c = o_close _ _ _ (o_pair _ _ _ _ _ (o_name _ _ _ _ _ c.loop-named.invariant c.in_ok-named.ensures) c.in_ok-value.ensures c.blanks-end.ensures) _ (rw (← c.in-125.is) c.in-Some-split_first.ensures.cases.0)

pub value-returns-in_err-rest-in-LitT-default : goal.value-returns-in_err-rest-in-LitT-default
value-returns-in_err-rest-in-LitT-default t c =
    let f = c.in_ok-tail.ensures in
    let p = err_from_is_err_and c.from_residual-in_err-rest-in-LitT-default.result c.from_residual-in_err-rest-in-LitT-default.ensures.1 in
    rw (p.1, p.2) (v_no_true _ _ _ _ f.1 (cc) _ c.in_err-rest-in-LitT-default.ensures)

pub value-returns-in_err-rest-in-LitF-default : goal.value-returns-in_err-rest-in-LitF-default
value-returns-in_err-rest-in-LitF-default t c =
    let f = c.in_ok-tail.ensures in
    let p = err_from_is_err_and c.from_residual-in_err-rest-in-LitF-default.result c.from_residual-in_err-rest-in-LitF-default.ensures.1 in
    rw (p.1, p.2) (v_no_false _ _ _ _ f.1 (cc) _ c.in_err-rest-in-LitF-default.ensures)

pub value-returns-in_err-rest-in-LitN-default : goal.value-returns-in_err-rest-in-LitN-default
value-returns-in_err-rest-in-LitN-default t c =
    let f = c.in_ok-tail.ensures in
    let p = err_from_is_err_and c.from_residual-in_err-rest-in-LitN-default.result c.from_residual-in_err-rest-in-LitN-default.ensures.1 in
    rw (p.1, p.2) (v_no_null _ _ _ _ f.1 (cc) _ c.in_err-rest-in-LitN-default.ensures)

pub value-returns : goal.value-returns
value-returns t c =
    let f = c.in_ok-tail.ensures in
    elim c.match-branch-2.branch [
      | value-in-Quote-default+in_ok-rest-in-Quote-default w ↦ rw w.rest-is (v_string _ _ _ _ f.1 (cc) _ w.in_ok-rest-in-Quote-default.ensures)
      | value-in-Minus-default+in_ok-rest-in-Minus-default w ↦ rw w.rest-is (v_minus _ _ _ _ f.1 (cc) _ w.in_ok-rest-in-Minus-default.ensures)
      | value-in-Zero-default+in_ok-rest-in-Zero-default w ↦ rw w.rest-is (v_zero _ _ _ _ f.1 (cc) _ w.in_ok-rest-in-Zero-default.ensures)
      | value-in-Positive-default+in_ok-rest-in-Positive-default w ↦ rw w.rest-is (v_positive _ _ _ _ f.1 (cc) _ w.in_ok-rest-in-Positive-default.ensures)
      | value-in-OpenArray-default+in_ok-rest-in-OpenArray-default w ↦ rw w.rest-is (v_array _ _ _ _ f.1 (search rules) (cc) _ w.in_ok-rest-in-OpenArray-default.ensures)
      | value-in-OpenObject-default+in_ok-rest-in-OpenObject-default w ↦ rw w.rest-is (v_object _ _ _ _ f.1 (search rules) (cc) _ w.in_ok-rest-in-OpenObject-default.ensures)
      | value-in-LitT-default+in_ok-rest-in-LitT-default w ↦ rw w.rest-is (v_true _ _ _ _ f.1 (cc) _ w.in_ok-rest-in-LitT-default.ensures)
      | value-in-LitF-default+in_ok-rest-in-LitF-default w ↦ rw w.rest-is (v_false _ _ _ _ f.1 (cc) _ w.in_ok-rest-in-LitF-default.ensures)
      | value-in-LitN-default+in_ok-rest-in-LitN-default w ↦ rw w.rest-is (v_null _ _ _ _ f.1 (cc) _ w.in_ok-rest-in-LitN-default.ensures)
    ]
