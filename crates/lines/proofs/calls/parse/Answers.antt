use Rattle.std.proofs.Common.{◌∷◌, map, vec_items, sym, ap, ◌∙◌, arith}
use Rattle.lines.specs.Calls.{asked}
use Rattle.lines.specs.Heard.{heard}
use Rattle.lines.proofs.Cuts.{call_1, call_2, call_3, call_more}
use Rattle.lines.proofs.Texts.{no_call, refused, read_as}
use Rattle.lines.proofs.calls.parse.Goals as goal

pub returns-in_err-name-2 : goal.returns-in_err-name-2
returns-in_err-name-2 c =
    let whole = ap (λ ws. asked (map vec_items ws)) c.in_ok-name.ensures.cases.0 in
    let none = no_call c.as_slice.result.now (map vec_items c.in_ok-name.rest.now) (refused c.from_utf8.result _ _ _ c.from_utf8.ensures.cases c.in_err-name-2.ensures.variant) in
    ap heard c.from_residual-in_err-name-2.ensures ∙ sym (whole ∙ ap (λ n. asked (n ∷ map vec_items c.in_ok-name.rest.now)) (sym c.as_slice.ensures.value) ∙ none)

pub returns-in-len1 : goal.returns-in-len1
returns-in-len1 c =
    let whole = ap (λ ws. asked (map vec_items ws)) c.in_ok-name.ensures.cases.0 in
    let name = read_as c.from_utf8.result c.in_ok-name-2.name c.as_slice.result.now _ _ c.from_utf8.ensures.cases c.in_ok-name-2.ensures.value ∙ c.as_slice.ensures.value in
    let call = call_1 vec_items (vec_items c.in_ok-name.name.now) c.in_ok-name.rest.now c.a-item.result (omega arith) c.a-item.is in
    c.with_one.ensures ∙ cc (name, c.as_slice-in-len1.ensures.value, whole, call)

pub returns-in-len2 : goal.returns-in-len2
returns-in-len2 c =
    let whole = ap (λ ws. asked (map vec_items ws)) c.in_ok-name.ensures.cases.0 in
    let name = read_as c.from_utf8.result c.in_ok-name-2.name c.as_slice.result.now _ _ c.from_utf8.ensures.cases c.in_ok-name-2.ensures.value ∙ c.as_slice.ensures.value in
    let call = call_2 vec_items (vec_items c.in_ok-name.name.now) c.in_ok-name.rest.now c.a-item-then-rest-lt3.result c.b-item.result (omega arith) c.a-item-then-rest-lt3.is c.b-item.is in
    c.with_two.ensures ∙ cc (name, c.as_slice-in-len2.ensures.value, c.as_slice-in-len2-2.ensures.value, whole, call)

pub returns-in-len3 : goal.returns-in-len3
returns-in-len3 c =
    let whole = ap (λ ws. asked (map vec_items ws)) c.in_ok-name.ensures.cases.0 in
    let name = read_as c.from_utf8.result c.in_ok-name-2.name c.as_slice.result.now _ _ c.from_utf8.ensures.cases c.in_ok-name-2.ensures.value ∙ c.as_slice.ensures.value in
    let call =
    call_3 vec_items (vec_items c.in_ok-name.name.now) c.in_ok-name.rest.now c.a-item-then-rest-lt4.result c.b-item-then-rest-lt4.result c.c-item.result (omega arith)
    c.a-item-then-rest-lt4.is c.b-item-then-rest-lt4.is c.c-item.is in
    c.with_three.ensures ∙ cc (name, c.as_slice-in-len3.ensures.value, c.as_slice-in-len3-2.ensures.value, c.as_slice-in-len3-3.ensures.value, whole, call)

pub returns-in_default : goal.returns-in_default
returns-in_default c =
    let whole = ap (λ ws. asked (map vec_items ws)) c.in_ok-name.ensures.cases.0 in
    sym (whole ∙ call_more vec_items (vec_items c.in_ok-name.name.now) c.in_ok-name.rest.now (omega arith))
