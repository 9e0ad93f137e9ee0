use Rattle.std.proofs.Common.{◌≤◌, length, sym, ◌∙◌, rules}
use Rattle.runs.proofs.Parted.{begins-within, two_behind, two_apart}
use Rattle.runs.proofs.order.comes_before.Goals as goal

pub slice_bounds-is_before-count : goal.slice_bounds-is_before-count
slice_bounds-is_before-count c = begins-within c.args.front.now c.args.key.now (sym c.if-begins_with.ensures)

pub slice_bounds-is_before-start : goal.slice_bounds-is_before-start
slice_bounds-is_before-start c =
    let h : length c.args.front.now ≤ length c.args.key.now = begins-within c.args.front.now c.args.key.now (sym c.if-begins_with.ensures) in
    search rules

pub returns-then-begins_with : goal.returns-then-begins_with
returns-then-begins_with c =
    c.is_before.ensures ∙ two_behind c.args.front.now c.args.back.now c.args.key.now (sym c.if-begins_with.ensures)

pub returns : goal.returns
returns c =
    c.is_before-2.ensures ∙ two_apart c.args.front.now c.args.back.now c.args.key.now (sym c.if-begins_with.ensures)
