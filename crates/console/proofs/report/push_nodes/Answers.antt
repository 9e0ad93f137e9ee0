use Rattle.std.proofs.Common.{◌≡◌, max, [], ◌∷◌, ◌++◌, map, length, vec_items, codes, decimal, sym, ap, ◌∙◌, append_assoc}
use Rattle.std.proofs.lemmas.List.{length-map}
use Rattle.std.proofs.lemmas.Result.{on_ok_weaker}
use Rattle.classes.specs.Classes.{entry}
use Rattle.console.specs.Reports.{at_right, node_lines, width}
use Rattle.printing.proofs.Pieces.{joined, called}
use Rattle.console.proofs.Columns.{head_at_right}
use Rattle.console.proofs.report.push_nodes.Goals as goal

pub returns : goal.returns
returns c =
    let es = map entry c.args.nodes.now in
    let wide : c.in_ok-width.width ≡ width es = c.in_ok-width.ensures ∙ ap (λ n. max (length (decimal n)) 3) (sym (length-map c.args.nodes.now entry)) in
    let head = at_right (width es) (codes "No.") in
    let names = codes "  Kind      Path" ++ (10 ∷ []) in
    let lines = node_lines (width es) 0 es in
    let o0 = vec_items c.args.out.now in
    let o1 = vec_items c.extend_from_slice.new.self in
    let o2 = vec_items c.push_node_lines.new.out in
    let written : o1 ≡ o0 ++ (head ++ names) =
    called o0 o1 _ _ c.in_ok-extend_from_slice.ensures.items
    (c.as_bytes.ensures.value ∙ c.in_ok-head.ensures.ok ∙ ap (λ t. t ++ names) (head_at_right _ c.in_ok-width.width c.laid_out.ensures ∙ ap (λ w. at_right w (codes "No.")) wide)) in
    on_ok_weaker c.push_node_lines.result
    (λ e. joined o0 o1 o2 (head ++ names) lines written (called o1 o2 _ lines e (ap (λ w. node_lines w 0 es) wide)) ∙ ap (λ t. o0 ++ t) (append_assoc head names lines))
    c.push_node_lines.ensures
