use Rattle.std.proofs.Common.{◌≡◌, [], ◌∷◌, ◌++◌, vec_items, codes, decimal, ap, ◌∙◌, append_assoc}
use Rattle.paths.specs.Paths.{rendered}
use Rattle.paths.specs.Values.{names_of}
use Rattle.classes.specs.Sights.{kind_name}
use Rattle.console.specs.Reports.{at_right, at_left}
use Rattle.printing.specs.Shown.{shown}
use Rattle.printing.proofs.Pieces.{joined, called}
use Rattle.std.specs.Fmt.{styled_text}
use Rattle.console.proofs.Columns.{number_at_right, kind_at_left}
use Rattle.console.proofs.report.push_node.Goals as goal

pub returns : goal.returns
returns c =
    let x = c.args.node.now in
    let number = at_right c.args.width (decimal c.args.number) in
    let kind = at_left 10 (kind_name x.kind) in
    let path = shown (rendered (names_of x.path)) in
    let columns : c.as_bytes.result.now ≡ number ++ (codes "  " ++ kind) =
    c.as_bytes.ensures.value ∙ c.in_ok-columns.ensures.ok
    ∙ ap (λ t. t ++ (codes "  " ++ styled_text c.laid_out-2.result c.name-kind.result.now)) (number_at_right _ c.args.width c.args.number c.laid_out.ensures)
    ∙ ap (λ t. number ++ (codes "  " ++ styled_text c.laid_out-2.result t)) c.name-kind.ensures
    ∙ ap (λ t. number ++ (codes "  " ++ t)) (kind_at_left _ x.kind c.laid_out-2.ensures) in
    let o0 = vec_items c.args.out.now in
    let o1 = vec_items c.extend_from_slice.new.self in
    let o2 = vec_items c.push_shown.new.out in
    let o3 = vec_items c.push.new.self in
    joined o0 o1 o3 (number ++ (codes "  " ++ kind)) (path ++ (10 ∷ [])) (called o0 o1 _ _ c.in_ok-extend_from_slice.ensures.items columns)
    (joined o1 o2 o3 path (10 ∷ []) (called o1 o2 _ path c.in_ok-push_shown.ensures (ap shown c.as_bytes-2.ensures)) c.in_ok-push.ensures.items)
    ∙ ap (λ t. o0 ++ t) (append_assoc number (codes "  " ++ kind) (path ++ (10 ∷ [])))
