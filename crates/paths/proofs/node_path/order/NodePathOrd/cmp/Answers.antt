use Rattle.std.proofs.Common.{Bool, sym, ap, ◌∙◌}
use Rattle.text.specs.Bytes.{Bytes, ordering, order_by}
use Rattle.paths.specs.declared.node_path.NodePath.{NodePath}
use Rattle.paths.specs.Paths.{rendered, same_path, rank, text_before}
use Rattle.paths.specs.Values.{names_of}
use Rattle.paths.proofs.PathOrder.{texts_compare_as_paths_lem}
use Rattle.paths.proofs.Values.{lawful, written}
use Rattle.paths.proofs.node_path.order.NodePathOrd.cmp.Goals as goal

pub returns : goal.returns
returns c =
    let v : NodePath = c.args.self.now in
    let w : NodePath = c.args.other.now in
    let k = texts_compare_as_paths_lem (names_of v) (names_of w) (lawful v) (lawful w) in
    c.compare_by.ensures ∙ ap (λ (t : Bytes). order_by rank t c.as_bytes-2.result.now) (c.as_bytes.ensures ∙ sym (written v))
    ∙ ap (λ (t : Bytes). order_by rank (rendered (names_of v)) t) (c.as_bytes-2.ensures ∙ sym (written w))
    ∙ ap (λ (b : Bool). ordering b (text_before (rendered (names_of v)) (rendered (names_of w)))) k.1 ∙ ap (ordering (same_path (names_of v) (names_of w))) k.0
