use Rattle.std.proofs.Common.{◌≡◌, ◌++◌, map, vec_items, ap, ◌∙◌, arith, rules}
use Rattle.classes.specs.Classes.{look, entry, told, kept, repeats, repeated}
use Rattle.classes.proofs.Lists.{listed}
use Rattle.std.specs.Ordering.{is_lt}
use Rattle.std.proofs.lemmas.List.Sorted.{answers_always, ranks_by}
use Rattle.text.proofs.Shared.{cmp_is}
use Rattle.text.proofs.TotalOrders.{byte_order_total}
use Rattle.paths.specs.TotalOrders.{path_order_total}
use Rattle.classes.proofs.Orders.{key, name, less_node, less_passed, weak_sorted, bytes_sorted}
use Rattle.classes.proofs.listing.class_list.Goals as goal

pub returns : goal.returns
returns c =
    let looks = map look c.args.found.now in
    let sorted = vec_items c.sort_by.new.self in
    let last = vec_items c.sort_by-2.new.self in
    let sifted = c.in_ok-nodes.ensures in
    let settled = c.in_ok-nodes-2.ensures in
    let slice = c.as_slice.ensures.value in
    let by_path = answers_always _ (λ a r. is_lt r ≡ less_node a.0.now a.1.0.now) _ (λ f a r g called. search rules) in
    let up = weak_sorted sorted (λ k d h. c.in_ok-sort_by.ensures.sorted less_node (ranks_by path_order_total key) by_path k d (omega arith) h) in
    let by_bytes = answers_always _ (λ a r. is_lt r ≡ less_passed a.0.now a.1.0.now) _ (λ f a r g called. search (rules, cmp_is)) in
    let rises = bytes_sorted last (λ k d h. c.in_ok-sort_by-2.ensures.sorted less_passed (ranks_by byte_order_total name) by_bytes k d (omega arith) h) in
    listed looks _ sorted sifted.nodes c.sort_by.ensures.permutation up _
    (settled.passed ∙ ap (λ s. map told (vec_items c.in_ok-nodes.field-0.passed) ++ map repeated (repeats (map entry s))) slice
    ∙ ap (λ t. t ++ map repeated (repeats (map entry sorted))) sifted.passed)
    last c.sort_by-2.ensures.permutation rises _ (settled.nodes ∙ ap (λ s. kept (map entry s)) slice)
