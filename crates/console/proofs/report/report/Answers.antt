use Rattle.std.proofs.Common.{◌≡◌, [], ◌∷◌, ◌++◌, map, length, vec_items, codes, sym, ap, ◌∙◌}
use Rattle.std.proofs.lemmas.List.{length-map}
use Rattle.classes.specs.Classes.{entry, told}
use Rattle.console.specs.Reports.{nodes_text, passed_text, totals, report_text}
use Rattle.printing.specs.Shown.{shown}
use Rattle.printing.proofs.Pieces.{joined, called}
use Rattle.console.proofs.report.report.Goals as goal

pub returns : goal.returns
returns c =
    let nodes = vec_items c.args.list.now.nodes in
    let passed = vec_items c.args.list.now.passed in
    let archive = shown c.args.archive.now in
    let list = nodes_text (map entry nodes) in
    let over = passed_text (map told passed) in
    let counts = totals (length (map entry nodes)) (length (map told passed)) in
    let title = codes "Classes of " in
    let gap = 10 ∷ 10 ∷ [] in
    let head = 10 ∷ (codes "Passed over:" ++ (10 ∷ [])) in
    let a : c.len.result ≡ length (map entry nodes) = c.len.ensures ∙ c.args.list.now.nodes.ok.0 ∙ sym (length-map nodes entry) in
    let b : c.len-2.result ≡ length (map told passed) = c.len-2.ensures ∙ c.args.list.now.passed.ok.0 ∙ sym (length-map passed told) in
    let o0 = vec_items c.new-out.result in
    let o1 = vec_items c.extend_from_slice.new.self in
    let o2 = vec_items c.push_shown.new.out in
    let o3 = vec_items c.extend_from_slice-2.new.self in
    let o4 = vec_items c.push_nodes.new.out in
    let o5 = vec_items c.extend_from_slice-3.new.self in
    let o6 = vec_items c.push_passed.new.out in
    let o7 = vec_items c.push_totals.new.out in
    joined o0 o1 o7 title (archive ++ (gap ++ (list ++ (head ++ (over ++ counts))))) c.in_ok-extend_from_slice.ensures.items
    (joined o1 o2 o7 archive (gap ++ (list ++ (head ++ (over ++ counts)))) (called o1 o2 _ archive c.in_ok-push_shown.ensures (ap shown c.as_bytes.ensures.value))
    (joined o2 o3 o7 gap (list ++ (head ++ (over ++ counts))) c.in_ok-extend_from_slice-2.ensures.items
    (joined o3 o4 o7 list (head ++ (over ++ counts)) (called o3 o4 _ list c.in_ok-push_nodes.ensures (ap (λ l. nodes_text (map entry l)) c.as_slice.ensures.value))
    (joined o4 o5 o7 head (over ++ counts) c.in_ok-extend_from_slice-3.ensures.items
    (joined o5 o6 o7 over counts (called o5 o6 _ over c.in_ok-push_passed.ensures (ap (λ l. passed_text (map told l)) c.as_slice-2.ensures.value))
    (called o6 o7 _ counts c.in_ok-push_totals.ensures (ap (λ n. totals n c.len-2.result) a ∙ ap (totals (length (map entry nodes))) b)))))))
    ∙ ap (λ l. l ++ report_text c.args.archive.now (map entry nodes) (map told passed)) c.new-out.ensures.items
