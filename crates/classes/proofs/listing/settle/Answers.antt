use Rattle.std.proofs.Common.{map, vec_items, sym, ap, ◌∙◌, subst, arith}
use Rattle.text.specs.Bytes.{Bytes}
use Rattle.paths.specs.Values.{names_of}
use Rattle.classes.specs.declared.listing.Reason.TheVariants.{Repeated}
use Rattle.classes.specs.Classes.{entry, is_last, last_path}
use Rattle.classes.proofs.Turns.{SettleNodes, SettlePassed, settle_over, settle_keep}
use Rattle.classes.proofs.listing.settle.Goals as goal
use Rattle.classes.proofs.listing.settle.Goals.{then-is_last+in_ok-path+in_ok-push, else-is_last+in_ok-push-2}

pub loop-node-preserved : goal.loop-node-preserved
loop-node-preserved c =
    let sorted = c.args.sorted.now in
    let i = c.loop-node.node-index in
    let x = c.node-item.result in
    let first = vec_items c.args.passed in
    let inv = c.loop-node.invariant in
    let slice = ap (λ l. is_last (last_path (map entry l)) (names_of x.path)) c.as_slice.ensures.value in
    elim c.if-is_last.branch [
      | then-is_last+in_ok-path+in_ok-push w ↦
          let same = sym (ap vec_items w.nodes-is) in
          settle_over sorted i x (omega arith) c.node-item.is (vec_items c.if-is_last.nodes) first (vec_items c.loop-node.passed) _ _
          (w.if-is_last.ensures ∙ slice ∙ ap (λ l. is_last (last_path (map entry l)) (names_of x.path)) same)
          (ap (λ (t : Bytes). record { path = t; reason = Repeated }) (w.in_ok-path.ensures.items ∙ w.as_bytes.ensures))
          (ap vec_items w.passed-is ∙ w.in_ok-push.ensures.items)
          (subst (λ l. SettleNodes l sorted i) same inv.0) (subst (λ l. SettlePassed l (vec_items c.loop-node.passed) first sorted i) same inv.1)
      | else-is_last+in_ok-push-2 w ↦
          settle_keep sorted i x (omega arith) c.node-item.is (vec_items c.loop-node.nodes) first (vec_items c.if-is_last.passed) _
          (w.if-is_last.ensures ∙ slice)
          (ap vec_items w.nodes-is ∙ w.in_ok-push-2.ensures.items)
          inv.0 (subst (λ l. SettlePassed (vec_items c.loop-node.nodes) l first sorted i) (sym (ap vec_items w.passed-is)) inv.1)
    ]
