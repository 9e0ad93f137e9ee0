use Rattle.std.proofs.Common.{true, false, sym, refl, ap, ◌∙◌}
use Rattle.text.specs.Bytes.{Bytes, before}
use Rattle.images.specs.Layout.{key_in}
use Rattle.images.proofs.Reading.{good_none, good_here}
use Rattle.images.proofs.records.next.Goals.{else-is_key-via-then-is_key+else-is_before, else-is_key-via-else-is_key}
use Rattle.images.proofs.records.next.Goals as goal

pub returns-in_err-record : goal.returns-in_err-record
returns-in_err-record c = rw c.from_residual.ensures (good_none c.args.last.now c.args.image.now c.args.at c.in_err-record.ensures)

pub returns-then-is_before : goal.returns-then-is_before
returns-then-is_before c =
    let r = c.in_ok-record.record in
    let e = c.in_ok-record.ensures in
    let k = c.key-key.ensures ∙ ap (λ (b : Bytes). key_in b r.at) e.1 ∙ ap (key_in c.args.image.now) e.2 in
    (sym (good_here c.args.last.now c.args.image.now c.args.at c.key-key.result.now true true e.0 k c.if-is_key.ensures c.if-is_before.ensures), e.1, e.2)

pub returns-else-is_key : goal.returns-else-is_key
returns-else-is_key c =
    let r = c.in_ok-record.record in
    let e = c.in_ok-record.ensures in
    let k = c.key-key.ensures ∙ ap (λ (b : Bytes). key_in b r.at) e.1 ∙ ap (key_in c.args.image.now) e.2 in
    let t : Bytes = c.key-key.result.now in
    elim c.else-is_key.branch [
      | else-is_key-via-then-is_key+else-is_before w ↦ sym (good_here c.args.last.now c.args.image.now c.args.at t true false e.0 k w.if-is_key.ensures w.if-is_before.ensures)
      | else-is_key-via-else-is_key w ↦ sym (good_here c.args.last.now c.args.image.now c.args.at t false (before c.args.last.now t) e.0 k w.if-is_key.ensures refl)
    ]
