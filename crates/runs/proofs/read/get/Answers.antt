use Rattle.std.proofs.Common.{◌≡◌, length, Some, None, Ok, sym, ap, ◌∙◌}
use Rattle.text.specs.Bytes.{Bytes}
use Rattle.stores.specs.Answers.{Found, got, fitted, answer, filled}
use Rattle.runs.proofs.Found.{got_of}
use Rattle.runs.proofs.read.get.Goals as goal

pub returns-in-None : goal.returns-in-None
returns-in-None g c =
    let ps = g.R.PairRun.pairs c.args.run.now in
    let k : Bytes = c.args.key.now in
    let b : Bytes = c.args.buf.now in
    let e : got 400 ps k (length b) ≡ Ok None = got_of ps k (length b) None (sym c.if-not-is_key.ensures) c.in-None.ensures in
    record { answers = sym (ap answer e); fills = sym (ap (λ (f : Found). filled f b) e) }

pub returns-in-Some : goal.returns-in-Some
returns-in-Some g c =
    let ps = g.R.PairRun.pairs c.args.run.now in
    let k : Bytes = c.args.key.now in
    let b : Bytes = c.args.buf.now in
    let v : Bytes = c.value_at.result.now in
    let e : got 400 ps k (length b) ≡ fitted (length b) (Some v) = got_of ps k (length b) (Some v) (sym c.if-not-is_key.ensures) (c.in-Some.ensures.2 ∙ ap Some (sym c.value_at.ensures)) in
    record { answers = c.hand_out.ensures.answers ∙ sym (ap answer e); fills = c.hand_out.ensures.fills ∙ sym (ap (λ (f : Found). filled f b) e) }
