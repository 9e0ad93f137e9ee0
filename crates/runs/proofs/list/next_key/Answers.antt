use Rattle.std.proofs.Common.{◌≡◌, length, is_some, Some, None, Ok, Err, sym, ap, ◌∙◌, arith}
use Rattle.keys.specs.declared.fault.StoreFault.TheVariants.{Malformed}
use Rattle.text.specs.Bytes.{Bytes, stripped}
use Rattle.stores.specs.Answers.{Found, key_after, fitted, answer, filled}
use Rattle.runs.specs.Places.{key_at}
use Rattle.runs.proofs.Parted.{some_of, none_of}
use Rattle.runs.proofs.Found.{key_after_of, key_after_malformed}
use Rattle.runs.proofs.NextKey.{none_left, none_under, next_here}
use Rattle.runs.proofs.list.next_key.Goals as goal

pub returns-then-not-is_prefix : goal.returns-then-not-is_prefix
returns-then-not-is_prefix g c =
    let ps = g.R.PairRun.pairs c.args.run.now in
    let p : Bytes = c.args.prefix.now in
    let a : Bytes = c.args.after.now in
    let b : Bytes = c.args.buf.now in
    let e : key_after 400 ps p a (length b) ≡ Err Malformed = key_after_malformed ps p a (length b) (sym c.if-not-is_prefix.ensures) in
    record { answers = sym (ap answer e); fills = sym (ap (λ (f : Found). filled f b) e) }

pub returns-then-i-count : goal.returns-then-i-count
returns-then-i-count g c =
    let s = c.args.run.now in
    let ps = g.R.PairRun.pairs s in
    let p : Bytes = c.args.prefix.now in
    let a : Bytes = c.args.after.now in
    let b : Bytes = c.args.buf.now in
    let e : key_after 400 ps p a (length b) ≡ Ok None = key_after_of ps p a (length b) None (sym c.if-not-is_prefix.ensures) (none_left ps (g.R.PairRun.lawful s).ascends p a c.seek-under.result c.seek-behind.result c.max-i.result c.seek-under.ensures c.seek-behind.ensures c.max-i.ensures (omega arith)) in
    record { answers = sym (ap answer e); fills = sym (ap (λ (f : Found). filled f b) e) }

pub returns-then-not-begins_with : goal.returns-then-not-begins_with
returns-then-not-begins_with g c =
    let s = c.args.run.now in
    let ps = g.R.PairRun.pairs s in
    let p : Bytes = c.args.prefix.now in
    let a : Bytes = c.args.after.now in
    let b : Bytes = c.args.buf.now in
    let n = none_of (stripped p (key_at ps c.max-i.result)) (ap (λ (k : Bytes). is_some (stripped p k)) (sym c.key_at-key.ensures) ∙ sym c.if-not-begins_with.ensures) in
    let e : key_after 400 ps p a (length b) ≡ Ok None = key_after_of ps p a (length b) None (sym c.if-not-is_prefix.ensures) (none_under ps (g.R.PairRun.lawful s).ascends p a c.seek-under.result c.seek-behind.result c.max-i.result c.seek-under.ensures c.seek-behind.ensures c.max-i.ensures (omega arith) n) in
    record { answers = sym (ap answer e); fills = sym (ap (λ (f : Found). filled f b) e) }

pub returns : goal.returns
returns g c =
    let s = c.args.run.now in
    let ps = g.R.PairRun.pairs s in
    let p : Bytes = c.args.prefix.now in
    let a : Bytes = c.args.after.now in
    let b : Bytes = c.args.buf.now in
    let k : Bytes = c.key_at-key.result.now in
    let n = some_of (stripped p (key_at ps c.max-i.result)) (ap (λ (x : Bytes). is_some (stripped p x)) (sym c.key_at-key.ensures) ∙ sym c.if-not-begins_with.ensures) in
    let e : key_after 400 ps p a (length b) ≡ fitted (length b) (Some k) = key_after_of ps p a (length b) (Some k) (sym c.if-not-is_prefix.ensures) (next_here ps (g.R.PairRun.lawful s).ascends p a c.seek-under.result c.seek-behind.result c.max-i.result c.seek-under.ensures c.seek-behind.ensures c.max-i.ensures n.0 (omega arith) n.1 ∙ ap Some (sym c.key_at-key.ensures)) in
    record { answers = c.hand_out.ensures.answers ∙ sym (ap answer e); fills = c.hand_out.ensures.fills ∙ sym (ap (λ (f : Found). filled f b) e) }
