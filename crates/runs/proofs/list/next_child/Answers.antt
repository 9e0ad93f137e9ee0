use Rattle.std.proofs.Common.{◌≡◌, ℕ, ◌+◌, ◌-◌, length, take, drop, Some, None, Ok, Err, sym, ap, ◌∙◌, subst, arith}
use Rattle.std.proofs.lemmas.List.{length-drop, length-take-le}
use Rattle.keys.specs.declared.fault.StoreFault.TheVariants.{Malformed}
use Rattle.text.specs.Bytes.{Bytes}
use Rattle.stores.specs.Answers.{Found, child_after, fitted, answer, filled}
use Rattle.runs.specs.Places.{key_at}
use Rattle.runs.specs.Openings.{First}
use Rattle.runs.proofs.Found.{child_after_of, child_after_malformed}
use Rattle.runs.proofs.Offspring.{none_next, next_child_is}
use Rattle.runs.proofs.list.next_child.Goals as goal

pub returns-then-not-is_prefix : goal.returns-then-not-is_prefix
returns-then-not-is_prefix g c =
    let ps = g.R.PairRun.pairs c.args.run.now in
    let p : Bytes = c.args.prefix.now in
    let a : Bytes = c.args.after.now in
    let b : Bytes = c.args.buf.now in
    let e : child_after 400 ps p a (length b) ≡ Err Malformed = child_after_malformed ps p a (length b) (sym c.if-not-is_prefix.ensures) in
    record { answers = sym (ap answer e); fills = sym (ap (λ (f : Found). filled f b) e) }

pub returns-in-None : goal.returns-in-None
returns-in-None g c =
    let ps = g.R.PairRun.pairs c.args.run.now in
    let p : Bytes = c.args.prefix.now in
    let a : Bytes = c.args.after.now in
    let b : Bytes = c.args.buf.now in
    let e : child_after 400 ps p a (length b) ≡ Ok None = child_after_of ps p a (length b) None (sym c.if-not-is_prefix.ensures) (none_next ps p a c.in-None.ensures) in
    record { answers = sym (ap answer e); fills = sym (ap (λ (f : Found). filled f b) e) }

pub returns-in-Some : goal.returns-in-Some
returns-in-Some g c =
    let s = c.args.run.now in
    let ps = g.R.PairRun.pairs s in
    let p : Bytes = c.args.prefix.now in
    let a : Bytes = c.args.after.now in
    let b : Bytes = c.args.buf.now in
    let i : ℕ = c.in-Some.child.place in
    let n : ℕ = c.in-Some.child.len in
    let m : ℕ = c.shortest-m.result in
    let t : Bytes = take n (drop (length p) (key_at ps i)) in
    let long : length t ≡ n = length-take-le n (drop (length p) (key_at ps i)) (omega (arith, c.in-Some.ensures.2, length-drop (length p) (key_at ps i))) in
    let f : First ps (key_at ps i) (length p) a n m = subst (λ (k : Bytes). First ps k (length p) a n m) c.key_at-key.ensures c.shortest-m.ensures in
    let u : Bytes = take (length p + m - length p) (drop (length p) c.key_at-key.result.now) in
    let ue : take m (drop (length p) (key_at ps i)) ≡ u = ap (λ (x : ℕ). take x (drop (length p) (key_at ps i))) (omega arith) ∙ ap (λ (k : Bytes). take (length p + m - length p) (drop (length p) k)) (sym c.key_at-key.ensures) in
    let e : child_after 400 ps p a (length b) ≡ fitted (length b) (Some u) =
    child_after_of ps p a (length b) (Some u) (sym c.if-not-is_prefix.ensures)
    (next_child_is ps (g.R.PairRun.lawful s).ascends p a i n m c.in-Some.ensures.0 c.in-Some.ensures.1 t c.in-Some.ensures.3 c.in-Some.ensures.4 long f ∙ ap Some ue) in
    record { answers = c.hand_out.ensures.answers ∙ sym (ap answer e); fills = c.hand_out.ensures.fills ∙ sym (ap (λ (x : Found). filled x b) e) }
