use Rattle.std.proofs.Common.{arith, ℕ, Bool, drop, sym, ap, ◌∙◌}
use borrow.Author.Tests.{eq-eqb, eqb-true}
use Rattle.std.proofs.lemmas.Bool.{both_ways}
use Rattle.text.specs.Bytes.{Bytes}
use Rattle.keys.specs.Keys.{ends_fresh}
use Rattle.keys.proofs.KeyScans.{refused_here, one_on, at_end}
use Rattle.keys.proofs.store_key.make.ends_fresh.Goals.{else-fresh-via-then-fresh+else-slash, else-fresh-via-else-fresh}
use Rattle.keys.proofs.store_key.make.ends_fresh.Goals as goal

pub returns-then-slash : goal.returns-then-slash
returns-then-slash c =
    let t : Bytes = c.args.text.now in
    let i : ℕ = c.loop-b.b-index in
    sym (c.loop-b.invariant ∙ ap (λ (f : Bool). ends_fresh f (drop i t)) c.if-fresh.true ∙ refused_here t i (omega arith) (eq-eqb _ _ c.if-slash.true))

pub loop-b-preserved : goal.loop-b-preserved
loop-b-preserved c =
    let t : Bytes = c.args.text.now in
    let i : ℕ = c.loop-b.b-index in
    c.loop-b.invariant
    ∙ one_on c.loop-b.fresh t i (omega arith) (λ f s. elim c.else-fresh.branch [ else-fresh-via-then-fresh+else-slash w ↦ w.if-slash.false (eqb-true _ _ s) | else-fresh-via-else-fresh w ↦ both_ways c.loop-b.fresh w.if-fresh.false f ])

pub returns : goal.returns
returns c = sym (c.loop-b.invariant ∙ at_end c.loop-b.fresh c.args.text.now c.loop-b.b-index (omega arith))
