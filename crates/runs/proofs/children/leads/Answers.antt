use Rattle.std.proofs.Common.{◌≡◌, ℕ, Bool, true, false, [], ◌∷◌, ◌++◌, nat_lt, sym, ap, ◌∙◌, subst, arith}
use Rattle.std.proofs.lemmas.Bool.Decides.{nat_tests}
use Rattle.text.specs.Bytes.{Bytes, before}
use Rattle.runs.specs.Openings.{Leads}
use Rattle.runs.specs.Places.{key_at}
use Rattle.runs.proofs.Offspring.{leads_end, leads_here, leads_past}
use Rattle.runs.proofs.children.leads.Goals as goal

pub returns-else-i-count : goal.returns-else-i-count
returns-else-i-count g c =
    let s = c.args.run.now in
    let e : nat_lt c.seek-i.result c.count.result ≡ false = grind (arith, nat_tests) in
    subst (λ (b : Bool). Leads (g.R.PairRun.pairs s) c.args.text.now b) (sym e) (leads_end (g.R.PairRun.pairs s) (g.R.PairRun.lawful s).ascends c.args.text.now c.seek-i.result c.seek-i.ensures (omega arith))

pub returns-then-i-count : goal.returns-then-i-count
returns-then-i-count g c =
    let s = c.args.run.now in
    let ps = g.R.PairRun.pairs s in
    let a = (g.R.PairRun.lawful s).ascends in
    let t : Bytes = c.args.text.now in
    let i : ℕ = c.seek-i.result in
    let e : c.comes_before.result ≡ before (key_at ps i) (t ++ (48 ∷ [])) = c.comes_before.ensures ∙ ap (λ (k : Bytes). before k (t ++ (48 ∷ []))) c.key_at.ensures in
    (elim c.comes_before.result as (λ (b : Bool). b ≡ before (key_at ps i) (t ++ (48 ∷ [])) → Leads ps t b) [
      | true ↦ λ q. leads_here ps a t i c.seek-i.ensures (omega arith) (sym q)
      | false ↦ λ q. leads_past ps a t i c.seek-i.ensures (sym q)
    ]) e
