use Rattle.std.proofs.Common.{ℕ, ◌<◌, ◌≤◌, true, false, rules, Some, None, Option, MatchOption, subst, arith, sym}
use Rattle.std.proofs.lemmas.Iterator.{first_from_Range}
use Rattle.std.specs.Option.{unwrap_or}
use Rattle.text.specs.Bytes.{Bytes}
use Rattle.stores.specs.Pairs.{Pairs}
use Rattle.runs.specs.Openings.{Offers, First}
use Rattle.runs.proofs.children.shortest.Goals as goal

first_of_found : (ps : Pairs) (key : Bytes) (from : ℕ) (after : Bytes) (n : ℕ) (r : Option ℕ)
    → MatchOption r ((k : ℕ) → 0 ≤ k → k < n → Offers ps key from after k false) (λ i. (0 ≤ i) × (i < n) × Offers ps key from after i true × ((k : ℕ) → 0 ≤ k → k < i → Offers ps key from after k false))
    → First ps key from after n (unwrap_or r n)
first_of_found ps key from after n None h = record { within = omega arith; low = λ m l. h m (omega arith) l; here = λ l. absurd (omega arith) }
first_of_found ps key from after n (Some i) h = record { within = omega arith; low = λ m l. h.3 m (omega arith) l; here = λ l. h.2 }

pub returns : goal.returns
returns g c =
    let ps = g.R.PairRun.pairs c.args.run.now in
    let k : Bytes = c.args.key.now in
    let a : Bytes = c.args.after.now in
    let f = first_from_Range _ _ _ c.find.result (λ m. Offers ps k c.args.from a m true) (λ m. Offers ps k c.args.from a m false) c.find.ensures.ran (λ x q h. search rules) (λ x q h. search rules) in
    subst (λ (m : ℕ). First ps k c.args.from a c.args.n m) (sym c.unwrap_or.ensures) (first_of_found ps k c.args.from a c.args.n c.find.result f)
