use Rattle.std.proofs.Common.{rules, ◌≡◌, ◌∙◌, arith, lt-ltb}
use Rattle.keys.specs.declared.fault.StoreFault.TheVariants.{Row as NoRow}
use Rattle.keys.specs.Keys.{prefix_or_fault}
use Rattle.fences.proofs.Fronts.{raises, raise_malformed, passed_on, not_ok, told_by, row_refused}
use Rattle.fences.proofs.table.Rows.raise.Goals as goal

pub returns : goal.returns
returns c =
    let e = passed_on c.new.result c.in_ok-prefix.prefix (prefix_or_fault c.args.prefix.now) c.in_ok-prefix.ensures.cases c.new.ensures in
    let w = raises c.args.self.now.rows c.args.row c.args.prefix.now c.in_ok-prefix.prefix (lt-ltb c.args.row 16 (omega arith)) e in
    record { answers = w.0; changes = w.1 }

pub returns-in_err-prefix : goal.returns-in_err-prefix
returns-in_err-prefix c =
    let t = not_ok c.new.result c.in_err-prefix.field-0.0 _ c.in_err-prefix.ensures.cases in
    let u = told_by c.new.result c.in_err-prefix.field-0.0 _ (c.in_err-prefix.field-0.0 ≡ NoRow) c.in_err-prefix.ensures.cases (λ e q. search rules) in
    let w = raise_malformed c.args.self.now.rows c.args.row c.args.prefix.now c.new.result (lt-ltb c.args.row 16 (omega arith)) t c.new.ensures in
    record { answers = row_refused c.from_residual.result c.in_err-prefix.field-0.0 c.from_residual.ensures.1 u ∙ w.0; changes = w.1 }
