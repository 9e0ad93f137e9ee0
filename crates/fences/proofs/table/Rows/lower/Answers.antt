use Rattle.std.proofs.Common.{arith, lt-ltb}
use Rattle.fences.proofs.Fronts.{lowers}
use Rattle.fences.proofs.table.Rows.lower.Goals as goal

pub returns : goal.returns
returns c =
    let w = lowers c.args.self.now.rows c.args.row _ (lt-ltb c.args.row 16 (omega arith)) (omega (arith, c.args.self.now.size)) in
    record { answers = w.0; changes = w.1 }
