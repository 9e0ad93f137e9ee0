use Rattle.std.proofs.Common.{◌≡◌, ◌++◌, map, drop, vec_items}
use Rattle.classes.specs.Classes.{told}
use Rattle.console.specs.Reports.{passed_lines}
use Rattle.console.proofs.report.push_passed.Given as goal

abbrev pub invariant-loop-one : goal.invariant-loop-one
invariant-loop-one l = vec_items l.out ++ passed_lines (map told (drop l.one-index l.passed)) ≡ vec_items l.initial.out ++ passed_lines (map told l.passed)
