use Rattle.std.proofs.Common.{◌≡◌, ◌++◌, map, drop, vec_items}
use Rattle.classes.specs.Classes.{entry}
use Rattle.console.specs.Reports.{node_lines}
use Rattle.console.proofs.report.push_node_lines.Given as goal

abbrev pub invariant-loop-number : goal.invariant-loop-number
invariant-loop-number l = vec_items l.out ++ node_lines l.width l.number (map entry (drop l.number l.nodes)) ≡ vec_items l.initial.out ++ node_lines l.width 0 (map entry l.nodes)
