use Rattle.std.proofs.Common.{◌+◌, ◌≤◌, length, sym, ap, ◌∙◌, arith, length-take}
use Rattle.text.specs.Bytes.{Bytes}
use Rattle.paths.specs.Paths.{is_path_text, names_in}
use Rattle.paths.proofs.Padding.{three_long}
use Rattle.paths.proofs.node_path.make.build.Goals as goal

pub invariant_of-result : goal.invariant_of-result
invariant_of-result c =
    let e = rw c.in_ok-text.ensures.ok_part at c.of.ensures in
    let l : length c.args.front.now + length c.args.middle.now + length c.args.back.now ≤ 255 =
    omega (arith, three_long c.args.front.now c.args.middle.now c.args.back.now, ap length e, length-take c.in_ok-text.text.len c.in_ok-text.text.bytes, c.in_ok-text.text.few) in
    record { valid = ap is_path_text e ∙ c.requires.0 l; counted = c.requires.1 ∙ sym (ap (λ (u : Bytes). length (names_in u)) e) }
