use Rattle.std.proofs.Common.{ℕ, ◌+◌, ◌≤◌, ◌++◌, length, arith}
use Rattle.text.specs.Bytes.{Bytes}
use Rattle.paths.proofs.Padding.{padded_text, padded_clean, padded_long, three_long}
use Rattle.paths.proofs.inline.Inline.of.Goals as goal

pub invariant_of-result : goal.invariant_of-result
invariant_of-result g c =
    let w : Bytes = c.args.front.now ++ (c.args.middle.now ++ c.args.back.now) in
    let n : ℕ = length c.args.front.now + length c.args.middle.now + length c.args.back.now in
    let long = three_long c.args.front.now c.args.middle.now c.args.back.now in
    let fits : n ≤ g.row.N = omega arith in record { few = fits; long = padded_long w c.filled-bytes.result n g.row.N long fits c.filled-bytes.ensures; clean = padded_clean w c.filled-bytes.result n g.row.N long fits c.filled-bytes.ensures }

pub returns : goal.returns
returns g c =
    let w : Bytes = c.args.front.now ++ (c.args.middle.now ++ c.args.back.now) in
    let n : ℕ = length c.args.front.now + length c.args.middle.now + length c.args.back.now in
    let fits : n ≤ g.row.N = omega arith in
    padded_text w c.filled-bytes.result n g.row.N (three_long c.args.front.now c.args.middle.now c.args.back.now) fits c.filled-bytes.ensures
