use Rattle.std.proofs.Common.{◌*◌, ◌<◌, unwrap_or, sym, ap, ◌∙◌, rules, arith}
use Rattle.images.specs.Layout.{key_in}
use Rattle.images.proofs.Spelling.{length-listed, listed_past, pair-placed, pair_there, place_fits}
use Rattle.images.proofs.store.ImagePairRun.key_at.Goals as goal

pub returns-then-i-count : goal.returns-then-i-count
returns-then-i-count c =
    let s = c.args.self.now in
    let n = unwrap_or s.count 0 in
    sym (listed_past s.bytes.now 0 n c.args.i (omega (arith, c.count.ensures ∙ length-listed s.bytes.now 0 n))).0

pub overflow_mul-i : goal.overflow_mul-i
overflow_mul-i c =
    let s = c.args.self.now in
    let n = unwrap_or s.count 0 in
    let h : 15 * c.args.i < 4194304 = place_fits s.bytes.now s.count c.args.i s.stands (omega (arith, c.count.ensures ∙ length-listed s.bytes.now 0 n)) in
    search rules

pub new-requires : goal.new-requires
new-requires c =
    let s = c.args.self.now in
    let n = unwrap_or s.count 0 in
    pair-placed s.bytes.now s.count c.args.i s.stands (omega (arith, c.count.ensures ∙ length-listed s.bytes.now 0 n))

pub returns : goal.returns
returns c =
    let s = c.args.self.now in
    let n = unwrap_or s.count 0 in
    c.key.ensures ∙ ap (λ b. key_in b c.new.result.at) c.new.ensures.0 ∙ ap (key_in s.bytes.now) c.new.ensures.1
    ∙ (pair_there s.bytes.now n c.args.i (omega (arith, c.count.ensures ∙ length-listed s.bytes.now 0 n))).0
