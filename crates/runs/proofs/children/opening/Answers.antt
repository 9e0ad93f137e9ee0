use Rattle.std.proofs.Common.{rules, ◌-◌, ◌<◌, ◌≤◌, length, sym, ap, ◌∙◌, arith}
use Rattle.text.specs.Bytes.{before}
use Rattle.runs.proofs.Parted.{begins-within}
use Rattle.runs.proofs.Offspring.{passed_start}
use Rattle.runs.proofs.Turns.{turn_under, turn_plain, turn_child, turn_long, turn_on, turn_skip, child_is}
use Rattle.runs.proofs.children.opening.Goals as goal

pub loop-i-init : goal.loop-i-init
loop-i-init g c =
    let s = c.seek-i.ensures in
    (s.within, passed_start (g.R.PairRun.pairs c.args.run.now) c.args.prefix.now c.args.after.now c.seek-i.result s, s.high)

pub returns-then-not-begins_with : goal.returns-then-not-begins_with
returns-then-not-begins_with g c =
    let r = c.args.run.now in
    turn_under (g.R.PairRun.pairs r) (g.R.PairRun.lawful r).ascends c.args.prefix.now c.args.after.now c.loop-i.i c.loop-i.invariant.1
    c.key_at-key.result.now c.key_at-key.ensures (omega arith) (c.loop-i.invariant.2 c.loop-i.i (omega arith) (omega arith)) c.if-not-begins_with.ensures

pub slice_bounds-rest-count : goal.slice_bounds-rest-count
slice_bounds-rest-count g c = begins-within c.args.prefix.now c.key_at-key.result.now (sym c.if-not-begins_with.ensures)

pub slice_bounds-rest-start : goal.slice_bounds-rest-start
slice_bounds-rest-start g c =
    let h : length c.args.prefix.now ≤ length c.key_at-key.result.now = begins-within c.args.prefix.now c.key_at-key.result.now (sym c.if-not-begins_with.ensures) in
    search rules

pub loop-i-preserved-in-None : goal.loop-i-preserved-in-None
loop-i-preserved-in-None g c =
    let r = c.args.run.now in (
      omega arith,
      turn_plain (g.R.PairRun.pairs r) (g.R.PairRun.lawful r).ascends c.args.prefix.now c.args.after.now c.loop-i.i c.loop-i.invariant.1
          c.key_at-key.result.now c.key_at-key.ensures c.if-not-begins_with.ensures c.in-None.ensures,
      λ j h l. c.loop-i.invariant.2 j (omega arith) l,
    )

pub returns-then-is_before : goal.returns-then-is_before
returns-then-is_before g c =
    let r = c.args.run.now in
    let ps = g.R.PairRun.pairs r in
    let a = (g.R.PairRun.lawful r).ascends in
    let p = c.args.prefix.now in
    let t = c.args.after.now in
    let d = c.loop-i.invariant.1 in
    let k = c.key_at-key.result.now in
    let b = c.if-not-begins_with.ensures in
    let n = c.in-Some.n in (
      omega arith,
      d,
      turn_long ps a p t c.loop-i.i d k c.key_at-key.ensures b n c.in-Some.ensures,
      turn_child ps a p t c.loop-i.i d k c.key_at-key.ensures b n c.in-Some.ensures,
      ap (before t) (sym (child_is ps a p t c.loop-i.i d k c.key_at-key.ensures b n c.in-Some.ensures)) ∙ sym c.if-is_before.ensures,
    )

pub loop-i-smaller : goal.loop-i-smaller
loop-i-smaller g c =
    let r = c.args.run.now in
    let ps = g.R.PairRun.pairs r in
    let s = c.seek-i-in-Some in
    let on : c.loop-i.i < s.result = turn_on ps (g.R.PairRun.lawful r).ascends c.args.prefix.now c.args.after.now c.loop-i.i c.loop-i.invariant.1 c.key_at-key.result.now c.key_at-key.ensures c.if-not-begins_with.ensures c.in-Some.n c.in-Some.ensures (omega arith) s.result _ s.ensures (omega arith) in
    let w : s.result ≤ length ps = s.ensures.within in
    let less : length ps - s.result < length ps - c.loop-i.i = omega arith in
    less

pub loop-i-preserved : goal.loop-i-preserved
loop-i-preserved g c =
    let r = c.args.run.now in
    let ps = g.R.PairRun.pairs r in
    let a = (g.R.PairRun.lawful r).ascends in
    let s = c.seek-i-in-Some in
    let on : c.loop-i.i < s.result = turn_on ps a c.args.prefix.now c.args.after.now c.loop-i.i c.loop-i.invariant.1 c.key_at-key.result.now c.key_at-key.ensures c.if-not-begins_with.ensures c.in-Some.n c.in-Some.ensures (omega arith) s.result _ s.ensures (omega arith) in (
      s.ensures.within,
      turn_skip ps a c.args.prefix.now c.args.after.now c.loop-i.i c.loop-i.invariant.1 c.key_at-key.result.now c.key_at-key.ensures c.if-not-begins_with.ensures c.in-Some.n c.in-Some.ensures (omega arith) s.result s.ensures c.if-is_before.ensures,
      λ j h l. c.loop-i.invariant.2 j (omega arith) l,
    )
