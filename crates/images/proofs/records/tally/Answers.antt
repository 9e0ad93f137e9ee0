use Rattle.std.proofs.Common.{◌≡◌, true, false, ap, ◌∙◌, ◌*◌, subst, ℕ, arith}
use Rattle.std.specs.Slice.Iter.{chunks_rest, chunks_size}
use Rattle.std.specs.Iterator.Adapters.{enumerate_count, enumerate_source}
use Rattle.images.specs.Layout.{key_in}
use Rattle.images.specs.Tests.{good_at}
use Rattle.images.proofs.Counting.{long_none, ahead_none, ended, spoilt, ahead_more, run_out}
use Rattle.images.proofs.records.tally.Goals as goal

pub returns-then-image-gt-LONGEST : goal.returns-then-image-gt-LONGEST
returns-then-image-gt-LONGEST c = long_none c.args.image.now (omega arith)

pub loop-n-init : goal.loop-n-init
loop-n-init c =
    let g = c.into_iter-n-iterator.ensures.into_iter_gives in
    let e = c.enumerate-n-items.ensures in
    let s = ap enumerate_source g ∙ e.source in
    ahead_none c.args.image.now _ _ _ (ap chunks_size s ∙ c.chunks.ensures.size) (ap chunks_rest s ∙ c.chunks.ensures.rest) (ap enumerate_count g ∙ e.count)

pub returns-then-record-eq0 : goal.returns-then-record-eq0
returns-then-record-eq0 c =
    let s = c.in-Some.ensures.steps in
    ended c.args.image.now (chunks_size (enumerate_source c.loop-n.n-iterator)) (chunks_rest (enumerate_source c.loop-n.n-iterator)) (enumerate_count c.loop-n.n-iterator) c.loop-n.last.now c.loop-n.invariant c.in-Some.record.now (chunks_rest (enumerate_source c.next.new.self)) c.in-Some.n s.0.1.0 s.0.1.1 s.0.1.2 s.1 c.if-record-eq0.true (omega arith)

pub returns-in_err-next : goal.returns-in_err-next
returns-in_err-next c =
    let s = c.in-Some.ensures.steps in
    let g = subst (λ (x : ℕ). good_at c.loop-n.last.now c.args.image.now (15 * x) ≡ false) s.1 c.in_err-next.ensures in
    rw c.from_residual.ensures (λ m. spoilt c.args.image.now (chunks_size (enumerate_source c.loop-n.n-iterator)) (chunks_rest (enumerate_source c.loop-n.n-iterator)) (enumerate_count c.loop-n.n-iterator) c.loop-n.last.now c.loop-n.invariant c.in-Some.record.now (chunks_rest (enumerate_source c.next.new.self)) m s.0.1.0 s.0.1.1 s.0.1.2 c.if-record-eq0.false (omega arith) g)

pub loop-n-preserved : goal.loop-n-preserved
loop-n-preserved c =
    let s = c.in-Some.ensures.steps in
    let r = c.in_ok-next.field-0 in
    let g = c.in_ok-next.ensures in
    let at = g.2 ∙ ap (λ (x : ℕ). 15 * x) s.1 in
    ahead_more c.args.image.now (chunks_size (enumerate_source c.loop-n.n-iterator)) (chunks_rest (enumerate_source c.loop-n.n-iterator)) (enumerate_count c.loop-n.n-iterator) c.loop-n.last.now c.loop-n.invariant (chunks_size (enumerate_source c.next.new.self)) c.in-Some.record.now (chunks_rest (enumerate_source c.next.new.self)) (enumerate_count c.next.new.self) c.key-last.result.now s.0.0 s.0.1.0 s.0.1.1 s.2 (c.key-last.ensures ∙ ap (λ b. key_in b r.at) g.1 ∙ ap (key_in c.args.image.now) at) (subst (λ (x : ℕ). good_at c.loop-n.last.now c.args.image.now (15 * x) ≡ true) s.1 g.0)

pub returns : goal.returns
returns c =
    let s = c.in-None.ensures.steps in
    run_out c.args.image.now (chunks_size (enumerate_source c.loop-n.n-iterator)) (chunks_rest (enumerate_source c.loop-n.n-iterator)) (enumerate_count c.loop-n.n-iterator) c.loop-n.last.now c.loop-n.invariant s.0.1.0 (omega arith)
