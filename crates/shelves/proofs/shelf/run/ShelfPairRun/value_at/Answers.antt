use Rattle.std.proofs.Common.{◌≡◌, ◌+◌, ◌-◌, ◌≤◌, [], length, take, drop, sym, ap, ◌∙◌, arith, rules}
use Rattle.std.proofs.lemmas.List.{get_or_past}
use Rattle.stores.specs.Pairs.{Pair, pair}
use Rattle.shelves.specs.declared.slot.Slot.{Slot}
use Rattle.shelves.specs.Meant.{pairs_in}
use Rattle.shelves.proofs.Changed.{many, inside, pair_at_lem}
use Rattle.shelves.proofs.shelf.run.ShelfPairRun.value_at.Goals as goal

pub returns-in_default : goal.returns-in_default
returns-in_default c =
    let s = c.args.self.now in
    let l = many s in
    ap (λ (a : Pair). a.value) (sym (get_or_past (pairs_in s) c.args.i (pair [] []) (omega (arith, l, c.in_default.ensures))))

pub overflow_add-result : goal.overflow_add-result
overflow_add-result c =
    let s = c.args.self.now in
    let x = c.in-Some.slot.now in
    let e = c.in-Some.ensures in
    let z = inside s c.args.i x e.0 in
    let p = ap (λ (y : Slot). y.span.place) (e.1 x) in
    let n = ap (λ (y : Slot). y.span.size) (e.1 x) in
    let le : x.span.place + x.span.size ≤ length s.bytes.now = omega (arith, z.1, p, n, s.short) in
    search rules

pub slice_bounds-result-end-2 : goal.slice_bounds-result-end-2
slice_bounds-result-end-2 c =
    let s = c.args.self.now in
    let x = c.in-Some.slot.now in
    let e = c.in-Some.ensures in
    let z = inside s c.args.i x e.0 in
    let p = ap (λ (y : Slot). y.span.place) (e.1 x) in
    let n = ap (λ (y : Slot). y.span.size) (e.1 x) in
    let le : x.span.place + x.span.size ≤ length s.bytes.now = omega (arith, z.1, p, n, s.short) in
    search rules

pub returns : goal.returns
returns c =
    let s = c.args.self.now in
    let x = c.in-Some.slot.now in
    let f = c.in-Some.ensures in
    let e : x.span.place + x.span.size - x.span.place ≡ x.span.size = omega arith in
    ap (λ m. take m (drop x.span.place s.bytes.now)) e ∙ ap (λ (a : Pair). a.value) (sym (pair_at_lem s c.args.i x (pair [] []) f.0 f.1))
