use Rattle.std.proofs.Common.{[], sym, ap, ◌∙◌, arith}
use Rattle.std.proofs.lemmas.List.{get_or_past}
use Rattle.stores.specs.Pairs.{Pair, pair}
use Rattle.shelves.specs.Meant.{pairs_in}
use Rattle.shelves.proofs.Changed.{many, pair_at_lem}
use Rattle.shelves.proofs.shelf.run.ShelfPairRun.key_at.Goals as goal

pub returns-in-None : goal.returns-in-None
returns-in-None c =
    let s = c.args.self.now in
    let l = many s in
    ap (λ (a : Pair). a.key) (sym (get_or_past (pairs_in s) c.args.i (pair [] []) (omega (arith, l, c.in-None.ensures))))

pub returns-in-Some : goal.returns-in-Some
returns-in-Some c =
    let s = c.args.self.now in
    let e = c.in-Some.ensures in
    c.as_bytes.ensures ∙ ap (λ (a : Pair). a.key) (sym (pair_at_lem s c.args.i c.in-Some.slot.now (pair [] []) e.0 e.1))
