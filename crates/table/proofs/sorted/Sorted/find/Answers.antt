use Rattle.std.proofs.Common.{length, subst, rules}
use Rattle.std.specs.List.Sorted.{IsBinarySearchResult, IsSearchInRange}
use Rattle.std.proofs.lemmas.Fn.{always_returns_same}
use Rattle.table.specs.Order.{before, ranked}
use Rattle.table.specs.Total.{total_chain}
use Rattle.table.proofs.Searching.{located}
use Rattle.table.proofs.sorted.Sorted.find.Goals as goal

pub returns : goal.returns
returns g c =
    let r = c.binary_search_by.result in
    let e = c.records.ensures in
    let at = λ (y : g.row.T.Denot). ranked (before g.T.Ord.cmp) y c.args.x.now in
    located (before g.T.Ord.cmp) (total_chain g.met.T.Ord.total) _ _ _ r c.args.self.now.ascends c.args.self.now.within
    (subst (λ xs. IsSearchInRange r (length xs)) e c.binary_search_by.ensures.bound)
    (subst (λ xs. IsBinarySearchResult at xs r) e (c.binary_search_by.ensures.position at (always_returns_same _ _ _ (λ a r f k. search rules))))
