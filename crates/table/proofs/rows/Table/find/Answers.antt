use Rattle.std.proofs.Common.{length, subst, rules}
use Rattle.std.specs.List.Sorted.{IsBinarySearchResult, IsSearchInRange}
use Rattle.std.proofs.lemmas.Fn.{always_returns_same}
use Rattle.table.specs.Order.{ranked}
use Rattle.table.proofs.Searching.{located}
use Rattle.table.proofs.rows.Table.find.Goals as goal

pub returns-clause-place : goal.returns-clause-place
returns-clause-place g c up =
    let r = c.binary_search_by.result in
    let e = c.records.ensures in
    let at = λ (y : g.row.T.Denot). ranked g.T.OrderedBy.before y c.args.x.now in
    located g.T.OrderedBy.before g.met.T.OrderedBy.chain _ _ _ r up c.args.self.now.within
    (subst (λ xs. IsSearchInRange r (length xs)) e c.binary_search_by.ensures.bound)
    (subst (λ xs. IsBinarySearchResult at xs r) e (c.binary_search_by.ensures.position at (always_returns_same _ _ _ (λ a r f k. search rules))))
