use Rattle.std.proofs.Common.{◌≡◌, ◌∙◌, take, ap, sym, rules, tests}
use Rattle.std.proofs.lemmas.Iterator.{YieldsList-from_slice, YieldsList-from_zip}
use Rattle.std.proofs.lemmas.Iterator.Consumers.{count_from_yields_List}
use Rattle.std.proofs.lemmas.Iterator.Search.{YieldsList-from_take_while}
use Rattle.std.proofs.lemmas.List.Folds.{length-prefix_len}
use Rattle.std.specs.List.{zip, prefix_len}
use Rattle.text.proofs.Shared.{alike, shared_take}
use Rattle.text.proofs.bytes.shared_len.Goals as goal

pub returns-clause-shared : goal.returns-clause-shared
returns-clause-shared c =
    let a = c.args.a.now in
    let b = c.args.b.now in
    let n : c.count.result ≡ prefix_len alike (zip a b) = count_from_yields_List c.take_while.result _ c.count.ensures.ran (YieldsList-from_take_while _ alike (YieldsList-from_zip (YieldsList-from_slice a cc) (YieldsList-from_slice b cc)) c.take_while.ensures.closure c.take_while.ensures.done (λ x b q k. search (rules, tests))) ∙ length-prefix_len alike (zip a b) in
    ap (λ m. take m a) n ∙ shared_take a b ∙ sym (ap (λ m. take m b) n)
