use Rattle.std.proofs.Common.{◌≡◌, ℕ, ◌+◌, Bool, true, false, cond, eqb, length, Some, None, sym, ap, ◌∙◌, rules, tests}
use Rattle.std.proofs.lemmas.Iterator.Consumers.{YieldsList-turn, YieldsList-end}
use Rattle.std.proofs.lemmas.Iterator.Splits.{YieldsList-from_slice_split}
use Rattle.std.proofs.lemmas.List.{length_push}
use Rattle.std.specs.Slice.Iter.{split_rest, split_done, split_callee}
use Rattle.paths.specs.Paths.{are_names, split}
use Rattle.paths.proofs.Scans.{split_is, names_push, unlawful}
use Rattle.paths.proofs.node_path.make.count_names.Goals as goal

pub returns-then-not-validate : goal.returns-then-not-validate
returns-then-not-validate c =
    let t = YieldsList-turn (YieldsList-from_slice_split {s = c.into_iter-name-iterator.result} _ (λ b. eqb b 47) c.args.text.now (ap split_rest c.into_iter-name-iterator.ensures.into_iter_gives ∙ c.split-name-items.ensures.rest) (ap split_done c.into_iter-name-iterator.ensures.into_iter_gives ∙ c.split-name-items.ensures.done) (ap split_callee c.into_iter-name-iterator.ensures.into_iter_gives ∙ c.split-name-items.ensures.closure) (λ x b q k. search (rules, tests))) c.loop-name.yielded _ c.loop-name.yielded_by _ _ c.in-Some.name c.in-Some.is c.next.ensures.steps in
    let f : are_names (split c.args.text.now) ≡ false = ap are_names (sym (split_is c.args.text.now)) ∙ unlawful _ _ _ t.0 t.1 (sym c.if-not-validate.ensures) in
    sym (ap (λ (b : Bool). cond b (Some (length (split c.args.text.now))) None) f)

pub loop-name-preserved : goal.loop-name-preserved
loop-name-preserved c =
    (ap (λ (n : ℕ). n + 1) c.loop-name.invariant.0 ∙ sym (length_push c.loop-name.yielded c.in-Some.name), names_push c.loop-name.yielded c.in-Some.name c.loop-name.invariant.1 (sym c.if-not-validate.ensures))

pub returns : goal.returns
returns c =
    let t = YieldsList-end (YieldsList-from_slice_split {s = c.into_iter-name-iterator.result} _ (λ b. eqb b 47) c.args.text.now (ap split_rest c.into_iter-name-iterator.ensures.into_iter_gives ∙ c.split-name-items.ensures.rest) (ap split_done c.into_iter-name-iterator.ensures.into_iter_gives ∙ c.split-name-items.ensures.done) (ap split_callee c.into_iter-name-iterator.ensures.into_iter_gives ∙ c.split-name-items.ensures.closure) (λ x b q k. search (rules, tests))) c.loop-name.yielded _ c.loop-name.yielded_by _ _ c.in-None.is c.next.ensures.steps in
    let f : are_names (split c.args.text.now) ≡ true = ap are_names (sym (split_is c.args.text.now)) ∙ ap are_names (sym t.0) ∙ c.loop-name.invariant.1 in
    let n : c.loop-name.count ≡ length (split c.args.text.now) = c.loop-name.invariant.0 ∙ t.1 ∙ ap length (split_is c.args.text.now) in
    ap (λ (k : ℕ). Some k) n ∙ sym (ap (λ (b : Bool). cond b (Some (length (split c.args.text.now))) None) f)
