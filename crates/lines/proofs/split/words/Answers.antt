use Rattle.std.proofs.Common.{eqb, [], ◌∷◌, ◌++◌, map, vec_items, sym, ap, ◌∙◌, rules, tests}
use Rattle.std.proofs.lemmas.Iterator.Consumers.{YieldsList-end}
use Rattle.std.proofs.lemmas.Iterator.Splits.{YieldsList-from_slice_split}
use Rattle.text.specs.Bytes.{Bytes}
use Rattle.lines.proofs.Cuts.{cut_parts, map_push}
use Rattle.lines.proofs.split.words.Goals as goal

pub loop-word-preserved : goal.loop-word-preserved
loop-word-preserved c =
    let so_far = c.loop-word.yielded in
    let word = c.in_ok-from_slice.field-0 in
    ap (map vec_items) c.in_ok-push.ensures.items ∙ map_push vec_items (vec_items c.loop-word.words) word
    ∙ ap (λ t. t ++ (vec_items word ∷ [])) c.loop-word.invariant
    ∙ ap (λ (q : Bytes). map (λ x. x.now) so_far ++ (q ∷ [])) c.in_ok-from_slice.ensures.items
    ∙ sym (map_push (λ x. x.now) so_far c.in-Some.word)

pub returns : goal.returns
returns c =
    let line = c.args.line.now in
    let given = YieldsList-from_slice_split _ (λ b. eqb b 32) line (cc) (cc) (cc) (λ x b q k. search (rules, tests)) in
    c.loop-word.invariant ∙ (YieldsList-end given c.loop-word.yielded _ c.loop-word.yielded_by _ _ c.in-None.is c.next.ensures.steps).0 ∙ sym (cut_parts line)
