use Rattle.std.proofs.Common.{sym, ◌∙◌, ne_eqb, rules, tests}
use Rattle.std.specs.Char.{is_ascii_hexdigit}
use Rattle.std.proofs.lemmas.Iterator.{YieldsList-from_slice}
use Rattle.std.proofs.lemmas.Iterator.Search.{all_from_yields_List}
use Rattle.lines.proofs.Spellings.{even_hex, odd_hex}
use Rattle.lines.proofs.word.spelling.are_hex.Goals as goal

pub returns-then-digits-eq0 : goal.returns-then-digits-eq0
returns-then-digits-eq0 c =
    let s = c.args.digits.now in
    all_from_yields_List is_ascii_hexdigit _ _ _ c.all.ensures.ran (YieldsList-from_slice s cc) (λ x b q k. search (rules, tests)) ∙ sym (even_hex s c.if-digits-eq0.true)

pub returns-else-digits-eq0 : goal.returns-else-digits-eq0
returns-else-digits-eq0 c = ne_eqb _ 0 c.if-digits-eq0.false ∙ sym (odd_hex c.args.digits.now c.if-digits-eq0.false)
