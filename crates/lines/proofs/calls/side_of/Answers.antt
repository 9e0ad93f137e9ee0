use Rattle.std.proofs.Common.{sym, ◌∙◌}
use Rattle.lines.proofs.Texts.{no_side, refused}
use Rattle.lines.proofs.calls.side_of.Goals as goal

pub returns-in_err-ok : goal.returns-in_err-ok
returns-in_err-ok c = c.from_residual.ensures ∙ sym (no_side c.args.word.now (refused c.from_utf8.result _ _ _ c.from_utf8.ensures.cases c.in_err-ok.ensures.variant))
