use Rattle.std.proofs.Common.{sym, ◌∙◌}
use Rattle.lines.proofs.Texts.{no_file, refused}
use Rattle.lines.proofs.calls.file_of.Goals as goal

pub returns-in_err-ok : goal.returns-in_err-ok
returns-in_err-ok c = c.from_residual.ensures ∙ sym (no_file c.args.word.now (refused c.from_utf8.result _ _ _ c.from_utf8.ensures.cases c.in_err-ok.ensures.variant))
