use Rattle.std.proofs.Common.{sym, ap, ◌∙◌}
use Rattle.std.specs.Result.{result_ok}
use Rattle.paths.specs.Paths.{Path, extended}
use Rattle.paths.proofs.Scans.{slash_stripped}
use Rattle.paths.proofs.node_path.NodePath.new.Goals as goal

pub returns : goal.returns
returns c =
    c.extend.ensures ∙ ap (λ (p : Path). extended p c.in_ok-names.names.now) c.root.ensures
    ∙ sym (slash_stripped c.args.text.now c.strip_prefix.result c.strip_prefix.ensures.cases c.in_ok-names.names (c.ok_or.ensures.ok_part ∙ ap result_ok c.in_ok-names.was))
