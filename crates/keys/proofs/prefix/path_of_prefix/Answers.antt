use Rattle.std.proofs.Common.{◌-◌, length, take, ap, ◌∙◌}
use Rattle.text.specs.Bytes.{Bytes}
use Rattle.paths.specs.Paths.{Path, joined}
use Rattle.keys.specs.Keys.{is_prefix}
use Rattle.keys.specs.MetadataKeys.{path_of_prefix}
use Rattle.keys.proofs.KeyTexts.{read_prefix}
use Rattle.keys.proofs.prefix.path_of_prefix.Goals as goal

pub returns-in-len1-up : goal.returns-in-len1-up
returns-in-len1-up c =
    let t : Bytes = c.as_bytes.result.now in
    c.join.ensures ∙ ap (λ (p : Path). joined p (take (length t - 1) t)) c.root-in-len1-up.ensures
    ∙ read_prefix t (ap is_prefix c.as_bytes.ensures ∙ c.args.prefix.now.well) c.in-len1-up.len_at_least
    ∙ ap path_of_prefix c.as_bytes.ensures
