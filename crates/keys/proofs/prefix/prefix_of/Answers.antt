use Rattle.std.proofs.Common.{length, ap, ◌∙◌, append-nil, arith}
use Rattle.text.specs.Bytes.{Bytes}
use Rattle.paths.specs.declared.node_path.NodePath.{NodePath}
use Rattle.keys.specs.Keys.{is_prefix}
use Rattle.keys.specs.MetadataKeys.{prefix_of}
use Rattle.paths.specs.Values.{names_of}
use Rattle.keys.proofs.KeyTexts.{kept, kept_text}
use Rattle.keys.proofs.PathKeys.{prefix_within, prefix_of_path}
use Rattle.paths.proofs.Values.{within, is_path_lem}
use Rattle.keys.proofs.prefix.prefix_of.Goals as goal

pub unwrap-text-requires : goal.unwrap-text-requires
unwrap-text-requires c =
    let v : NodePath = c.args.path.now in
    kept c.behind_prefix.result _ _ c.behind_prefix.ensures (λ h. omega (arith, h, ap (λ (u : Bytes). length u) (append-nil (prefix_of (names_of v))), prefix_within (names_of v) (within v)))

pub invariant_of-result : goal.invariant_of-result
invariant_of-result c =
    let v : NodePath = c.args.path.now in
    let t = kept_text c.behind_prefix.result _ _ c.unwrap-text.result c.behind_prefix.ensures c.unwrap-text.ensures in
    record { well = ap is_prefix (t ∙ append-nil (prefix_of (names_of v))) ∙ prefix_of_path (names_of v) (is_path_lem v) }
