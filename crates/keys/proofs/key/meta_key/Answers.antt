use Rattle.std.proofs.Common.{◌≡◌, ◌<◌, true, ◌++◌, length, ap, ◌∙◌, arith}
use Rattle.text.specs.Bytes.{Bytes}
use Rattle.paths.specs.declared.node_path.NodePath.{NodePath}
use Rattle.keys.specs.declared.file.MetadataFile.{MetadataFile}
use Rattle.keys.specs.Keys.{is_key}
use Rattle.keys.specs.MetadataKeys.{file_name, prefix_of}
use Rattle.paths.specs.Values.{names_of}
use Rattle.keys.proofs.KeyTexts.{kept, kept_text}
use Rattle.keys.proofs.PathKeys.{key_within, key_of_path}
use Rattle.paths.proofs.Values.{within, is_path_lem}
use Rattle.keys.proofs.key.meta_key.Goals as goal

-- the name of any file fits behind a path's prefix, and is a key there
fits : (v : NodePath) (f : MetadataFile) (t : Bytes) → t ≡ file_name f → 400 < length (prefix_of (names_of v) ++ t) → ⊥
fits v f t e h = omega (arith, h, ap (λ (u : Bytes). length (prefix_of (names_of v) ++ u)) e, key_within (names_of v) f (within v))

key_there : (v : NodePath) (f : MetadataFile) (t k : Bytes) → t ≡ file_name f → k ≡ prefix_of (names_of v) ++ t → is_key k ≡ true
key_there v f t k e h = ap is_key (h ∙ ap (λ (u : Bytes). prefix_of (names_of v) ++ u) e) ∙ key_of_path (names_of v) f (is_path_lem v)

pub unwrap-text-requires : goal.unwrap-text-requires
unwrap-text-requires c = kept c.behind_prefix.result _ _ c.behind_prefix.ensures (fits c.args.path.now _ c.name.result.now c.name.ensures)

pub invariant_of-result : goal.invariant_of-result
invariant_of-result c =
    let t = kept_text c.behind_prefix.result _ _ c.unwrap-text.result c.behind_prefix.ensures c.unwrap-text.ensures in
    record { well = key_there c.args.path.now _ c.name.result.now _ c.name.ensures t }
