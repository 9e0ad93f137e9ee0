use Rattle.std.proofs.Common.{◌+◌, sym, ◌∙◌}
use Rattle.std.proofs.lemmas.List.{take_rest}
use Rattle.text.specs.Bytes.{Bytes}
use Rattle.paths.specs.declared.node_path.NodePath.{NodePath}
use Rattle.paths.specs.Values.{names_of}
use Rattle.paths.proofs.LastName.{behind_last}
use Rattle.paths.proofs.Values.{lawful, written}
use Rattle.paths.proofs.node_path.NodePath.name.Goals as goal

pub returns : goal.returns
returns c =
    let v : NodePath = c.args.self.now in
    let t : Bytes = c.as_bytes-text.result.now in
    take_rest t (c.last_slash-end.result + 1)
    ∙ behind_last t (names_of v) c.last_slash-end.result (lawful v) (written v ∙ sym c.as_bytes-text.ensures) c.last_slash-end.ensures.within c.last_slash-end.ensures.stands c.last_slash-end.ensures.plain
