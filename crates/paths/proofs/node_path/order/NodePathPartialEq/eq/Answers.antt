use Rattle.std.proofs.Common.{◌≡◌, Bool, true, false, refl, ap, ◌∙◌}
use Rattle.std.specs.Ordering.{is_eq}
use Rattle.text.specs.Bytes.{ordering}
use Rattle.paths.specs.Paths.{same_path, path_before}
use Rattle.paths.specs.Values.{names_of}
use Rattle.paths.proofs.node_path.order.NodePathPartialEq.eq.Goals as goal

equal_if_same : (a b : Bool) → is_eq (ordering a b) ≡ a
equal_if_same true b = refl
equal_if_same false true = refl
equal_if_same false false = refl

pub returns : goal.returns
returns c =
    c.is_eq.ensures ∙ ap is_eq c.cmp.ensures
    ∙ equal_if_same (same_path (names_of c.args.self.now) (names_of c.args.other.now)) (path_before (names_of c.args.self.now) (names_of c.args.other.now))
