use Rattle.std.proofs.Common.{◌≡◌, ◌+◌, ◌<◌, ◌≤◌, ◌∷◌, ◌++◌, length, sym, ap, ◌∙◌, subst, arith, length-append, MatchResult}
use Rattle.std.specs.Result.{result_ok}
use Rattle.text.specs.Bytes.{Bytes}
use Rattle.paths.specs.declared.fault.PathFault.TheVariants.{OverLimits}
use Rattle.paths.specs.declared.node_path.NodePath.{NodePath}
use Rattle.paths.specs.Paths.{Path, are_names, slashed, split, is_path_text, names_in}
use Rattle.paths.specs.Values.{path_text, names_of}
use Rattle.paths.proofs.Extends.{counted, names_with, valid_with, extended_by, over_names}
use Rattle.paths.proofs.Values.{few, lawful}
use Rattle.paths.proofs.node_path.NodePath.with_names.Goals as goal

pub overflow_sub-self : goal.overflow_sub-self
overflow_sub-self c = few c.args.self.now

pub returns-then-count-self : goal.returns-then-count-self
returns-then-count-self c =
    let v : NodePath = c.args.self.now in
    let s : Path = split c.args.names.now in
    let n = counted (are_names s) c.in_ok-count.count (length s) (sym (c.ok_or.ensures.ok_part ∙ ap result_ok c.in_ok-count.was) ∙ c.count_names.ensures) in
    sym (over_names (names_of v) s n.0 (omega (arith, n.1, few v, v.counted, c.if-count-self.true)))

pub build-requires : goal.build-requires
build-requires c =
    let v : NodePath = c.args.self.now in
    let t : Bytes = c.args.names.now in
    let n = counted (are_names (split t)) c.in_ok-count.count (length (split t)) (sym (c.ok_or.ensures.ok_part ∙ ap result_ok c.in_ok-count.was) ∙ c.count_names.ensures) in
    let k : length (names_of v) + length (split t) ≤ 32 = omega (arith, n.1, few v, v.counted, c.if-count-self.false) in
    let e : c.stem.result.now ≡ slashed (names_of v) = c.stem.ensures in (
      (λ h. ap (λ (u : Bytes). is_path_text (u ++ (47 ∷ t))) e ∙ valid_with (names_of v) t (lawful v) n.0 k (subst (λ (u : Bytes). length u + 1 + length t ≤ 255) e h)),
      omega (arith, n.1, v.counted, ap length (ap (λ (u : Bytes). names_in (u ++ (47 ∷ t))) e ∙ names_with (names_of v) t (lawful v) n.0), length-append (names_of v) (split t)),
    )

pub returns : goal.returns
returns c =
    let v : NodePath = c.args.self.now in
    let t : Bytes = c.args.names.now in
    let n = counted (are_names (split t)) c.in_ok-count.count (length (split t)) (sym (c.ok_or.ensures.ok_part ∙ ap result_ok c.in_ok-count.was) ∙ c.count_names.ensures) in
    let k : length (names_of v) + length (split t) ≤ 32 = omega (arith, n.1, few v, v.counted, c.if-count-self.false) in
    extended_by (names_of v) t (lawful v) n.0 k c.build.result
    (subst (λ (u : Bytes). MatchResult c.build.result (λ p. path_text p ≡ u ++ (47 ∷ t)) (λ e. (e ≡ OverLimits) × (255 < length u + 1 + length t))) c.stem.ensures c.build.ensures)
