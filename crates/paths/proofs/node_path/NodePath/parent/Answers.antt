use Rattle.std.proofs.Common.{◌≡◌, ℕ, ◌+◌, ◌-◌, ◌<◌, ◌≤◌, true, false, [], ◌++◌, length, get_or, take, drop, Some, Ok, Err, Result, sym, ap, ◌∙◌, append-nil, arith, length-take, MatchResult}
use Rattle.std.specs.Result.{result_ok}
use Rattle.text.specs.Bytes.{Bytes}
use Rattle.paths.specs.declared.fault.PathFault.{PathFault}
use Rattle.paths.specs.declared.fault.PathFault.TheVariants.{OverLimits}
use Rattle.paths.specs.Names.{no_slash}
use Rattle.paths.specs.declared.node_path.NodePath.{NodePath}
use Rattle.paths.specs.Paths.{Path, is_root, is_path_text, names_in, parent_of}
use Rattle.paths.specs.Values.{path_text, names_of, path_if_any}
use Rattle.paths.proofs.LastName.{parent_is_root, parent_is_front}
use Rattle.paths.proofs.Extends.{few_bytes}
use Rattle.paths.proofs.Values.{within, is_path_lem, written}
use Rattle.paths.proofs.node_path.NodePath.parent.Goals as goal

pub returns-then-end-eq0 : goal.returns-then-end-eq0
returns-then-end-eq0 c =
    let v : NodePath = c.args.self.now in
    let t : Bytes = c.as_bytes-text.result.now in
    ap (λ (p : Path). Some p) c.root.ensures
    ∙ sym (parent_is_root t (names_of v) c.last_slash-end.result (is_path_lem v) (written v ∙ sym c.as_bytes-text.ensures) c.last_slash-end.ensures.within c.last_slash-end.ensures.stands c.last_slash-end.ensures.plain
    (sym c.if-is_root.ensures) c.if-end-eq0.true)

front : (v : NodePath) (t : Bytes) (i : ℕ) → t ≡ path_text v → i < length t → get_or t i 0 ≡ 47 → no_slash (drop (i + 1) t) ≡ true → is_root (names_of v) ≡ false → 0 < i
    → (parent_of (names_of v) ≡ Some (names_in (take i t))) × (is_path_text (take i t) ≡ true) × (length (names_in (take i t)) + 1 ≡ length (names_of v))
front v t i e h s p r z = parent_is_front t (names_of v) i (is_path_lem v) (written v ∙ sym e) h s p r z

whole : (t : Bytes) (i : ℕ) → take (i - 0) t ++ [] ≡ take i t
whole t i = let e : i - 0 ≡ i = omega arith in append-nil (take (i - 0) t) ∙ ap (λ (k : ℕ). take k t) e

pub build-requires : goal.build-requires
build-requires c =
    let v : NodePath = c.args.self.now in
    let t : Bytes = c.as_bytes-text.result.now in
    let i : ℕ = c.last_slash-end.result in
    let f = front v t i c.as_bytes-text.ensures c.last_slash-end.ensures.within c.last_slash-end.ensures.stands c.last_slash-end.ensures.plain (sym c.if-is_root.ensures) (omega arith) in (
      (λ _. ap is_path_text (whole t i) ∙ f.1),
      omega (arith, v.counted, f.2, ap (λ (u : Bytes). length (names_in u)) (whole t i)),
    )

built : (r : Result NodePath PathFault) (u : Bytes) (n : ℕ) → MatchResult r (λ p. path_text p ≡ u) (λ e. (e ≡ OverLimits) × (255 < n)) → n ≤ 255 → path_if_any (result_ok r) ≡ Some (names_in u)
built (Ok p) u n h l = ap (λ (w : Bytes). Some (names_in w)) h
built (Err e) u n h l = absurd (omega (arith, h.1))

pub returns : goal.returns
returns c =
    let v : NodePath = c.args.self.now in
    let t : Bytes = c.as_bytes-text.result.now in
    let i : ℕ = c.last_slash-end.result in
    let f = front v t i c.as_bytes-text.ensures c.last_slash-end.ensures.within c.last_slash-end.ensures.stands c.last_slash-end.ensures.plain (sym c.if-is_root.ensures) (omega arith) in
    let l : length (take (i - 0) t) + 0 + 0 ≤ 255 =
    omega (arith, length-take (i - 0) t, few_bytes (names_of v) (within v), ap length (written v), ap length c.as_bytes-text.ensures) in
    ap path_if_any c.ok.ensures.value ∙ built c.build.result (take (i - 0) t ++ []) (length (take (i - 0) t) + 0 + 0) c.build.ensures l
    ∙ ap (λ (u : Bytes). Some (names_in u)) (whole t i) ∙ sym f.0
