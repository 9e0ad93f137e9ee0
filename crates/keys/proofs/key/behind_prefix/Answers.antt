use Rattle.std.proofs.Common.{◌≡◌, ℕ, ◌+◌, ◌-◌, ◌<◌, ◌∷◌, ◌++◌, length, take, drop, sym, ◌∙◌, subst}
use Rattle.text.specs.Bytes.{Bytes}
use Rattle.keys.specs.MetadataKeys.{prefix_of}
use Rattle.paths.specs.Paths.{Path}
use Rattle.paths.specs.Values.{names_of}
use Rattle.keys.proofs.KeyTexts.{by_cases, behind-first, behind-length}
use Rattle.keys.proofs.key.behind_prefix.Goals as goal

pub returns : goal.returns
returns g c =
    let t : Bytes = c.as_bytes-text.result.now in
    let p : Path = names_of c.args.path.now in
    let rest : Bytes = c.args.rest.now in
    let a : Bytes = take (length t - 1) (drop 1 t) in
    let e : a ++ (47 ∷ rest) ≡ prefix_of p ++ rest = behind-first p t rest (sym c.if-is_root.ensures) c.as_bytes-text.ensures in
    by_cases c.of-2.result (g.row.N < length a + 1 + length rest) (g.row.N < length (prefix_of p ++ rest)) (λ v. take v.len v.bytes ≡ a ++ (47 ∷ rest)) (λ v. take v.len v.bytes ≡ prefix_of p ++ rest)
    (λ h. subst (λ (k : ℕ). g.row.N < k) (behind-length a rest (prefix_of p ++ rest) e) h) (λ v h. h ∙ e) c.of-2.ensures
