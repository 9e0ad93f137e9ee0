-- A view of a view.
-- Assumes nothing.
use Rattle.std.proofs.Common.{◌≡◌, ◌-◌, [], ◌∷◌, ◌++◌, length, Some, None, Option, sym, refl, ap, ◌∙◌, append_assoc, arith, length-append}
use Rattle.text.specs.Bytes.{Bytes, stripped}
use Rattle.paths.specs.Paths.{Path}
use Rattle.keys.specs.MetadataKeys.{prefix_of}
use Rattle.keys.proofs.Prefixes.{prefix_append}
use Rattle.stores.specs.Pairs.{Pair, Pairs, mounted}
use Rattle.stores.specs.Meaning.{Meaning, means, view}
use Rattle.stores.proofs.Listings.{onward, strip_two}

mounted-step : (p q : Bytes) (a : Pair) (ps : Pairs) (o : Option Bytes) → stripped p a.key ≡ o → mounted q (mounted p ps) ≡ mounted (p ++ q) ps → mounted q (mounted p (a ∷ ps)) ≡ mounted (p ++ q) (a ∷ ps)
mounted-step p q a ps None e ih = let s : stripped (p ++ q) a.key ≡ None = strip_two p q a.key ∙ ap (onward q) e in simp (e, s) ih
mounted-step p q a ps (Some t) e ih = let s : stripped (p ++ q) a.key ≡ stripped q t = strip_two p q a.key ∙ ap (onward q) e in simp (e, s, ih)

pub mounted_join : (p q : Bytes) (ps : Pairs) → mounted q (mounted p ps) ≡ mounted (p ++ q) ps
mounted_join p q [] = refl
mounted_join p q (a ∷ ps) = mounted-step p q a ps (stripped p a.key) refl (mounted_join p q ps)

pub view_join : (p q : Bytes) (m : Meaning) → view q (view p m) ≡ view (p ++ q) m
view_join p q m =
    let e : mounted q (mounted p m.pairs) ≡ mounted (p ++ q) m.pairs = mounted_join p q m.pairs in
    let l : m.longest - length p - length q ≡ m.longest - length (p ++ q) = rw (length-append p q) (omega arith) in
    let a : (k : Bytes) → p ++ (q ++ k) ≡ (p ++ q) ++ k = λ k. sym (append_assoc p q k) in
    λ i. means (e i) (l i) (λ k n. m.takes (a k i) n) (λ k. m.lets (a k i))

pub view_paths : (a b : Path) (m : Meaning) → view (prefix_of b) (view (prefix_of a) m) ≡ view (prefix_of (a ++ b)) m
view_paths a b m = view_join (prefix_of a) (prefix_of b) m ∙ ap (λ (p : Bytes). view p m) (sym (prefix_append a b))
