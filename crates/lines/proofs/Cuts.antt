-- A line cut at its spaces; and the words of a call by their number.
-- Assumes nothing.
use Rattle.std.proofs.Common.{◌≡◌, ◌<◌, Bool, true, false, cond, eqb, List, [], ◌∷◌, ◌++◌, map, length, get_or, None, sym, refl, ap, ◌∙◌, append_assoc, append-nil, arith}
use Rattle.std.specs.List.{slice_split, onto_first}
use Rattle.text.specs.Bytes.{Bytes}
use Rattle.lines.specs.Words.{cut, cut_behind}
use Rattle.lines.specs.Calls.{asked, alone, with_one, with_two, with_three}

-- ---- the cut is that of the library

abbrev parts : Bytes → List Bytes
parts t = slice_split (λ b. eqb b 32) t

abbrev begun : Bytes → List Bytes → List Bytes
begun w [] = w ∷ []
begun w (p ∷ ps) = (w ++ p) ∷ ps

not_begun : (t : Bytes) → begun [] (parts t) ≡ parts t
not_begun [] = refl
not_begun (b ∷ t) = by (eqb b 32) (parts t)
  where
    by : (e : Bool) (ps : List Bytes) → begun [] (cond e ([] ∷ ps) (onto_first b ps)) ≡ cond e ([] ∷ ps) (onto_first b ps)
    by true ps = refl
    by false [] = refl
    by false (p ∷ ps) = refl

begun_more : (w : Bytes) (b : _) (ps : List Bytes) → begun (w ++ (b ∷ [])) ps ≡ begun w (onto_first b ps)
begun_more w b [] = refl
begun_more w b (p ∷ ps) = ap (λ q. q ∷ ps) (append_assoc w (b ∷ []) p)

cut_begun : (w t : Bytes) → cut_behind w t ≡ begun w (parts t)
cut_begun w [] = ap (λ q. q ∷ []) (sym (append-nil w))
cut_begun w (b ∷ t) = by (eqb b 32) (cut_begun [] t ∙ not_begun t) (cut_begun (w ++ (b ∷ [])) t)
  where
    by : (e : Bool) → cut_behind [] t ≡ parts t → cut_behind (w ++ (b ∷ [])) t ≡ begun (w ++ (b ∷ [])) (parts t) → cond e (w ∷ cut_behind [] t) (cut_behind (w ++ (b ∷ [])) t) ≡ begun w (cond e ([] ∷ parts t) (onto_first b (parts t)))
    by true f g = ap (λ q. w ∷ q) f ∙ ap (λ q. q ∷ parts t) (sym (append-nil w))
    by false f g = g ∙ begun_more w b (parts t)

pub cut_parts : (t : Bytes) → cut t ≡ parts t
cut_parts t = cut_begun [] t ∙ not_begun t

pub map_push : {X Y : Type 0} (f : X → Y) (ws : List X) (w : X) → map f (ws ++ (w ∷ [])) ≡ map f ws ++ (f w ∷ [])
map_push f [] w = refl
map_push f (v ∷ ws) w = ap (λ t. f v ∷ t) (map_push f ws w)

-- ---- a call by how many words stand behind its name

module _ {X : Type 0} (f : X → Bytes) where
  pub call_0 : (n : Bytes) (ws : List X) → length ws ≡ 0 → asked (n ∷ map f ws) ≡ alone n
  call_0 n [] h = refl
  call_0 n (w ∷ ws) h = absurd (omega arith)

  pub call_1 : (n : Bytes) (ws : List X) (x : X) → length ws ≡ 1 → x ≡ get_or ws 0 x → asked (n ∷ map f ws) ≡ with_one n (f x)
  call_1 n [] x h e = absurd (omega arith)
  call_1 n (w ∷ []) x h e = ap (λ z. with_one n (f z)) (sym e)
  call_1 n (w ∷ v ∷ ws) x h e = absurd (omega arith)

  pub call_2 : (n : Bytes) (ws : List X) (x y : X) → length ws ≡ 2 → x ≡ get_or ws 0 x → y ≡ get_or ws 1 y → asked (n ∷ map f ws) ≡ with_two n (f x) (f y)
  call_2 n [] x y h e d = absurd (omega arith)
  call_2 n (w ∷ []) x y h e d = absurd (omega arith)
  call_2 n (w ∷ v ∷ []) x y h e d = ap (λ z. with_two n (f z) (f v)) (sym e) ∙ ap (λ z. with_two n (f x) (f z)) (sym d)
  call_2 n (w ∷ v ∷ u ∷ ws) x y h e d = absurd (omega arith)

  pub call_3 : (n : Bytes) (ws : List X) (x y z : X) → length ws ≡ 3 → x ≡ get_or ws 0 x → y ≡ get_or ws 1 y → z ≡ get_or ws 2 z → asked (n ∷ map f ws) ≡ with_three n (f x) (f y) (f z)
  call_3 n [] x y z h e d b = absurd (omega arith)
  call_3 n (w ∷ []) x y z h e d b = absurd (omega arith)
  call_3 n (w ∷ v ∷ []) x y z h e d b = absurd (omega arith)
  call_3 n (w ∷ v ∷ u ∷ []) x y z h e d b = ap (λ t. with_three n (f t) (f v) (f u)) (sym e) ∙ ap (λ t. with_three n (f x) (f t) (f u)) (sym d) ∙ ap (λ t. with_three n (f x) (f y) (f t)) (sym b)
  call_3 n (w ∷ v ∷ u ∷ t ∷ ws) x y z h e d b = absurd (omega arith)

  -- more than three words behind the name
  pub call_more : (n : Bytes) (ws : List X) → 3 < length ws → asked (n ∷ map f ws) ≡ None
  call_more n [] h = absurd (omega arith)
  call_more n (w ∷ []) h = absurd (omega arith)
  call_more n (w ∷ v ∷ []) h = absurd (omega arith)
  call_more n (w ∷ v ∷ u ∷ []) h = absurd (omega arith)
  call_more n (w ∷ v ∷ u ∷ t ∷ ws) h = refl
