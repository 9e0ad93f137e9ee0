-- The last `/` of a path's text, and what stands before and behind it.
-- Assumes nothing.
use Rattle.std.proofs.Common.{◌≡◌, ℕ, ◌+◌, ◌<◌, ◌≤◌, true, false, [], ◌∷◌, ◌++◌, length, get_or, take, drop, is_ok, Some, sym, refl, ap, ◌∙◌, subst, append-nil, arith, length-append, take-append-drop}
use Rattle.std.proofs.lemmas.List.{drop_more, length-take-le}
use Rattle.std.proofs.lemmas.Bool.{and_parts, and_from}
use Rattle.text.specs.Bytes.{Bytes}
use Rattle.paths.specs.Names.{no_slash, is_name}
use Rattle.paths.specs.Paths.{Name, Path, is_root, are_names, slashed, rendered, in_limits, is_path, path_of, is_path_text, names_in, leading, final, parent_of, name_of}
use Rattle.paths.proofs.Splits.{name_plain, names_head, names_front, names_back, slashed-append, plain_tail}
use Rattle.paths.proofs.Readings.{never, spelled, path_rendered}
use Rattle.paths.proofs.Extends.{rendered-slashed, few_names, few_bytes, in_limits_lem}

-- a path that is not `/` is its parent's names and its own
pub last_of : (n : Name) (p : Path) → n ∷ p ≡ leading n p ++ (final n p ∷ [])
last_of n [] = refl
last_of n (m ∷ p) = ap (λ (x : Path). n ∷ x) (last_of m p)

-- a text is cut at its last `/` in one way
slash_not_plain : (x y : Bytes) → no_slash (x ++ (47 ∷ y)) ≡ true → ⊥
slash_not_plain [] y h = never (sym h)
slash_not_plain (b ∷ x) y h = slash_not_plain x y (plain_tail b (x ++ (47 ∷ y)) h)

pub one_cut : (x y u v : Bytes) → x ++ (47 ∷ y) ≡ u ++ (47 ∷ v) → no_slash y ≡ true → no_slash v ≡ true → (x ≡ u) × (y ≡ v)
one_cut [] y [] v e hy hv = (refl, cc)
one_cut [] y (b ∷ u) v e hy hv = let t : y ≡ u ++ (47 ∷ v) = cc in absurd (slash_not_plain u v (ap no_slash (sym t) ∙ hy))
one_cut (a ∷ x) y [] v e hy hv = let t : x ++ (47 ∷ y) ≡ v = cc in absurd (slash_not_plain x y (ap no_slash t ∙ hv))
one_cut (a ∷ x) y (b ∷ u) v e hy hv =
    let h : a ≡ b = cc in
    let t : x ++ (47 ∷ y) ≡ u ++ (47 ∷ v) = cc in
    let i = one_cut x y u v t hy hv in
    let j : x ≡ u = i.0 in
    (cc, i.1)

cut_at : (t : Bytes) (i : ℕ) → i < length t → get_or t i 0 ≡ 47 → take i t ++ (47 ∷ drop (i + 1) t) ≡ t
cut_at t i h e = ap (λ (u : Bytes). take i t ++ u) (ap (λ (b : ℕ). b ∷ drop (i + 1) t) (sym e) ∙ sym (drop_more t i 0 h)) ∙ take-append-drop i t

rendered_last : (q : Path) (m : Name) → rendered (q ++ (m ∷ [])) ≡ slashed q ++ (47 ∷ m)
rendered_last [] m = ap (λ (u : Bytes). 47 ∷ u) (append-nil m)
rendered_last (n ∷ q) m = slashed-append (n ∷ q) (m ∷ []) ∙ ap (λ (u : Bytes). slashed (n ∷ q) ++ (47 ∷ u)) (append-nil m)

-- the text of a path that is not `/`, with its last `/` at i
module _ (t : Bytes) (p : Path) (i : ℕ) (lawful : are_names p ≡ true) (text : rendered p ≡ t) (h : i < length t) (e : get_or t i 0 ≡ 47) (plain : no_slash (drop (i + 1) t) ≡ true) where
  cut_path : (q : Path) (m : Name) → p ≡ q ++ (m ∷ []) → (take i t ≡ slashed q) × (drop (i + 1) t ≡ m)
  cut_path q m d =
      let hm : is_name m ≡ true = names_head m [] (names_back q (m ∷ []) (ap are_names (sym d) ∙ lawful)) in
      one_cut (take i t) (drop (i + 1) t) (slashed q) m (cut_at t i h e ∙ (sym text ∙ (ap rendered d ∙ rendered_last q m))) plain (name_plain m hm)

  pub before_last : (n : Name) (q : Path) → p ≡ n ∷ q → take i t ≡ slashed (leading n q)
  before_last n q d = (cut_path (leading n q) (final n q) (d ∙ last_of n q)).0

  pub behind_last : drop (i + 1) t ≡ name_of p
  behind_last = by p refl
    where
      root : i < length {A = ℕ} (47 ∷ []) → drop {A = ℕ} (i + 1) (47 ∷ []) ≡ []
      root l = let z : i ≡ 0 = omega arith in ap (λ (j : ℕ). drop {A = ℕ} (j + 1) (47 ∷ [])) z

      by : (r : Path) → p ≡ r → drop (i + 1) t ≡ name_of r
      by [] d =
          let u : t ≡ 47 ∷ [] = sym text ∙ ap rendered d in
          ap (drop (i + 1)) u ∙ root (subst (λ (x : Bytes). i < length x) u h)
      by (n ∷ q) d = (cut_path (leading n q) (final n q) (d ∙ last_of n q)).1

-- the parent of a valid path is valid
rendered_shorter : (q : Path) (m : Name) → length (rendered q) ≤ length (rendered (q ++ (m ∷ [])))
rendered_shorter [] m = omega (arith, ap length (rendered_last [] m))
rendered_shorter (n ∷ q) m = omega (arith, ap length (rendered_last (n ∷ q) m), length-append (slashed (n ∷ q)) (47 ∷ m))

pub front_valid : (q : Path) (m : Name) → is_path (q ++ (m ∷ [])) ≡ true → is_path q ≡ true
front_valid q m h =
    let a = and_parts (are_names (q ++ (m ∷ []))) (in_limits (q ++ (m ∷ []))) h in
    let b : length (rendered q) ≤ 255 = omega (arith, rendered_shorter q m, few_bytes (q ++ (m ∷ [])) a.1) in
    let c : length q ≤ 32 = omega (arith, length-append q (m ∷ []), few_names (q ++ (m ∷ [])) a.1) in
    and_from (are_names q) (in_limits q) (names_front q (m ∷ []) a.0) (in_limits_lem q b c)

-- the text before the last `/` is the parent's, or empty below `/`
slashed_none : (q : Path) → slashed q ≡ [] → q ≡ []
slashed_none [] e = refl
slashed_none (n ∷ q) e = let z : ◌≡◌ {A = ℕ} 0 1 = cc in absurd (omega arith)

some_name : (p : Path) → is_root p ≡ false → (n : Name) × (q : Path) × (p ≡ n ∷ q)
some_name [] h = never h
some_name (n ∷ q) h = (n, q, refl)

slashed_some : (q : Path) → 0 < length (slashed q) → is_root q ≡ false
slashed_some [] h = absurd (omega arith)
slashed_some (n ∷ q) h = refl

module _ (t : Bytes) (p : Path) (i : ℕ) (valid : is_path p ≡ true) (text : rendered p ≡ t) (h : i < length t) (e : get_or t i 0 ≡ 47) (plain : no_slash (drop (i + 1) t) ≡ true) (some : is_root p ≡ false) where
  lawful : are_names p ≡ true
  lawful = (and_parts (are_names p) (in_limits p) valid).0

  pub parent_is_root : i ≡ 0 → parent_of p ≡ Some []
  parent_is_root z = by (some_name p some)
    where
      by : (n : Name) × (q : Path) × (p ≡ n ∷ q) → parent_of p ≡ Some []
      by (n, q, d) =
          let b : slashed (leading n q) ≡ [] = sym (before_last t p i lawful text h e plain n q d) ∙ ap (λ (k : ℕ). take k t) z in
          ap parent_of d ∙ ap (λ (x : Path). Some x) (slashed_none (leading n q) b)

  pub parent_is_front : 0 < i → (parent_of p ≡ Some (names_in (take i t))) × (is_path_text (take i t) ≡ true) × (length (names_in (take i t)) + 1 ≡ length p)
  parent_is_front z = by (some_name p some)
    where
      by : (n : Name) × (q : Path) × (p ≡ n ∷ q) → (parent_of p ≡ Some (names_in (take i t))) × (is_path_text (take i t) ≡ true) × (length (names_in (take i t)) + 1 ≡ length p)
      by (n, q, d) =
          let l : Path = leading n q in
          let b : take i t ≡ slashed l = before_last t p i lawful text h e plain n q d in
          let r : is_root l ≡ false = slashed_some l (omega (arith, length-take-le i t (omega arith), ap length b)) in
          let v : is_path l ≡ true = front_valid l (final n q) (ap is_path (sym (d ∙ last_of n q)) ∙ valid) in
          let w : rendered l ≡ take i t = rendered-slashed l r ∙ sym b in
          let s = spelled (take i t) l ((and_parts (are_names l) (in_limits l) v).0, w) in
          let c : length p ≡ length l + 1 = ap length (d ∙ last_of n q) ∙ length-append l (final n q ∷ []) in (
            ap parent_of d ∙ ap (λ (x : Path). Some x) (sym s.1),
            ap (λ (x : Bytes). is_ok (path_of x)) (sym w) ∙ ap is_ok (path_rendered l v),
            omega (arith, ap length s.1, c),
          )
