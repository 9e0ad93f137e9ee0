-- One turn of the search for a child, as the code reads the key.
-- Assumes nothing.
use Rattle.std.proofs.Common.{◌≡◌, ℕ, ◌+◌, ◌-◌, ◌<◌, ◌≤◌, true, false, [], ◌∷◌, ◌++◌, length, take, drop, is_some, Some, None, sym, ap, ◌∙◌, subst, arith}
use Rattle.std.specs.List.{position}
use Rattle.std.proofs.lemmas.List.{length-drop, take_rest}
use Rattle.text.specs.Bytes.{Bytes, before, stripped}
use Rattle.stores.specs.Pairs.{Pairs, Ascends, within, segment}
use Rattle.runs.specs.Places.{key_at}
use Rattle.runs.specs.Search.{Parted}
use Rattle.runs.specs.Openings.{Passed}
use Rattle.runs.proofs.Segments.{slash, cut_of}
use Rattle.runs.proofs.Parted.{some_of, none_of, strip_parts, strip_drop}
use Rattle.runs.proofs.Offspring.{take-joined, passed_plain, passed_under, passed_skip, skip_on}

-- a key that begins with the prefix has the child that stands behind it
within-behind : (p k : Bytes) → is_some (stripped p k) ≡ true → within (stripped p k) ≡ segment (drop (length p) k)
within-behind p k h = let s = some_of (stripped p k) h in ap within s.1 ∙ ap segment (sym (strip_drop p k s.0 s.1))

front_parts : (p k : Bytes) (n : ℕ) → is_some (stripped p k) ≡ true → take (length p + n) k ≡ p ++ take n (drop (length p) k)
front_parts p k n h =
    let s = some_of (stripped p k) h in
    ap (take (length p + n)) (strip_parts p k s.0 s.1) ∙ take-joined p s.0 n ∙ ap (λ (x : Bytes). p ++ take n x) (sym (strip_drop p k s.0 s.1))

-- what the code reads behind the prefix
abbrev pub rest : Bytes → Bytes → Bytes
rest p k = take (length k - length p) (drop (length p) k)

module _ (ps : Pairs) (a : Ascends ps) (p after : Bytes) (i : ℕ) (d : Passed ps p after i) (key : Bytes) (ek : key ≡ key_at ps i) where
  pub turn_under : i < length ps → before (key_at ps i) (p ++ after) ≡ false → false ≡ is_some (stripped p key) → Passed ps p after (length ps)
  turn_under h b n = passed_under ps a p after i d h b (ap (stripped p) (sym ek) ∙ none_of (stripped p key) (sym n))

  module _ (b : true ≡ is_some (stripped p key)) where
    behind : rest p key ≡ drop (length p) key
    behind = take_rest key (length p)

    child_in : within (stripped p (key_at ps i)) ≡ segment (rest p key)
    child_in = ap (λ (x : Bytes). within (stripped p x)) (sym ek) ∙ within-behind p key (sym b) ∙ ap segment (sym behind)

    pub turn_plain : None ≡ position slash (rest p key) → Passed ps p after (i + 1)
    turn_plain e = passed_plain ps a p after i d (child_in ∙ cut_of (rest p key) None e)

    module _ (n : ℕ) (e : Some n ≡ position slash (rest p key)) where
      pub child_is : take n (rest p key) ≡ take n (drop (length p) (key_at ps i))
      child_is = ap (take n) (behind ∙ ap (drop (length p)) ek)

      pub turn_child : within (stripped p (key_at ps i)) ≡ Some (take n (drop (length p) (key_at ps i)))
      turn_child = child_in ∙ (cut_of (rest p key) (Some n) e).1 ∙ ap Some child_is

      pub turn_long : length p + n ≤ length (key_at ps i)
      turn_long = omega (arith, (cut_of (rest p key) (Some n) e).0, ap length behind ∙ length-drop (length p) key, ap length ek)

      parted : (r x : ℕ) → Parted (take (length p + n) key ++ (x ∷ [])) ps r → Parted ((p ++ take n (drop (length p) (key_at ps i))) ++ (x ∷ [])) ps r
      parted r x s = subst (λ (y : Bytes). Parted (y ++ (x ∷ [])) ps r) (ap (take (length p + n)) ek ∙ front_parts p (key_at ps i) n (ap (λ (y : Bytes). is_some (stripped p y)) (sym ek) ∙ sym b)) s

      pub turn_on : i < length ps → (r x : ℕ) → Parted (take (length p + n) key ++ (x ∷ [])) ps r → 47 < x → i < r
      turn_on h r x s l = skip_on ps a p after i d (take n (drop (length p) (key_at ps i))) turn_child h r x (parted r x s) l

      pub turn_skip : i < length ps → (r : ℕ) → Parted (take (length p + n) key ++ (48 ∷ [])) ps r → false ≡ before after (take n (rest p key)) → Passed ps p after r
      turn_skip h r s q = passed_skip ps a p after i d (take n (drop (length p) (key_at ps i))) turn_child h r (parted r 48 s) (ap (before after) (sym child_is) ∙ sym q)
