-- The part of a text before its first `/`.
-- Assumes nothing.
use Rattle.std.proofs.Common.{◌≡◌, ℕ, zero, suc, Bool, true, false, cond, eqb, [], ◌∷◌, ◌++◌, length, take, Some, None, Option, sym, refl, ap, ◌∙◌, subst, arith}
use Rattle.std.proofs.lemmas.Bool.Decides.{nat_tests}
use Rattle.std.specs.List.{position, position_or_len}
use Rattle.std.specs.Prelude.{◌==◌, nat_lt}
use Rattle.std.proofs.lemmas.Bool.{eqb-true}
use Rattle.text.specs.Bytes.{Bytes}
use Rattle.stores.specs.Pairs.{segment, opened}
use Rattle.runs.specs.Openings.{Cut}

-- where there is no `/` in a text, none is taken off it
none_behind : (x : ℕ) (t : Bytes) → segment (x ∷ t) ≡ None → (eqb x 47 ≡ false) × (segment t ≡ None)
none_behind x t h = by (eqb x 47) (segment t) h
  where
    by : (b : Bool) (o : Option Bytes) → cond b (Some []) (opened o x) ≡ None → (b ≡ false) × (o ≡ None)
    by true o e = absurd (cc)
    by false None e = (refl, refl)
    by false (Some t) e = absurd (cc)

none_on : (x : ℕ) (t : Bytes) → eqb x 47 ≡ false → segment t ≡ None → segment (x ∷ t) ≡ None
none_on x t e h = rw (e, h)

some_on : (x : ℕ) (t u : Bytes) → eqb x 47 ≡ false → segment t ≡ Some u → segment (x ∷ t) ≡ Some (x ∷ u)
some_on x t u e h = rw (e, h)

pub segment_of : (t m : Bytes) → segment t ≡ None → segment (t ++ (47 ∷ m)) ≡ Some t
segment_of [] m h = refl
segment_of (x ∷ t) m h = let n = none_behind x t h in some_on x (t ++ (47 ∷ m)) t n.0 (segment_of t m n.1)

pub segment-take : (n : ℕ) (t : Bytes) → segment t ≡ None → segment (take n t) ≡ None
segment-take zero t h = refl
segment-take (suc n) [] h = refl
segment-take (suc n) (x ∷ t) h = let k = none_behind x t h in none_on x (take n t) k.0 (segment-take n t k.1)

pub segment_push : (t : Bytes) (x : ℕ) → segment t ≡ None → eqb x 47 ≡ false → segment (t ++ (x ∷ [])) ≡ None
segment_push [] x h e = none_on x [] e refl
segment_push (y ∷ t) x h e = let k = none_behind y t h in none_on y (t ++ (x ∷ [])) k.0 (segment_push t x k.1 e)

-- a text with a `/` is the part before it, the `/` and more; the part has none
pub segment_parts : (r t : Bytes) → segment r ≡ Some t → (segment t ≡ None) × ((m : Bytes) × (r ≡ t ++ (47 ∷ m)))
segment_parts [] t h = absurd (cc)
segment_parts (x ∷ r) t h = by (eqb x 47) refl (segment r) (segment_parts r) h
  where
    by : (b : Bool) → eqb x 47 ≡ b → (o : Option Bytes) → ((u : Bytes) → o ≡ Some u → (segment u ≡ None) × ((m : Bytes) × (r ≡ u ++ (47 ∷ m)))) → cond b (Some []) (opened o x) ≡ Some t → (segment t ≡ None) × ((m : Bytes) × ((x ∷ r) ≡ t ++ (47 ∷ m)))
    by true e o q g =
        let w : t ≡ [] = grind arith in
        let v : x ≡ 47 = eqb-true x 47 e in
        (ap segment w, (r, ap (λ (y : ℕ). y ∷ r) v ∙ ap (λ (u : Bytes). u ++ (47 ∷ r)) (sym w)))
    by false e None q g = absurd (cc)
    by false e (Some u) q g =
        let w : (x ∷ u) ≡ t = grind arith in
        let i = q u refl in
        (ap segment (sym w) ∙ none_on x u e i.0, (i.1.0, ap (λ (y : Bytes). x ∷ y) i.1.1 ∙ ap (λ (y : Bytes). y ++ (47 ∷ i.1.0)) w))

-- ---- the place of the first `/`

abbrev pub slash : ℕ → Bool
slash b = b == 47

-- how many bytes stand before it
abbrev pub ahead : Bytes → ℕ
ahead t = position_or_len slash t

ahead_on : (x : ℕ) (t : Bytes) → eqb x 47 ≡ false → ahead (x ∷ t) ≡ suc (ahead t)
ahead_on x t e = simp e (omega arith)

segment_here : (x : ℕ) (t : Bytes) (n : ℕ) → eqb x 47 ≡ true → n ≡ 0 → segment (x ∷ t) ≡ cond (nat_lt n (length (x ∷ t))) (Some (take n (x ∷ t))) None
segment_here x t n e q = let y : nat_lt n (suc (length t)) ≡ true = grind (arith, nat_tests) in simp (y, e) (ap (λ (m : ℕ). Some (take m (x ∷ t))) (sym q))

segment_on : (x : ℕ) (t : Bytes) (n : ℕ) (l : Bool) → eqb x 47 ≡ false → n ≡ suc (ahead t) → nat_lt (ahead t) (length t) ≡ l → segment t ≡ cond l (Some (take (ahead t) t)) None
    → segment (x ∷ t) ≡ cond (nat_lt n (length (x ∷ t))) (Some (take n (x ∷ t))) None
segment_on x t n true e q f ih = let y : nat_lt n (suc (length t)) ≡ true = grind (arith, nat_tests) in simp (y, e, ih) (ap (λ (m : ℕ). Some (take m (x ∷ t))) (sym q))
segment_on x t n false e q f ih = let y : nat_lt n (suc (length t)) ≡ false = grind (arith, nat_tests) in simp (y, e, ih)

segment_ahead : (t : Bytes) → segment t ≡ cond (nat_lt (ahead t) (length t)) (Some (take (ahead t) t)) None
segment_ahead [] = refl
segment_ahead (x ∷ t) = by (eqb x 47) refl (segment_ahead t)
  where
    by : (b : Bool) → eqb x 47 ≡ b → segment t ≡ cond (nat_lt (ahead t) (length t)) (Some (take (ahead t) t)) None
        → segment (x ∷ t) ≡ cond (nat_lt (ahead (x ∷ t)) (length (x ∷ t))) (Some (take (ahead (x ∷ t)) (x ∷ t))) None
    by true e ih = segment_here x t (ahead (x ∷ t)) e (simp e)
    by false e ih = segment_on x t (ahead (x ∷ t)) (nat_lt (ahead t) (length t)) e (ahead_on x t e) refl ih

pub cut_of : (t : Bytes) (r : Option ℕ) → r ≡ position slash t → Cut t r
cut_of t r e = by (nat_lt (ahead t) (length t)) refl (segment_ahead t) r e
  where
    by : (l : Bool) → nat_lt (ahead t) (length t) ≡ l → segment t ≡ cond l (Some (take (ahead t) t)) None → (r : Option ℕ) → r ≡ cond l (Some (ahead t)) None → Cut t r
    by true f h r q = subst (Cut t) (sym q) (grind (arith, nat_tests), h)
    by false f h r q = subst (Cut t) (sym q) h
