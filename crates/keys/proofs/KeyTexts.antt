-- The texts of keys and prefixes as the code puts them together.
-- Assumes nothing.
use Rattle.std.proofs.Common.{◌≡◌, ℕ, suc, ◌+◌, ◌-◌, ◌<◌, Bool, true, false, cond, eqb, [], ◌∷◌, ◌++◌, length, take, drop, Some, None, Option, sym, refl, ap, ◌∙◌, append_assoc, append-nil, subst, ◌≤◌, ◌&&◌, leb, leb-true, Result, arith, length-append, MatchOption, MatchResult, IsSome}
use Rattle.std.proofs.lemmas.List.{take_all}
use Rattle.text.specs.Bytes.{Bytes}
use Rattle.std.proofs.lemmas.Bool.{and_parts}
use Rattle.std.specs.Option.{ok_or}
use Rattle.text.specs.Utf8.{is_text}
use Rattle.paths.specs.declared.inline.Inline.{Inline}
use Rattle.keys.specs.declared.fault.StoreFault.{StoreFault}
use Rattle.keys.specs.declared.fault.StoreFault.TheVariants.{Malformed}
use Rattle.keys.specs.Keys.{key_form, form, well_formed, is_key, is_prefix}
use Rattle.keys.specs.MetadataKeys.{prefix_of, without_last, path_of_prefix}
use Rattle.paths.specs.Paths.{Path, is_root, rendered, relative, split, checked, joined}
use Rattle.keys.proofs.KeyForms.{key_parts, prefix_parts, form_last, slash_key}
use Rattle.keys.proofs.PathKeys.{prefix_relative}
use Rattle.paths.proofs.Joins.{joined_not_slash}
use Rattle.paths.proofs.Readings.{never}

pub by_cases : {A : Type 0} (o : Option A) (P R : Type 0) (Q S : A → Type 0) → (P → R) → ((a : A) → Q a → S a) → MatchOption o P Q → MatchOption o R S
by_cases None P R Q S f g h = f h
by_cases (Some a) P R Q S f g h = g a h

-- a path's text without its first `/`, a `/` and more
pub behind-first : (p : Path) (t rest : Bytes) → is_root p ≡ false → t ≡ rendered p → take (length t - 1) (drop 1 t) ++ (47 ∷ rest) ≡ prefix_of p ++ rest
behind-first [] t rest h e = never h
behind-first (n ∷ q) t rest h e =
    let r : Bytes = relative (n ∷ q) in
    let w : take (length t - 1) (drop 1 t) ≡ r = ap (λ (u : Bytes). take (length u - 1) (drop 1 u)) e ∙ take_all (length (47 ∷ r) - 1) r (omega arith) in
    ap (λ (u : Bytes). u ++ (47 ∷ rest)) w ∙ sym (append_assoc r (47 ∷ []) rest) ∙ ap (λ (u : Bytes). u ++ rest) (sym (prefix_relative n q))

pub behind-length : (a b w : Bytes) → a ++ (47 ∷ b) ≡ w → length a + 1 + length b ≡ length w
behind-length a b w e = sym (sym (ap length e) ∙ length-append a (47 ∷ b) ∙ omega arith)

-- a text that is kept in place, or the refusal of one that is malformed
length_within : (n : ℕ) (trailing : Bool) (t : Bytes) → well_formed n trailing t ≡ true → length t ≤ n
length_within n trailing t h =
    let a = and_parts (form trailing t) (leb (length t) n && is_text t) h in
    leb-true (length t) n (and_parts (leb (length t) n) (is_text t) a.1).0

pub held_text : (n : ℕ) (trailing : Bool) (t : Bytes) → well_formed n trailing t ≡ true → (o : Option (Inline n)) → MatchOption o (n < length t + 0 + 0) (λ v. take v.len v.bytes ≡ t ++ [])
    → (r : Result (Inline n) StoreFault) → r ≡ ok_or o Malformed → MatchResult r (λ v. (take v.len v.bytes ≡ t) × (well_formed n trailing t ≡ true)) (λ e. (e ≡ Malformed) × (well_formed n trailing t ≡ false))
held_text n trailing t h None m r e = absurd (omega (arith, m, length_within n trailing t h))
held_text n trailing t h (Some v) m r e =
    let P : Result (Inline n) StoreFault → Type 0 = λ q. MatchResult q (λ v. (take v.len v.bytes ≡ t) × (well_formed n trailing t ≡ true)) (λ e. (e ≡ Malformed) × (well_formed n trailing t ≡ false)) in
    subst P (sym e) (m ∙ append-nil t, h)

pub long_no_key : (k : Bytes) → 400 < length k → is_key k ≡ false
long_no_key k h = (elim (is_key k) as (λ b. is_key k ≡ b → b ≡ false) [ true ↦ λ e. absurd (omega (arith, (key_parts k e).1)) | false ↦ λ e. refl ]) refl

-- a prefix without its last byte
without_last_lem : (b : ℕ) (t : Bytes) → take (length (b ∷ t) - 1) (b ∷ t) ≡ without_last b t
without_last_lem b [] = refl
without_last_lem b (c ∷ t) =
    let e : length (b ∷ (c ∷ t)) - 1 ≡ length (c ∷ t) - 1 + 1 = omega arith in
    ap (λ (k : ℕ). take k (b ∷ (c ∷ t))) e ∙ one (length (c ∷ t) - 1) ∙ ap (λ (u : Bytes). b ∷ u) (without_last_lem c t)
  where
    one : (k : ℕ) → take (k + 1) (b ∷ (c ∷ t)) ≡ b ∷ take k (c ∷ t)
    one k = let f : k + 1 ≡ suc k = omega arith in ap (λ (j : ℕ). take j (b ∷ (c ∷ t))) f

-- a key's text is joined as it stands
joined_key : (k : Bytes) → key_form true k ≡ true → joined [] k ≡ checked (split k) (split k)
joined_key [] h = never (sym h)
joined_key (b ∷ t) h = joined_not_slash [] b t (by (eqb b 47) h)
  where
    by : (s : Bool) → cond s false (key_form false t) ≡ true → s ≡ false
    by true e = never (sym e)
    by false e = refl

pub read_prefix : (t : Bytes) → is_prefix t ≡ true → 0 < length t → joined [] (take (length t - 1) t) ≡ path_of_prefix t
read_prefix [] p h = absurd (omega arith)
read_prefix (b ∷ t) p h =
    let k : is_key (without_last b t) ≡ true = slash_key (without_last b t) (ap is_prefix (sym (form_last true b t (prefix_parts (b ∷ t) p).0)) ∙ p) in
    ap (joined []) (without_last_lem b t) ∙ joined_key (without_last b t) (key_parts (without_last b t) k).0

-- a text that was kept
pub kept : {A : Type 0} (o : Option A) (P : Type 0) (Q : A → Type 0) → MatchOption o P Q → (P → ⊥) → IsSome o
kept None P Q m f = absurd (f m)
kept (Some a) P Q m f = refl

pub kept_text : {A : Type 0} (o : Option A) (P : Type 0) (Q : A → Type 0) (v : A) → MatchOption o P Q → o ≡ Some v → Q v
kept_text o P Q v m e = subst (λ q. MatchOption q P Q) e m
