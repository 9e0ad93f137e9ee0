-- Where a line ends. Assumes nothing.
use Rattle.std.proofs.Common.{◌≡◌, ℕ, ◌+◌, ◌≤◌, min, Bool, true, false, cond, not, ltb, eqb, [], ◌∷◌, length, drop, Some, None, Option, sym, refl, ap, ◌∙◌, arith, ltb-false, leb, leb-true, leb-false}
use Rattle.std.specs.Option.{unwrap_or}
use Rattle.std.specs.List.{position_or_len, prefix_len, after_first}
use Rattle.std.proofs.lemmas.List.{drop_all}
use Rattle.text.specs.Bytes.{Bytes}

within : (p : ℕ → Bool) (t : Bytes) → prefix_len p t ≤ length t
within p [] = omega arith
within p (b ∷ t) = by (p b) (within p t)
  where
    by : (x : Bool) → prefix_len p t ≤ length t → cond x (1 + prefix_len p t) 0 ≤ length (b ∷ t)
    by true h = omega arith
    by false h = omega arith

at_most : (p n : ℕ) (x : Bool) → p ≤ n → ltb p n ≡ x → unwrap_or (cond x (Some p) None) n ≡ p
at_most p n true le f = refl
at_most p n false le f = let far = ltb-false p n f in omega arith

-- the place of the first line feed, or the length
pub end_is : (t : Bytes) (o : Option ℕ) (e : ℕ) → o ≡ cond (ltb (position_or_len (λ b. eqb b 10) t) (length t)) (Some (position_or_len (λ b. eqb b 10) t)) None → e ≡ unwrap_or o (length t) → e ≡ position_or_len (λ b. eqb b 10) t
end_is t o e h u = u ∙ ap (λ x. unwrap_or x (length t)) h ∙ at_most (position_or_len (λ b. eqb b 10) t) (length t) _ (within (λ b. not (eqb b 10)) t) refl

pub rest_is : (t : Bytes) (e k : ℕ) → e ≡ position_or_len (λ b. eqb b 10) t → k ≡ min (e + 1) (length t) → drop k t ≡ after_first (λ b. eqb b 10) t
rest_is t e k h m = ap (λ n. drop n t) m ∙ by (leb (e + 1) (length t)) refl ∙ ap (λ n. drop (n + 1) t) h
  where
    by : (x : Bool) → leb (e + 1) (length t) ≡ x → drop (min (e + 1) (length t)) t ≡ drop (e + 1) t
    by true f = let short = leb-true (e + 1) (length t) f in let same : min (e + 1) (length t) ≡ e + 1 = omega arith in ap (λ n. drop n t) same
    by false f =
        let far = leb-false (e + 1) (length t) f in
        drop_all (min (e + 1) (length t)) t (omega arith) ∙ sym (drop_all (e + 1) t (omega arith))
