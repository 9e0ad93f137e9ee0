-- What one sequence adds to what is printed. Assumes nothing.
use Rattle.std.proofs.Common.{◌≡◌, ℕ, zero, suc, ◌-◌, ◌≤◌, Option, [], ◌∷◌, ◌++◌, length, get_or, take, drop, sym, refl, ap, ◌∙◌, subst, append_assoc, arith}
use Rattle.std.proofs.lemmas.List.{take_rest}
use Rattle.text.specs.Bytes.{Bytes}
use Rattle.text.specs.Utf8.{sequence_length, unless_zero}
use Rattle.text.proofs.Rows.{sequence_le}
use Rattle.printing.specs.Shown.{first, shown, shown_in}

-- what is left of a sequence stands as it is
as_is : (k : ℕ) (t : Bytes) → k ≤ length t → shown_in k t ≡ take k t ++ shown (drop k t)
as_is zero t h = refl
as_is (suc k) [] h = absurd (omega arith)
as_is (suc k) (b ∷ t) h = ap (λ l. b ∷ l) (as_is k t (omega arith))

-- what stands behind the first byte
abbrev pub tail : Bytes → Bytes
tail s = take (length s - 1) (drop 1 s)

-- a sequence ends where the bytes do, or before
pub ends : (s : Bytes) (n k : ℕ) → 1 ≤ length s → n ≡ sequence_length s → k ≡ n - 1 → k ≤ length (tail s)
ends [] n k h e d = absurd (omega arith)
ends (b ∷ t) n k h e d = let le = sequence_le (b ∷ t) in let whole = ap length (take_rest (b ∷ t) 1) in omega arith

-- a sequence behind what was printed, with what is behind it
pub one_more : (out begun new s more next : Bytes) (o : Option ℕ) (n k : ℕ) → 1 ≤ length s → o ≡ unless_zero (sequence_length s) → n ≡ sequence_length s → k ≡ n - 1 → begun ≡ out ++ first o (get_or s 0 0) → more ≡ take k (tail s) → next ≡ drop k (tail s) → new ≡ begun ++ more → new ++ shown next ≡ out ++ shown s
one_more out begun new [] more next o n k h i e d f p q g = absurd (omega arith)
one_more out begun new (b ∷ t) more next o n k h i e d f p q g =
    let whole = take_rest (b ∷ t) 1 in
    let le = subst (λ l. k ≤ length l) whole (ends (b ∷ t) n k h e d) in
    ap (λ l. l ++ shown next) g ∙ append_assoc begun more (shown next)
    ∙ ap (λ l. begun ++ (l ++ shown next)) (p ∙ ap (take k) whole) ∙ ap (λ l. begun ++ (take k t ++ shown l)) (q ∙ ap (drop k) whole)
    ∙ ap (λ l. begun ++ l) (sym (as_is k t le))
    ∙ ap (λ l. l ++ shown_in k t) f ∙ append_assoc out (first o b) (shown_in k t)
    ∙ ap (λ m. out ++ (first o b ++ shown_in m t)) d ∙ ap (λ m. out ++ (first o b ++ shown_in (m - 1) t)) e ∙ ap (λ m. out ++ (first m b ++ shown_in (sequence_length (b ∷ t) - 1) t)) i
