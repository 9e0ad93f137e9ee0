-- Parts laid one after the other into an array of zeros.
-- Assumes nothing.
use Rattle.std.proofs.Common.{◌≡◌, ℕ, zero, suc, ◌+◌, ◌-◌, ◌≤◌, true, ◌++◌, length, take, drop, replicate, sym, refl, ap, ◌∙◌, append_assoc, arith, length-append, length-drop, drop-drop, take_at, drop_at}
use lib.ListN.{length-replicate}
use borrow.Rule.Slice.PartMut.{put_mid}
use Rattle.std.proofs.lemmas.List.{drop-replicate}
use Rattle.text.specs.Bytes.{Bytes}
use Rattle.paths.specs.Held.{all_zero}

-- a part written behind the front of an array
lay : (w y z : Bytes) (n k : ℕ) → length w ≡ n → length y ≡ k → put_mid n k (w ++ z) y ≡ (w ++ y) ++ drop k z
lay w y z n k e f =
    ap (λ (u : Bytes). u ++ (y ++ drop k (drop n (w ++ z)))) (take_at w z n e) ∙ ap (λ (u : Bytes). w ++ (y ++ drop k u)) (drop_at w z n e)
    ∙ sym (append_assoc w y (drop k z))

-- three parts, each copied behind the one before
module _ (a b c x y w z : Bytes) (ex : x ≡ a) (ey : y ≡ b) (ew : w ≡ c) where
  first_two : put_mid (length a) (length a + length b - length a) (x ++ drop (length a) z) y ≡ (a ++ b) ++ drop (length a + length b) z
  first_two =
      let k : length a + length b - length a ≡ length b = omega arith in
      ap (λ (u : Bytes). put_mid (length a) (length a + length b - length a) (u ++ drop (length a) z) y) ex
      ∙ ap (put_mid (length a) (length a + length b - length a) (a ++ drop (length a) z)) ey
      ∙ lay a b (drop (length a) z) (length a) (length a + length b - length a) refl (sym k)
      ∙ ap (λ (n : ℕ). (a ++ b) ++ drop n (drop (length a) z)) k
      ∙ ap (λ (u : Bytes). (a ++ b) ++ u) (drop-drop (length b) (length a) z)

  pub laid : put_mid (length a + length b) (length a + length b + length c - (length a + length b)) (put_mid (length a) (length a + length b - length a) (x ++ drop (length a) z) y) w ≡ (a ++ (b ++ c)) ++ drop (length a + length b + length c) z
  laid =
      let n : ℕ = length a + length b in
      let k : n + length c - n ≡ length c = omega arith in
      ap (λ (u : Bytes). put_mid n (n + length c - n) u w) first_two
      ∙ ap (put_mid n (n + length c - n) ((a ++ b) ++ drop n z)) ew
      ∙ lay (a ++ b) c (drop n z) n (n + length c - n) (length-append a b) (sym k)
      ∙ ap (λ (m : ℕ). ((a ++ b) ++ c) ++ drop m (drop n z)) k
      ∙ ap (λ (u : Bytes). ((a ++ b) ++ c) ++ u) (drop-drop (length c) n z)
      ∙ ap (λ (u : Bytes). u ++ drop (n + length c) z) (append_assoc a b c)

pub three_long : (a b c : Bytes) → length (a ++ (b ++ c)) ≡ length a + length b + length c
three_long a b c = simp length-append (omega arith)

-- ---- what an array of zeros with a text of n bytes at its front holds

zeros : (n : ℕ) → all_zero (replicate n 0) ≡ true
zeros zero = refl
zeros (suc n) = zeros n

module _ (w r : Bytes) (n m : ℕ) (long : length w ≡ n) (fits : n ≤ m) (e : r ≡ w ++ drop n (replicate m 0)) where
  pub padded_text : take n r ≡ w
  padded_text = ap (take n) e ∙ take_at w (drop n (replicate m 0)) n long

  rest : drop n r ≡ replicate (m - n) 0
  rest = ap (drop n) e ∙ drop_at w (drop n (replicate m 0)) n long ∙ drop-replicate n m 0

  pub padded_clean : all_zero (drop n r) ≡ true
  padded_clean = ap all_zero rest ∙ zeros (m - n)

  pub padded_long : length r ≡ m
  padded_long =
      let u : length {A = ℕ} (drop n (replicate m 0)) ≡ m - n = length-drop n (replicate m 0) ∙ ap (λ (k : ℕ). k - n) (length-replicate m 0) in
      ap length e ∙ length-append w (drop n (replicate m 0)) ∙ omega (arith, u)
