-- Two texts one after the other, cut.
-- Assumes nothing.
use Rattle.std.proofs.Common.{◌≡◌, ℕ, zero, suc, ◌-◌, min, [], ◌∷◌, ◌++◌, length, take, refl, ap, ◌∙◌, arith}
use Rattle.std.proofs.lemmas.List.{take_min}
use Rattle.text.specs.Bytes.{Bytes}

take_two : (n : ℕ) (xs ys : Bytes) → take n xs ++ take (n - length (take n xs)) ys ≡ take n (xs ++ ys)
take_two zero xs ys = refl
take_two (suc n) [] ys = let e : suc n - 0 ≡ suc n = omega arith in ap (λ (m : ℕ). take m ys) e
take_two (suc n) (x ∷ xs) ys =
    let e : suc n - suc (length (take n xs)) ≡ n - length (take n xs) = omega arith in
    ap (λ (m : ℕ). x ∷ (take n xs ++ take m ys)) e ∙ ap (λ (t : Bytes). x ∷ t) (take_two n xs ys)

pub take_cut : (n a b : ℕ) (xs ys : Bytes) → a ≡ min (length xs) n → b ≡ min (length ys) (n - length (take a xs)) → take a xs ++ take b ys ≡ take n (xs ++ ys)
take_cut n a b xs ys ea eb =
    let p : take a xs ≡ take n xs = ap (λ (m : ℕ). take m xs) (let u : a ≡ min n (length xs) = omega arith in u) ∙ take_min n xs in
    let l : length (take a xs) ≡ length (take n xs) = ap length p in
    let v : b ≡ min (n - length (take n xs)) (length ys) = omega arith in
    let q : take b ys ≡ take (n - length (take n xs)) ys = ap (λ (m : ℕ). take m ys) v ∙ take_min (n - length (take n xs)) ys in
    ap (λ (t : Bytes). t ++ take b ys) p ∙ ap (λ (t : Bytes). take n xs ++ t) q ∙ take_two n xs ys
