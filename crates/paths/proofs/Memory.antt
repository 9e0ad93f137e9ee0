-- Two path values with the same names are the same in memory.
-- Assumes nothing.
use Rattle.std.proofs.Common.{◌≡◌, ℕ, ◌≤◌, true, eqb, [], ◌∷◌, ◌++◌, length, take, drop, sym, refl, ap, ◌∙◌, arith, length-drop, take-append-drop}
use Rattle.std.proofs.lemmas.List.{length-take-le}
use Rattle.std.proofs.lemmas.Bool.{and_parts, eqb-true}
use Rattle.text.specs.Bytes.{Bytes}
use Rattle.paths.specs.Held.{all_zero}
use Rattle.paths.specs.Memory.{SameNamesSameMemory}
use Rattle.paths.specs.Paths.{rendered}
use Rattle.paths.specs.Values.{path_text}
use Rattle.paths.proofs.Values.{written}

zeros_alike : (x y : Bytes) → all_zero x ≡ true → all_zero y ≡ true → length x ≡ length y → x ≡ y
zeros_alike [] [] hx hy e = refl
zeros_alike [] (b ∷ y) hx hy e = absurd (omega arith)
zeros_alike (a ∷ x) [] hx hy e = absurd (omega arith)
zeros_alike (a ∷ x) (b ∷ y) hx hy e =
    let p = and_parts (eqb a 0) (all_zero x) hx in
    let q = and_parts (eqb b 0) (all_zero y) hy in
    let h : a ≡ b = eqb-true a 0 p.0 ∙ sym (eqb-true b 0 q.0) in
    let t : x ≡ y = zeros_alike x y p.1 q.1 (omega arith) in
    cc

-- two arrays of one length, each a text and zeros
alike : (x y : Bytes) (m n k : ℕ) → length x ≡ k → length y ≡ k → m ≤ k → n ≤ k → take m x ≡ take n y → all_zero (drop m x) ≡ true → all_zero (drop n y) ≡ true → (x ≡ y) × (m ≡ n)
alike x y m n k lx ly hm hn e zx zy =
    let a : length (take m x) ≡ m = length-take-le m x (omega arith) in
    let b : length (take n y) ≡ n = length-take-le n y (omega arith) in
    let s : m ≡ n = sym a ∙ ap length e ∙ b in
    let z : drop m x ≡ drop n y = zeros_alike (drop m x) (drop n y) zx zy (omega (arith, length-drop m x, length-drop n y)) in
    (sym (take-append-drop m x) ∙ ap (λ (u : Bytes). u ++ drop m x) e ∙ ap (λ (u : Bytes). take n y ++ u) z ∙ take-append-drop n y, s)

pub same_names_same_memory_lem : SameNamesSameMemory
same_names_same_memory_lem v w e =
    let t : path_text v ≡ path_text w = sym (written v) ∙ ap rendered e ∙ written w in
    let m = alike v.text.bytes w.text.bytes v.text.len w.text.len 255 v.text.long w.text.long v.text.few w.text.few t v.text.clean w.text.clean in
    (m.0, m.1, v.counted ∙ ap length e ∙ sym w.counted)
