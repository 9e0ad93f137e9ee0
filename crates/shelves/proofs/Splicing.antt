-- A part of the bytes replaced by moving what is behind it and writing over it.
-- Assumes nothing.
use Rattle.std.proofs.Common.{◌≡◌, ℕ, ◌+◌, ◌-◌, ◌≤◌, ◌++◌, length, take, drop, ap, ◌∙◌, arith}
use lib.Seq.{paste}
use Rattle.std.proofs.lemmas.List.{append_assoc, drop-drop, drop_at, take-take, take-append-le, length-take-le}
use Rattle.text.specs.Bytes.{Bytes}

-- w are the bytes after the move, and t is what was written at p
pub spliced : (b v w t : Bytes) (p old used : ℕ) → w ≡ paste b (p + length v) (drop (p + old) b) (used - (p + old)) → t ≡ v → p + old ≤ used → used ≤ length b → used + length v ≤ length b + old
    → take p w ++ (t ++ drop (p + length v - p) (drop p w)) ≡ take p b ++ (v ++ (take (used - (p + old)) (drop (p + old) b) ++ drop (used - old + length v) b))
spliced b v w t p old used ew et h1 h2 h3 =
    let n = length v in
    let m = used - (p + old) in
    let rest = take m (drop (p + old) b) ++ drop (p + n + m) b in
    let e : p + n - p ≡ n = omega arith in
    let g : used - old + n ≡ p + n + m = omega arith in
    let a : w ≡ take (p + n) b ++ rest = ew ∙ append_assoc (take (p + n) b) (take m (drop (p + old) b)) (drop (p + n + m) b) in
    let l : length (take (p + n) b) ≡ p + n = length-take-le (p + n) b (omega arith) in
    let f : take p w ≡ take p b = ap (take p) a ∙ take-append-le p (take (p + n) b) rest (omega arith) ∙ take-take p (p + n) b (omega arith) in
    let d : drop n (drop p w) ≡ rest = drop-drop n p w ∙ ap (drop (p + n)) a ∙ drop_at (take (p + n) b) rest (p + n) l in
    cc
