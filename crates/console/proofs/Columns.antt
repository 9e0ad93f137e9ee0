-- What a hole with a width writes, as columns. Assumes nothing.
use Rattle.std.proofs.Common.{◌≡◌, ℕ, zero, suc, ◌-◌, Bool, true, false, eqb, true-eqb, [], ◌∷◌, ◌++◌, length, codes, decimal, sym, refl, ap, ◌∙◌, append-nil, arith}
use Rattle.std.specs.Fmt.{format_spec, styled_decimal, styled_text, padded_integral, padded, take_chars, char_count}
use Rattle.std.specs.List.{repeat}
use Rattle.text.specs.Bytes.{Bytes}
use Rattle.classes.specs.declared.found.Kind.{Kind}
use Rattle.classes.specs.declared.found.Kind.TheVariants.{Version3, Array2, Group2}
use Rattle.classes.specs.Sights.{kind_name}
use Rattle.console.specs.Reports.{spaces, at_right, at_left}

filled : (n : ℕ) → repeat {A = ℕ} n (32 ∷ []) ≡ spaces n
filled zero = refl
filled (suc n) = ap (λ l. 32 ∷ l) (filled n)

-- fill before a text, and none behind it
placed : (before room after t : Bytes) → before ≡ room → after ≡ [] → before ++ (t ++ after) ≡ room ++ t
placed before room after t e f = ap (λ l. l ++ (t ++ after)) e ∙ ap (λ l. room ++ (t ++ l)) f ∙ ap (λ l. room ++ l) (append-nil t)

-- nothing behind the fill
bare : (t : Bytes) → ((t ++ []) ++ []) ++ [] ≡ t
bare t = append-nil ((t ++ []) ++ []) ∙ append-nil (t ++ []) ∙ append-nil t

no_fill : (n : ℕ) → repeat {A = ℕ} (n - n) (32 ∷ []) ≡ []
no_fill n = let none : n - n ≡ 0 = omega arith in ap (λ k. repeat {A = ℕ} k (32 ∷ [])) none

padded_number : (w : ℕ) (d : Bytes) → padded_integral (format_spec 32 3 0 w 18446744073709551615) false [] d ≡ at_right w d
unfolding padded_integral char_count lib.Utf8.encode
padded_number w d =
    let room : w - length d - 0 - 0 ≡ w - length d = omega arith in
    placed _ _ _ d (bare (repeat {A = ℕ} (w - length d - 0 - 0) (32 ∷ [])) ∙ filled (w - length d - 0 - 0) ∙ ap spaces room) (no_fill (w - length d - 0 - 0))

number_by_width : (w n : ℕ) (b : Bool) → eqb w 0 ≡ b → styled_decimal (format_spec 32 3 0 w 18446744073709551615) n ≡ at_right w (decimal n)
number_by_width w n true e =
    let zero_wide = true-eqb w 0 (sym e) in
    let none : 0 ≡ w - length (decimal n) = omega arith in
    rw e (ap (λ k. spaces k ++ decimal n) none)
number_by_width w n false e = rw e (padded_number w (decimal n))

-- a number at the right of a column
pub number_at_right : (s : _) (w n : ℕ) → s ≡ format_spec 32 3 0 w 18446744073709551615 → styled_decimal s n ≡ at_right w (decimal n)
number_at_right s w n e = ap (λ x. styled_decimal x n) e ∙ number_by_width w n (eqb w 0) refl

padded_head : (w : ℕ) → padded (format_spec 32 3 0 w 18446744073709551615) (codes "No.") ≡ at_right w (codes "No.")
unfolding padded take_chars char_count lib.Utf8.encode
padded_head w = placed _ _ _ (codes "No.") (filled (w - 3)) (no_fill (w - 3))

head_by_width : (w : ℕ) (b : Bool) → eqb w 0 ≡ b → styled_text (format_spec 32 3 0 w 18446744073709551615) (codes "No.") ≡ at_right w (codes "No.")
head_by_width w true e =
    let zero_wide = true-eqb w 0 (sym e) in
    let none : 0 ≡ w - 3 = omega arith in
    rw e (ap (λ k. spaces k ++ codes "No.") none)
head_by_width w false e = rw e (padded_head w)

-- the head of the numbers at the right of its column
pub head_at_right : (s : _) (w : ℕ) → s ≡ format_spec 32 3 0 w 18446744073709551615 → styled_text s (codes "No.") ≡ at_right w (codes "No.")
head_at_right s w e = ap (λ x. styled_text x (codes "No.")) e ∙ head_by_width w (eqb w 0) refl

-- what a node is at the left of its column
pub kind_at_left : (s : _) (k : Kind) → s ≡ format_spec 32 1 0 10 18446744073709551615 → styled_text s (kind_name k) ≡ at_left 10 (kind_name k)
unfolding padded take_chars char_count lib.Utf8.encode
kind_at_left s Version3 e = ap (λ x. styled_text x (kind_name Version3)) e
kind_at_left s Array2 e = ap (λ x. styled_text x (kind_name Array2)) e
kind_at_left s Group2 e = ap (λ x. styled_text x (kind_name Group2)) e
