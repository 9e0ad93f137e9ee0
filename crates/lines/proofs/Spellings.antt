-- Digits in pairs, tested one by one.
-- Assumes nothing.
use Rattle.std.proofs.Common.{◌≡◌, ◌%◌, Bool, true, false, ◌&&◌, [], ◌∷◌, length, refl, ap, ◌∙◌, arith}
use Rattle.std.specs.Char.{is_ascii_hexdigit}
use Rattle.std.specs.List.{list_all}
use Rattle.text.specs.Bytes.{Bytes}
use Rattle.lines.specs.Words.{is_hex, are_hex}

grouped : (a b c : Bool) → ((a && b) && c) ≡ (a && (b && c))
grouped true b c = refl
grouped false b c = refl

-- an even number of digits, and an odd one
pub even_hex : (s : Bytes) → length s % 2 ≡ 0 → are_hex s ≡ list_all is_ascii_hexdigit s
even_hex [] h = refl
even_hex (a ∷ []) h = absurd (omega arith)
even_hex (a ∷ b ∷ t) h = ap (λ c. (is_hex a && is_hex b) && c) (even_hex t (omega arith)) ∙ grouped (is_hex a) (is_hex b) (list_all is_ascii_hexdigit t)

never : (a : Bool) → (a && false) ≡ false
never true = refl
never false = refl

pub odd_hex : (s : Bytes) → (length s % 2 ≡ 0 → ⊥) → are_hex s ≡ false
odd_hex [] h = absurd (h refl)
odd_hex (a ∷ []) h = refl
odd_hex (a ∷ b ∷ t) h = ap (λ c. (is_hex a && is_hex b) && c) (odd_hex t (λ e. h (omega arith))) ∙ never (is_hex a && is_hex b)
