-- Text by the table: two texts in a row, an ASCII byte in front, and an ASCII byte to cut at.
-- Assumes nothing.
use Rattle.std.proofs.Common.{◌≡◌, ℕ, ◌≤◌, Bool, true, false, cond, ◌&&◌, ltb, leb, List, [], ◌∷◌, ◌++◌, sym, refl, ◌∙◌, arith, ltb-true, le-leb, leb-true}
use borrow.Author.Tests.{clash}
use Rattle.text.specs.Bytes.{Bytes}
use Rattle.text.specs.Utf8.{Range, range, inside, rows, begins, behind, is_text_in, is_text}

-- ---- tests
pub both : (x y : Bool) → (x && y) ≡ true → (x ≡ true) × (y ≡ true)
both true y e = (refl, e)
both false y e = (e, absurd (clash e))

pub and : (x y : Bool) → x ≡ true → y ≡ true → (x && y) ≡ true
and x y e f = rw (e, f)

pub inside_low : (r : Range) (b : ℕ) → inside r b ≡ true → (r.low ≤ b) × (b ≤ r.high)
inside_low r b e =
    let p = both (leb r.low b) (leb b r.high) e in
    (leb-true r.low b p.0, leb-true b r.high p.1)

pub is_inside : (r : Range) (b : ℕ) → r.low ≤ b → b ≤ r.high → inside r b ≡ true
is_inside r b l h = and (leb r.low b) (leb b r.high) (le-leb r.low b l) (le-leb b r.high h)

-- ---- two texts in a row
run-append : (p : List Range) (a b : Bytes) → is_text_in p a ≡ true → is_text_in p (a ++ b) ≡ is_text b
run-append [] [] b h = refl
run-append (r ∷ p) [] b h = absurd (clash h)
run-append [] (x ∷ a) b h =
    let s = both (begins rows x) (is_text_in (behind rows x) a) h in
    rw s.0 (run-append (behind rows x) a b s.1)
run-append (r ∷ p) (x ∷ a) b h = let s = both (inside r x) (is_text_in p a) h in rw s.0 (run-append p a b s.1)

pub text_append : (a b : Bytes) → is_text a ≡ true → is_text (a ++ b) ≡ is_text b
text_append a b h = run-append [] a b h

-- ---- an ASCII byte
pub text_plain : (b : ℕ) (t : Bytes) → b ≤ 127 → is_text (b ∷ t) ≡ is_text t
text_plain b t h = rw (is_inside (range 0x00 0x7F) b (omega arith) h)

-- each of the ranges lies above ASCII; so do those behind the first of each row
abbrev high : List Range → Bool
high [] = true
high (r ∷ p) = ltb 127 r.low && high p

abbrev highs : List (List Range) → Bool
highs [] = true
highs ([] ∷ more) = highs more
highs ((r ∷ p) ∷ more) = high p && highs more

high_behind : (ms : List (List Range)) (x : ℕ) → highs ms ≡ true → high (behind ms x) ≡ true
high_behind [] x h = refl
high_behind ([] ∷ more) x h = high_behind more x h
high_behind ((r ∷ p) ∷ more) x h =
    let s = both (high p) (highs more) h in
    elim (inside r x) as (λ t. high (cond t p (behind more x)) ≡ true) [ true ↦ s.0 | false ↦ high_behind more x s.1 ]

run-cut : (p : List Range) (a b : Bytes) (c : ℕ) → high p ≡ true → c ≤ 127 → is_text_in p (a ++ (c ∷ b)) ≡ true → (is_text_in p a ≡ true) × (is_text b ≡ true)
run-cut [] [] b c up h e = (refl, sym (text_plain c b h) ∙ e)
run-cut (r ∷ p) [] b c up h e =
    let s = both (inside r c) (is_text_in p b) e in
    let w = inside_low r c s.0 in
    let u = ltb-true 127 r.low (both (ltb 127 r.low) (high p) up).0 in
    absurd (omega arith)
run-cut [] (x ∷ a) b c up h e =
    let s = both (begins rows x) (is_text_in (behind rows x) (a ++ (c ∷ b))) e in
    let w = run-cut (behind rows x) a b c (high_behind rows x refl) h s.1 in
    (and (begins rows x) (is_text_in (behind rows x) a) s.0 w.0, w.1)
run-cut (r ∷ p) (x ∷ a) b c up h e =
    let s = both (inside r x) (is_text_in p (a ++ (c ∷ b))) e in
    let w = run-cut p a b c (both (ltb 127 r.low) (high p) up).1 h s.1 in
    (and (inside r x) (is_text_in p a) s.0 w.0, w.1)

-- an ASCII byte never lies inside a longer sequence
pub text_cut : (a b : Bytes) (c : ℕ) → c ≤ 127 → is_text (a ++ (c ∷ b)) ≡ true → (is_text a ≡ true) × (is_text b ≡ true)
text_cut a b c h e = run-cut [] a b c refl h e
