-- Numbers byte by byte: what has been read in each phase is a start of a number, and a number where it may end.
-- Assumes nothing.
use Rattle.std.proofs.Common.{◌≡◌, ℕ, Bool, true, false, cond, eqb, List, [], ◌∷◌, ◌++◌, sym, refl, subst, append_assoc, append-nil, arith, Some, None, Option}
use borrow.Author.Tests.{clash}
use Rattle.std.proofs.lemmas.Bool.Decides.{nat_tests}
use Rattle.grammar.specs.Terminals.{is_blank, is_digit, is_positive}
use Rattle.grammar.specs.Numbers.{is_e, is_sign, Digits, d_one, d_more, p_one, p_more, Whole, whole_zero, whole_pos, whole_minus_zero, whole_minus, Mantissa, no_fraction, fraction, no_sign, some_sign, Number, no_exponent, exponent, next_digit, next_e, next_point, next, may_end, At, a_minus, a_zero, a_minus_zero, a_whole, a_minus_whole, a_point, a_fraction, a_e, a_sign, a_exponent}
use Rattle.grammar.specs.declared.kinds.Phase.{Phase}
use Rattle.grammar.specs.declared.kinds.Phase.TheVariants.{AtMinus, AtZero, AtWhole, AtPoint, AtFraction, AtE, AtSign, AtExponent}

pub eqb_is : (a b : ℕ) → eqb a b ≡ true → a ≡ b
eqb_is a b h = grind (arith, nat_tests)

abbrev pub Goes : Option Phase → List ℕ → Type 0
Goes None r = Unit {0}
Goes (Some p) r = At p r

at_is : {p : Phase} {r s : List ℕ} → At p r → r ≡ s → At p s
at_is {p} a e = subst (λ (x : List ℕ). At p x) e a

by : (z : Bool) (m n : Option Phase) (t : List ℕ) → (z ≡ true → Goes m t) → (z ≡ false → Goes n t) → Goes (cond z m n) t
by true m n t f g = f refl
by false m n t f g = g refl

by_digit : (p : Phase) (b : ℕ) (t : List ℕ) → (is_digit b ≡ true → At p t) → Goes (next_digit p b) t
by_digit p b t f = by (is_digit b) (Some p) None t f (λ _. tt)

by_e : (r : List ℕ) → Mantissa r → (b : ℕ) → Goes (next_e b) (r ++ (b ∷ []))
by_e r m b = by (is_e b) (Some AtE) None (r ++ (b ∷ [])) (λ e. a_e b m e) (λ _. tt)

by_point : (r : List ℕ) → Whole r → (b : ℕ) → Goes (next_point b) (r ++ (b ∷ []))
by_point r w b =
    by (eqb b 46) (Some AtPoint) (next_e b) (r ++ (b ∷ []))
    (λ e. subst (λ (x : ℕ). At AtPoint (r ++ (x ∷ []))) (sym (eqb_is b 46 e)) (a_point w)) (λ _. by_e r (no_fraction w) b)

pub goes_on : {p : Phase} {r : List ℕ} → At p r → (b : ℕ) → Goes (next p b) (r ++ (b ∷ []))
goes_on a_minus b =
    by (eqb b 48) (Some AtZero) (cond (is_positive b) (Some AtWhole) None) (45 ∷ b ∷ [])
    (λ e. subst (λ (x : ℕ). At AtZero (45 ∷ x ∷ [])) (sym (eqb_is b 48 e)) a_minus_zero)
    (λ _. by (is_positive b) (Some AtWhole) None (45 ∷ b ∷ []) (λ e. a_minus_whole (p_one b e)) (λ _. tt))
goes_on a_zero b = by_point (48 ∷ []) whole_zero b
goes_on a_minus_zero b = by_point (45 ∷ 48 ∷ []) whole_minus_zero b
goes_on (a_whole {r} ps) b =
    by (is_digit b) (Some AtWhole) (next_point b) (r ++ (b ∷ [])) (λ e. a_whole (p_more b ps e)) (λ _. by_point r (whole_pos ps) b)
goes_on (a_minus_whole {r} ps) b =
    by (is_digit b) (Some AtWhole) (next_point b) (45 ∷ (r ++ (b ∷ []))) (λ e. a_minus_whole (p_more b ps e)) (λ _. by_point (45 ∷ r) (whole_minus ps) b)
goes_on (a_point {r} w) b =
    by_digit AtFraction b ((r ++ (46 ∷ [])) ++ (b ∷ [])) (λ e. at_is (a_fraction w (d_one b e)) (simp append_assoc))
goes_on (a_fraction {r} {f} w ds) b =
    by (is_digit b) (Some AtFraction) (next_e b) ((r ++ (46 ∷ f)) ++ (b ∷ []))
    (λ e. at_is (a_fraction w (d_more b ds e)) (simp append_assoc)) (λ _. by_e (r ++ (46 ∷ f)) (fraction w ds) b)
goes_on (a_e {r} g m h) b =
    by (is_sign b) (Some AtSign) (next_digit AtExponent b) ((r ++ (g ∷ [])) ++ (b ∷ []))
    (λ e. at_is (a_sign g m h (some_sign b e)) (simp append_assoc))
    (λ _. by_digit AtExponent b ((r ++ (g ∷ [])) ++ (b ∷ [])) (λ e. at_is (a_exponent g m h no_sign (d_one b e)) (simp append_assoc)))
goes_on (a_sign {r} {s} g m h sg) b =
    by_digit AtExponent b ((r ++ (g ∷ s)) ++ (b ∷ [])) (λ e. at_is (a_exponent g m h sg (d_one b e)) (simp append_assoc))
goes_on (a_exponent {r} {s} {x} g m h sg ds) b =
    by_digit AtExponent b ((r ++ (g ∷ (s ++ x))) ++ (b ∷ [])) (λ e. at_is (a_exponent g m h sg (d_more b ds e)) (simp append_assoc))

zero_digit : Digits (48 ∷ [])
zero_digit = d_one 48 refl

-- what has been read can be continued to a number
pub can_go : {p : Phase} {r : List ℕ} → At p r → (u : List ℕ) × Number (r ++ u)
can_go a_minus = (48 ∷ [], no_exponent (no_fraction whole_minus_zero))
can_go a_zero = ([], no_exponent (no_fraction whole_zero))
can_go a_minus_zero = ([], no_exponent (no_fraction whole_minus_zero))
can_go (a_whole ps) = ([], rw append-nil (no_exponent (no_fraction (whole_pos ps))))
can_go (a_minus_whole ps) = ([], rw append-nil (no_exponent (no_fraction (whole_minus ps))))
can_go (a_point w) = (48 ∷ [], rw append_assoc (no_exponent (fraction w zero_digit)))
can_go (a_fraction w ds) = ([], rw append-nil (no_exponent (fraction w ds)))
can_go (a_e g m h) = (48 ∷ [], rw append_assoc (exponent g m h no_sign zero_digit))
can_go (a_sign g m h sg) = (48 ∷ [], rw append_assoc (exponent g m h sg zero_digit))
can_go (a_exponent g m h sg ds) = ([], rw append-nil (exponent g m h sg ds))

-- and is one where it may end
pub ends : {p : Phase} {r : List ℕ} → At p r → may_end p ≡ true → Number r
ends a_minus h = absurd (clash h)
ends a_zero h = no_exponent (no_fraction whole_zero)
ends a_minus_zero h = no_exponent (no_fraction whole_minus_zero)
ends (a_whole ps) h = no_exponent (no_fraction (whole_pos ps))
ends (a_minus_whole ps) h = no_exponent (no_fraction (whole_minus ps))
ends (a_point w) h = absurd (clash h)
ends (a_fraction w ds) h = no_exponent (fraction w ds)
ends (a_e g m f) h = absurd (clash h)
ends (a_sign g m f sg) h = absurd (clash h)
ends (a_exponent g m f sg ds) h = exponent g m f sg ds

-- ---- what bytes do in the phases
pub digit_whole : (b : ℕ) → is_digit b ≡ true → next AtWhole b ≡ Some AtWhole
digit_whole b h = rw h refl

pub digit_point : (b : ℕ) → is_digit b ≡ true → next AtPoint b ≡ Some AtFraction
digit_point b h = rw h refl

pub digit_fraction : (b : ℕ) → is_digit b ≡ true → next AtFraction b ≡ Some AtFraction
digit_fraction b h = rw h refl

pub digit_e : (b : ℕ) → is_digit b ≡ true → next AtE b ≡ Some AtExponent
digit_e b h = grind (arith, nat_tests)

pub digit_sign : (b : ℕ) → is_digit b ≡ true → next AtSign b ≡ Some AtExponent
digit_sign b h = rw h refl

pub digit_exponent : (b : ℕ) → is_digit b ≡ true → next AtExponent b ≡ Some AtExponent
digit_exponent b h = rw h refl

pub positive_minus : (b : ℕ) → is_positive b ≡ true → next AtMinus b ≡ Some AtWhole
positive_minus b h = grind (arith, nat_tests)

pub e_zero : (b : ℕ) → is_e b ≡ true → next AtZero b ≡ Some AtE
e_zero b h = grind (arith, nat_tests)

pub e_whole : (b : ℕ) → is_e b ≡ true → next AtWhole b ≡ Some AtE
e_whole b h = grind (arith, nat_tests)

pub e_fraction : (b : ℕ) → is_e b ≡ true → next AtFraction b ≡ Some AtE
e_fraction b h = grind (arith, nat_tests)

pub sign_e : (b : ℕ) → is_sign b ≡ true → next AtE b ≡ Some AtSign
sign_e b h = rw h refl

-- a byte that no number goes on with
abbrev pub quiet : ℕ → Bool
quiet b = cond (is_digit b) false (cond (eqb b 46) false (cond (is_e b) false (cond (is_sign b) false true)))

pub blank_quiet : (b : ℕ) → is_blank b ≡ true → quiet b ≡ true
blank_quiet b h = grind (arith, nat_tests)

pub quiet_stops : (b : ℕ) → quiet b ≡ true → (p : Phase) → next p b ≡ None
quiet_stops b h AtMinus = grind (arith, nat_tests)
quiet_stops b h AtZero = grind (arith, nat_tests)
quiet_stops b h AtWhole = grind (arith, nat_tests)
quiet_stops b h AtPoint = grind (arith, nat_tests)
quiet_stops b h AtFraction = grind (arith, nat_tests)
quiet_stops b h AtE = grind (arith, nat_tests)
quiet_stops b h AtSign = grind (arith, nat_tests)
quiet_stops b h AtExponent = grind (arith, nat_tests)
