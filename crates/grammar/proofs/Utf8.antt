-- Permitted texts are UTF-8: each token is, and two texts in a row are one.
-- Assumes nothing.
use Rattle.std.proofs.Common.{◌≡◌, ℕ, ◌≤◌, Bool, true, false, cond, ◌&&◌, leb, List, [], ◌∷◌, ◌++◌, sym, refl, ap, ◌∙◌, inl, inr, arith, leb-false, leb-true, Some}
use Rattle.std.proofs.lemmas.Bool.Decides.{nat_tests}
use Rattle.text.specs.Utf8.{Range, range, inside, of_row, is_text}
use Rattle.text.proofs.Texts.{both, and, is_inside, inside_low, text_append, text_plain}
use Rattle.text.proofs.Tables.{row_text_lem}
use Rattle.grammar.specs.Ast.{Json, Items, Members}
use Rattle.grammar.specs.Terminals.{is_blank, is_digit, is_positive, is_hex, is_d, char_of, behind, escape_of, first_of, second_of, fits}
use Rattle.grammar.specs.Numbers.{is_e, is_sign, Digits, d_one, d_more, Positive, p_one, p_more, Whole, whole_zero, whole_pos, whole_minus_zero, whole_minus, Mantissa, no_fraction, fraction, Sign, no_sign, some_sign, Number, no_exponent, exponent}
use Rattle.grammar.specs.Grammar.{Ws, w_none, w_more, Seq, q_none, q_more, Chars, c_none, c_plain, c_long, c_escape, c_unit, c_unit_d, c_pair, Named, named, Shows, s_null, s_true, s_false, s_num, s_str, s_arr0, s_arr, s_obj0, s_obj, Padded, padded, ShowsItems, i_one, i_more, ShowsMembers, m_one, m_more}
use Rattle.grammar.specs.Laws.{TextsAreUtf8}
use Rattle.grammar.specs.declared.kinds.Class.{Class}
use Rattle.grammar.specs.declared.kinds.Class.TheVariants.{In, Hex, IsD, CtoF}
use Rattle.grammar.specs.declared.kinds.Lead.{Lead}
use Rattle.grammar.specs.declared.kinds.Lead.TheVariants as lead
use Rattle.grammar.specs.declared.kinds.Char.TheVariants.{Plain, Long}
use Rattle.grammar.specs.declared.kinds.Escape.TheVariants.{Simple}
use Rattle.grammar.specs.declared.kinds.FirstHex.TheVariants.{FirstD, OtherHex}
use Rattle.grammar.specs.declared.kinds.SecondHex.TheVariants as second

abbrev Good : List ℕ → Type 0
Good t = is_text t ≡ true

plus : (a b : List ℕ) → Good a → Good b → Good (a ++ b)
plus a b h g = text_append a b h ∙ g

ascii : (b : ℕ) (t : List ℕ) → b ≤ 127 → Good t → Good (b ∷ t)
ascii b t h e = text_plain b t h ∙ e

one : (b : ℕ) → b ≤ 127 → Good (b ∷ [])
one b h = ascii b [] h refl

then_one : (a : List ℕ) (b : ℕ) → Good a → b ≤ 127 → Good (a ++ (b ∷ []))
then_one a b g h = plus a (b ∷ []) g (one b h)

-- ---- bytes
blank_low : (b : ℕ) → is_blank b ≡ true → b ≤ 127
blank_low b h = grind (arith, nat_tests)

digit_low : (b : ℕ) → is_digit b ≡ true → b ≤ 127
digit_low b h = grind (arith, nat_tests)

positive_low : (b : ℕ) → is_positive b ≡ true → b ≤ 127
positive_low b h = grind (arith, nat_tests)

e_low : (b : ℕ) → is_e b ≡ true → b ≤ 127
e_low b h = grind (arith, nat_tests)

sign_low : (b : ℕ) → is_sign b ≡ true → b ≤ 127
sign_low b h = grind (arith, nat_tests)

plain_low : (b : ℕ) → char_of b ≡ Some Plain → b ≤ 127
plain_low b h = grind (arith, nat_tests)

simple_low : (b : ℕ) → escape_of b ≡ Some Simple → b ≤ 127
simple_low b h = grind (arith, nat_tests)

hex_low : (b : ℕ) → is_hex b ≡ true → b ≤ 127
hex_low b h = grind (arith, nat_tests)

d_low : (b : ℕ) → is_d b ≡ true → b ≤ 127
d_low b h = grind (arith, nat_tests)

c_low : (b : ℕ) → fits CtoF b ≡ true → b ≤ 127
c_low b h = grind (arith, nat_tests)

first_low : (b : ℕ) → first_of b ≡ Some OtherHex → b ≤ 127
first_low b h = grind (arith, nat_tests)

first_d_low : (b : ℕ) → first_of b ≡ Some FirstD → b ≤ 127
first_d_low b h = grind (arith, nat_tests)

whole_low : (b : ℕ) → second_of b ≡ Some second.Whole → b ≤ 127
whole_low b h = grind (arith, nat_tests)

high_low : (b : ℕ) → second_of b ≡ Some second.High → b ≤ 127
high_low b h = grind (arith, nat_tests)

-- ---- the bytes behind the first
range_of : Class → Range
range_of (In lo hi) = range lo hi
range_of Hex = range 0 127
range_of IsD = range 0 127
range_of CtoF = range 0 127

ranges : List Class → List Range
ranges [] = []
ranges (c ∷ cs) = range_of c ∷ ranges cs

as_and : (x y : Bool) → cond x y false ≡ (x && y)
as_and true y = refl
as_and false y = refl

fits-inside : (c : Class) (b : ℕ) → fits c b ≡ true → inside (range_of c) b ≡ true
unfolding range_of
fits-inside (In lo hi) b h = sym (as_and (leb lo b) (leb b hi)) ∙ h
fits-inside Hex b h = is_inside (range 0 127) b (omega arith) (hex_low b h)
fits-inside IsD b h = is_inside (range 0 127) b (omega arith) (d_low b h)
fits-inside CtoF b h = is_inside (range 0 127) b (omega arith) (c_low b h)

seq_row : {cs : List Class} {v : List ℕ} → Seq cs v → of_row (ranges cs) v ≡ true
unfolding ranges
seq_row q_none = refl
seq_row (q_more {c} {cs} {v} b h q) = and (inside (range_of c) b) (of_row (ranges cs) v) (fits-inside c b h) (seq_row q)

low : List Class → Bool
low [] = true
low (c ∷ cs) = leb (range_of c).high 127 && low cs

seq_low : {cs : List Class} {v : List ℕ} → Seq cs v → low cs ≡ true → Good v
unfolding low
seq_low q_none h = refl
seq_low (q_more {c} {cs} {v} b f q) h =
    let s = both (leb (range_of c).high 127) (low cs) h in
    let w = inside_low (range_of c) b (fits-inside c b f) in
    let m = leb-true (range_of c).high 127 s.0 in
    ascii b v (omega arith) (seq_low q s.1)

-- ---- the rows
two_in : (b : ℕ) → char_of b ≡ Some (Long lead.Two) → (194 ≤ b) × (b ≤ 223)
two_in b h = (grind (arith, nat_tests), grind (arith, nat_tests))

e0_in : (b : ℕ) → char_of b ≡ Some (Long lead.ThreeE0) → b ≡ 224
e0_in b h = grind (arith, nat_tests)

three_in : (b : ℕ) → char_of b ≡ Some (Long lead.Three) → (225 ≤ b) × (b ≤ 239)
three_in b h = (grind (arith, nat_tests), grind (arith, nat_tests))

three_not : (b : ℕ) → char_of b ≡ Some (Long lead.Three) → b ≡ 237 → ⊥
three_not b h e = let z : char_of 237 ≡ Some (Long lead.Three) = ap char_of (sym e) ∙ h in grind arith

ed_in : (b : ℕ) → char_of b ≡ Some (Long lead.ThreeED) → b ≡ 237
ed_in b h = grind (arith, nat_tests)

f0_in : (b : ℕ) → char_of b ≡ Some (Long lead.FourF0) → b ≡ 240
f0_in b h = grind (arith, nat_tests)

four_in : (b : ℕ) → char_of b ≡ Some (Long lead.Four) → (241 ≤ b) × (b ≤ 243)
four_in b h = (grind (arith, nat_tests), grind (arith, nat_tests))

f4_in : (b : ℕ) → char_of b ≡ Some (Long lead.FourF4) → b ≡ 244
f4_in b h = grind (arith, nat_tests)

row : (r : Range) (b : ℕ) (rs : List Range) (v : List ℕ) → r.low ≤ b → b ≤ r.high → of_row rs v ≡ true → of_row (r ∷ rs) (b ∷ v) ≡ true
row r b rs v l h e = and (inside r b) (of_row rs v) (is_inside r b l h) e

three : (b : ℕ) {v : List ℕ} → char_of b ≡ Some (Long lead.Three) → Seq (behind lead.Three) v → (z : Bool) → leb b 236 ≡ z → Good (b ∷ v)
unfolding ranges range_of
three b {v} h q true e =
    let t = range 0x80 0xBF in
    let i = three_in b h in
    let l = leb-true b 236 e in
    row_text_lem (range 0xE1 0xEC ∷ t ∷ t ∷ []) (b ∷ v) (inr (inr (inr (inl refl)))) (row (range 0xE1 0xEC) b (t ∷ t ∷ []) v i.0 l (seq_row q))
three b {v} h q false e =
    let t = range 0x80 0xBF in
    let i = three_in b h in
    let l = leb-false b 236 e in
    let n = three_not b h in
    row_text_lem (range 0xEE 0xEF ∷ t ∷ t ∷ []) (b ∷ v) (inr (inr (inr (inr (inr (inl refl)))))) (row (range 0xEE 0xEF) b (t ∷ t ∷ []) v (omega arith) i.1 (seq_row q))

long_text : (l : Lead) (b : ℕ) {v : List ℕ} → char_of b ≡ Some (Long l) → Seq (behind l) v → Good (b ∷ v)
unfolding ranges range_of
long_text lead.Two b {v} h q =
    let i = two_in b h in
    row_text_lem (range 0xC2 0xDF ∷ range 0x80 0xBF ∷ []) (b ∷ v) (inr (inl refl)) (row (range 0xC2 0xDF) b (range 0x80 0xBF ∷ []) v i.0 i.1 (seq_row q))
long_text lead.ThreeE0 b {v} h q =
    let i = e0_in b h in
    row_text_lem (range 0xE0 0xE0 ∷ range 0xA0 0xBF ∷ range 0x80 0xBF ∷ []) (b ∷ v) (inr (inr (inl refl)))
    (row (range 0xE0 0xE0) b (range 0xA0 0xBF ∷ range 0x80 0xBF ∷ []) v (omega arith) (omega arith) (seq_row q))
long_text lead.Three b h q = three b h q (leb b 236) refl
long_text lead.ThreeED b {v} h q =
    let i = ed_in b h in
    row_text_lem (range 0xED 0xED ∷ range 0x80 0x9F ∷ range 0x80 0xBF ∷ []) (b ∷ v) (inr (inr (inr (inr (inl refl)))))
    (row (range 0xED 0xED) b (range 0x80 0x9F ∷ range 0x80 0xBF ∷ []) v (omega arith) (omega arith) (seq_row q))
long_text lead.FourF0 b {v} h q =
    let i = f0_in b h in
    row_text_lem (range 0xF0 0xF0 ∷ range 0x90 0xBF ∷ range 0x80 0xBF ∷ range 0x80 0xBF ∷ []) (b ∷ v) (inr (inr (inr (inr (inr (inr (inl refl)))))))
    (row (range 0xF0 0xF0) b (range 0x90 0xBF ∷ range 0x80 0xBF ∷ range 0x80 0xBF ∷ []) v (omega arith) (omega arith) (seq_row q))
long_text lead.Four b {v} h q =
    let i = four_in b h in
    row_text_lem (range 0xF1 0xF3 ∷ range 0x80 0xBF ∷ range 0x80 0xBF ∷ range 0x80 0xBF ∷ []) (b ∷ v) (inr (inr (inr (inr (inr (inr (inr (inl refl))))))))
    (row (range 0xF1 0xF3) b (range 0x80 0xBF ∷ range 0x80 0xBF ∷ range 0x80 0xBF ∷ []) v i.0 i.1 (seq_row q))
long_text lead.FourF4 b {v} h q =
    let i = f4_in b h in
    row_text_lem (range 0xF4 0xF4 ∷ range 0x80 0x8F ∷ range 0x80 0xBF ∷ range 0x80 0xBF ∷ []) (b ∷ v) (inr (inr (inr (inr (inr (inr (inr (inr (inl refl)))))))))
    (row (range 0xF4 0xF4) b (range 0x80 0x8F ∷ range 0x80 0xBF ∷ range 0x80 0xBF ∷ []) v (omega arith) (omega arith) (seq_row q))

-- ---- tokens
ws_text : {w : List ℕ} → Ws w → Good w
ws_text w_none = refl
ws_text (w_more {w} b ws e) = then_one w b (ws_text ws) (blank_low b e)

digits_text : {r : List ℕ} → Digits r → Good r
digits_text (d_one b h) = one b (digit_low b h)
digits_text (d_more {r} b ds h) = then_one r b (digits_text ds) (digit_low b h)

positive_text : {r : List ℕ} → Positive r → Good r
positive_text (p_one b h) = one b (positive_low b h)
positive_text (p_more {r} b ps h) = then_one r b (positive_text ps) (digit_low b h)

whole_text : {r : List ℕ} → Whole r → Good r
whole_text whole_zero = refl
whole_text (whole_pos ps) = positive_text ps
whole_text whole_minus_zero = refl
whole_text (whole_minus {r} ps) = ascii 45 r (omega arith) (positive_text ps)

mantissa_text : {r : List ℕ} → Mantissa r → Good r
mantissa_text (no_fraction w) = whole_text w
mantissa_text (fraction {r} {f} w ds) = plus r (46 ∷ f) (whole_text w) (ascii 46 f (omega arith) (digits_text ds))

sign_text : {s : List ℕ} → Sign s → Good s
sign_text no_sign = refl
sign_text (some_sign b h) = one b (sign_low b h)

number_text : {r : List ℕ} → Number r → Good r
number_text (no_exponent m) = mantissa_text m
number_text (exponent {r} {s} {x} e m h sg ds) =
    plus r (e ∷ (s ++ x)) (mantissa_text m) (ascii e (s ++ x) (e_low e h) (plus s x (sign_text sg) (digits_text ds)))

escape_text : (t : List ℕ) → Good t → Good (92 ∷ 117 ∷ t)
escape_text t g = ascii 92 (117 ∷ t) (omega arith) (ascii 117 t (omega arith) g)

pub chars_text : {r : List ℕ} → Chars r → Good r
unfolding low range_of
chars_text c_none = refl
chars_text (c_plain {r} b cs h) = then_one r b (chars_text cs) (plain_low b h)
chars_text (c_long {r} {v} b l cs h q) = plus r (b ∷ v) (chars_text cs) (long_text l b h q)
chars_text (c_escape {r} b cs h) = plus r (92 ∷ b ∷ []) (chars_text cs) (ascii 92 (b ∷ []) (omega arith) (one b (simple_low b h)))
chars_text (c_unit {r} {v} b cs h q) = plus r (92 ∷ 117 ∷ b ∷ v) (chars_text cs) (escape_text (b ∷ v) (ascii b v (first_low b h) (seq_low q refl)))
chars_text (c_unit_d {r} {v} b e cs h i q) =
    plus r (92 ∷ 117 ∷ b ∷ e ∷ v) (chars_text cs) (escape_text (b ∷ e ∷ v) (ascii b (e ∷ v) (first_d_low b h) (ascii e v (whole_low e i) (seq_low q refl))))
chars_text (c_pair {r} {v} b e cs h i q) =
    plus r (92 ∷ 117 ∷ b ∷ e ∷ v) (chars_text cs) (escape_text (b ∷ e ∷ v) (ascii b (e ∷ v) (first_d_low b h) (ascii e v (high_low e i) (seq_low q refl))))

-- a token between two ASCII bytes
between : (a b : ℕ) (t : List ℕ) → a ≤ 127 → b ≤ 127 → Good t → Good (a ∷ (t ++ (b ∷ [])))
between a b t h g e = ascii a (t ++ (b ∷ [])) h (then_one t b e g)

named_text : {n u : List ℕ} → Named n u → Good u
named_text (named {n} {w} {v} ws cs vs) =
    plus w (34 ∷ (n ++ (34 ∷ v))) (ws_text ws)
    (ascii 34 (n ++ (34 ∷ v)) (omega arith) (plus n (34 ∷ v) (chars_text cs) (ascii 34 v (omega arith) (ws_text vs))))

mutual
  shows_text : {d : ℕ} {j : Json} {t : List ℕ} → Shows d j t → Good t
  shows_text s_null = refl
  shows_text s_true = refl
  shows_text s_false = refl
  shows_text (s_num n) = number_text n
  shows_text (s_str {r = r} cs) = between 34 34 r (omega arith) (omega arith) (chars_text cs)
  shows_text (s_arr0 {w = w} ws) = between 91 93 w (omega arith) (omega arith) (ws_text ws)
  shows_text (s_arr {t = t} is) = between 91 93 t (omega arith) (omega arith) (items_text is)
  shows_text (s_obj0 {w = w} ws) = between 123 125 w (omega arith) (omega arith) (ws_text ws)
  shows_text (s_obj {t = t} is) = between 123 125 t (omega arith) (omega arith) (members_text is)

  padded_text : {d : ℕ} {j : Json} {t : List ℕ} → Padded d j t → Good t
  padded_text (padded {w = w} {t = t} {v = v} ws sh vs) = plus w (t ++ v) (ws_text ws) (plus t v (shows_text sh) (ws_text vs))

  items_text : {d : ℕ} {xs : Items} {x : Json} {t : List ℕ} → ShowsItems d xs x t → Good t
  items_text (i_one p) = padded_text p
  items_text (i_more {s = s} {t = t} is p) = plus s (44 ∷ t) (items_text is) (ascii 44 t (omega arith) (padded_text p))

  members_text : {d : ℕ} {ms : Members} {n : List ℕ} {x : Json} {t : List ℕ} → ShowsMembers d ms n x t → Good t
  members_text (m_one {s = s} {t = t} nm p) = plus s (58 ∷ t) (named_text nm) (ascii 58 t (omega arith) (padded_text p))
  members_text (m_more {s = s} {u = u} {t = t} is nm p) =
      plus s (44 ∷ (u ++ (58 ∷ t))) (members_text is)
      (ascii 44 (u ++ (58 ∷ t)) (omega arith) (plus u (58 ∷ t) (named_text nm) (ascii 58 t (omega arith) (padded_text p))))

pub texts_are_utf8_lem : TextsAreUtf8
texts_are_utf8_lem t x = padded_text x.1
