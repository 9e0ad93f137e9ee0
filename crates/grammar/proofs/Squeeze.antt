-- The compact text is the text without the white space outside its strings.
-- Assumes nothing.
use Rattle.std.proofs.Common.{◌≡◌, ℕ, ◌≤◌, true, false, cond, eqb, List, [], ◌∷◌, ◌++◌, sym, refl, ap, ◌∙◌, subst, append_assoc, append-nil, arith, Some}
use Rattle.std.proofs.lemmas.Bool.Decides.{nat_tests}
use Rattle.grammar.specs.Ast.{Json, Items, Members, also, mnone, malso}
use Rattle.grammar.specs.Terminals.{is_blank, is_digit, is_positive, is_hex, is_d, char_of, behind, first_of, second_of, fits, pair_tail}
use Rattle.grammar.specs.Numbers.{is_e, is_sign, Digits, d_one, d_more, Positive, p_one, p_more, Whole, whole_zero, whole_pos, whole_minus_zero, whole_minus, Mantissa, no_fraction, fraction, Sign, no_sign, some_sign, Number, no_exponent, exponent}
use Rattle.grammar.specs.Grammar.{Ws, w_none, w_more, Seq, q_none, q_more, Chars, c_none, c_plain, c_long, c_escape, c_unit, c_unit_d, c_pair, Named, named, Shows, s_null, s_true, s_false, s_num, s_str, s_arr0, s_arr, s_obj0, s_obj, Padded, padded, ShowsItems, i_one, i_more, ShowsMembers, m_one, m_more}
use Rattle.grammar.specs.Compact.{print, print_items, print_members, moved, dropped, squeezed}
use Rattle.grammar.specs.Laws.{CompactDrops}
use Rattle.grammar.specs.declared.kinds.Class.{Class}
use Rattle.grammar.specs.declared.kinds.Class.TheVariants.{In, Hex, IsD, CtoF}
use Rattle.grammar.specs.declared.kinds.Lead.{Lead}
use Rattle.grammar.specs.declared.kinds.Lead.TheVariants as lead
use Rattle.grammar.specs.declared.kinds.Char.TheVariants.{Plain, Long}
use Rattle.grammar.specs.declared.kinds.FirstHex.TheVariants.{FirstD, OtherHex}
use Rattle.grammar.specs.declared.kinds.SecondHex.TheVariants as second
use Rattle.grammar.specs.declared.kinds.Place.{Place}
use Rattle.grammar.specs.declared.kinds.Place.TheVariants.{Between, InString, Escaped}

-- t is kept whole, and leads from one place to another
abbrev Kept : Place → Place → List ℕ → Type 0
Kept p q t = (u : List ℕ) → squeezed p (t ++ u) ≡ t ++ squeezed q u

kept_then : (p q r : Place) (a b : List ℕ) → Kept p q a → Kept q r b → Kept p r (a ++ b)
kept_then p q r a b f g u = rw (append_assoc a b u, append_assoc a b (squeezed r u)) (f (b ++ u) ∙ ap (λ (x : List ℕ). a ++ x) (g u))

kept_one : (p q : Place) (b : ℕ) → dropped p b ≡ false → moved p b ≡ q → Kept p q (b ∷ [])
kept_one p q b h e u =
    ap (λ z. cond z (squeezed (moved p b) u) (b ∷ squeezed (moved p b) u)) h ∙ ap (λ x. b ∷ squeezed x u) e

-- ---- bytes outside strings
loud : (b : ℕ) → is_blank b ≡ false → eqb b 34 ≡ false → Kept Between Between (b ∷ [])
loud b h e = kept_one Between Between b h (ap (λ z. cond z InString Between) e)

digit_kept : (b : ℕ) → is_digit b ≡ true → Kept Between Between (b ∷ [])
digit_kept b h = loud b (grind (arith, nat_tests)) (grind (arith, nat_tests))

positive_kept : (b : ℕ) → is_positive b ≡ true → Kept Between Between (b ∷ [])
positive_kept b h = loud b (grind (arith, nat_tests)) (grind (arith, nat_tests))

e_kept : (b : ℕ) → is_e b ≡ true → Kept Between Between (b ∷ [])
e_kept b h = loud b (grind (arith, nat_tests)) (grind (arith, nat_tests))

sign_kept : (b : ℕ) → is_sign b ≡ true → Kept Between Between (b ∷ [])
sign_kept b h = loud b (grind (arith, nat_tests)) (grind (arith, nat_tests))

abbrev Bare : List ℕ → Type 0
Bare t = Kept Between Between t

bare_then : (a b : List ℕ) → Bare a → Bare b → Bare (a ++ b)
bare_then a b f g = kept_then Between Between Between a b f g

digits_kept : {r : List ℕ} → Digits r → Bare r
digits_kept (d_one b h) = digit_kept b h
digits_kept (d_more {r} b ds h) = bare_then r (b ∷ []) (digits_kept ds) (digit_kept b h)

positives_kept : {r : List ℕ} → Positive r → Bare r
positives_kept (p_one b h) = positive_kept b h
positives_kept (p_more {r} b ps h) = bare_then r (b ∷ []) (positives_kept ps) (digit_kept b h)

whole_kept : {r : List ℕ} → Whole r → Bare r
whole_kept whole_zero = λ u. refl
whole_kept (whole_pos ps) = positives_kept ps
whole_kept whole_minus_zero = λ u. refl
whole_kept (whole_minus {r} ps) = bare_then (45 ∷ []) r (λ u. refl) (positives_kept ps)

mantissa_kept : {r : List ℕ} → Mantissa r → Bare r
mantissa_kept (no_fraction w) = whole_kept w
mantissa_kept (fraction {r} {f} w ds) = bare_then r (46 ∷ f) (whole_kept w) (bare_then (46 ∷ []) f (λ u. refl) (digits_kept ds))

signs_kept : {s : List ℕ} → Sign s → Bare s
signs_kept no_sign = λ u. refl
signs_kept (some_sign b h) = sign_kept b h

number_kept : {r : List ℕ} → Number r → Bare r
number_kept (no_exponent m) = mantissa_kept m
number_kept (exponent {r} {s} {x} e m h sg ds) =
    bare_then r (e ∷ (s ++ x)) (mantissa_kept m) (bare_then (e ∷ []) (s ++ x) (e_kept e h) (bare_then s x (signs_kept sg) (digits_kept ds)))

-- ---- bytes in strings
calm : (b : ℕ) → eqb b 34 ≡ false → eqb b 92 ≡ false → Kept InString InString (b ∷ [])
calm b e f = kept_one InString InString b refl (ap (λ z. cond z Between (cond (eqb b 92) Escaped InString)) e ∙ ap (λ z. cond z Escaped InString) f)

abbrev Inner : List ℕ → Type 0
Inner t = Kept InString InString t

inner_then : (a b : List ℕ) → Inner a → Inner b → Inner (a ++ b)
inner_then a b f g = kept_then InString InString InString a b f g

plain_kept : (b : ℕ) → char_of b ≡ Some Plain → Inner (b ∷ [])
plain_kept b h = calm b (grind (arith, nat_tests)) (grind (arith, nat_tests))

long_kept : (b : ℕ) (l : Lead) → char_of b ≡ Some (Long l) → Inner (b ∷ [])
long_kept b l h = calm b (grind (arith, nat_tests)) (grind (arith, nat_tests))

hex-kept : (b : ℕ) → is_hex b ≡ true → Inner (b ∷ [])
hex-kept b h = calm b (grind (arith, nat_tests)) (grind (arith, nat_tests))

d_kept : (b : ℕ) → is_d b ≡ true → Inner (b ∷ [])
d_kept b h = calm b (grind (arith, nat_tests)) (grind (arith, nat_tests))

c_kept : (b : ℕ) → fits CtoF b ≡ true → Inner (b ∷ [])
c_kept b h = calm b (grind (arith, nat_tests)) (grind (arith, nat_tests))

tail-kept : (lo hi b : ℕ) → 128 ≤ lo → fits (In lo hi) b ≡ true → Inner (b ∷ [])
tail-kept lo hi b l h = calm b (grind (arith, nat_tests)) (grind (arith, nat_tests))

first-kept : (b : ℕ) → first_of b ≡ Some OtherHex → Inner (b ∷ [])
first-kept b h = calm b (grind (arith, nat_tests)) (grind (arith, nat_tests))

first_d_kept : (b : ℕ) → first_of b ≡ Some FirstD → Inner (b ∷ [])
first_d_kept b h = calm b (grind (arith, nat_tests)) (grind (arith, nat_tests))

second_kept : (b : ℕ) → second_of b ≡ Some second.Whole → Inner (b ∷ [])
second_kept b h = calm b (grind (arith, nat_tests)) (grind (arith, nat_tests))

high_kept : (b : ℕ) → second_of b ≡ Some second.High → Inner (b ∷ [])
high_kept b h = calm b (grind (arith, nat_tests)) (grind (arith, nat_tests))

-- bytes of these classes are neither a quote nor a backslash
data Calm : List Class → Type 0 where
  calm_none : Calm []
  calm_in : {lo hi : ℕ} {cs : List Class} → 128 ≤ lo → Calm cs → Calm (In lo hi ∷ cs)
  calm_hex : {cs : List Class} → Calm cs → Calm (Hex ∷ cs)
  calm_d : {cs : List Class} → Calm cs → Calm (IsD ∷ cs)
  calm_c : {cs : List Class} → Calm cs → Calm (CtoF ∷ cs)

seq_kept : {cs : List Class} → Calm cs → {v : List ℕ} → Seq cs v → Inner v
seq_kept calm_none q_none = λ u. refl
seq_kept (calm_in {lo} {hi} l c) (q_more {v = v} b h q) = inner_then (b ∷ []) v (tail-kept lo hi b l h) (seq_kept c q)
seq_kept (calm_hex c) (q_more {v = v} b h q) = inner_then (b ∷ []) v (hex-kept b h) (seq_kept c q)
seq_kept (calm_d c) (q_more {v = v} b h q) = inner_then (b ∷ []) v (d_kept b h) (seq_kept c q)
seq_kept (calm_c c) (q_more {v = v} b h q) = inner_then (b ∷ []) v (c_kept b h) (seq_kept c q)

behind_calm : (l : Lead) → Calm (behind l)
behind_calm lead.Two = calm_in (omega arith) calm_none
behind_calm lead.ThreeE0 = calm_in (omega arith) (calm_in (omega arith) calm_none)
behind_calm lead.Three = calm_in (omega arith) (calm_in (omega arith) calm_none)
behind_calm lead.ThreeED = calm_in (omega arith) (calm_in (omega arith) calm_none)
behind_calm lead.FourF0 = calm_in (omega arith) (calm_in (omega arith) (calm_in (omega arith) calm_none))
behind_calm lead.Four = calm_in (omega arith) (calm_in (omega arith) (calm_in (omega arith) calm_none))
behind_calm lead.FourF4 = calm_in (omega arith) (calm_in (omega arith) (calm_in (omega arith) calm_none))

hexes : Calm (Hex ∷ Hex ∷ [])
hexes = calm_hex (calm_hex calm_none)

-- a backslash and what it escapes
escape_kept : (b : ℕ) → Inner (92 ∷ b ∷ [])
escape_kept b = λ u. refl

is_92 : (b : ℕ) → fits (In 92 92) b ≡ true → b ≡ 92
is_92 b h = grind (arith, nat_tests)

low_kept : {v : List ℕ} → Seq (In 92 92 ∷ In 117 117 ∷ IsD ∷ CtoF ∷ Hex ∷ Hex ∷ []) v → Inner v
low_kept (q_more b h (q_more {v = v} c i q)) = rw (is_92 b h) (inner_then (92 ∷ c ∷ []) v (escape_kept c) (seq_kept (calm_d (calm_c hexes)) q))

pair-kept : {v : List ℕ} → Seq pair_tail v → Inner v
pair-kept (q_more b h (q_more {v = v} c i q)) = inner_then (b ∷ []) (c ∷ v) (hex-kept b h) (inner_then (c ∷ []) v (hex-kept c i) (low_kept q))

unit_kept : (t : List ℕ) → Inner t → Inner (92 ∷ 117 ∷ t)
unit_kept t f = inner_then (92 ∷ 117 ∷ []) t (escape_kept 117) f

chars_kept : {r : List ℕ} → Chars r → Inner r
chars_kept c_none = λ u. refl
chars_kept (c_plain {r} b cs h) = inner_then r (b ∷ []) (chars_kept cs) (plain_kept b h)
chars_kept (c_long {r} {v} b l cs h q) = inner_then r (b ∷ v) (chars_kept cs) (inner_then (b ∷ []) v (long_kept b l h) (seq_kept (behind_calm l) q))
chars_kept (c_escape {r} b cs h) = inner_then r (92 ∷ b ∷ []) (chars_kept cs) (escape_kept b)
chars_kept (c_unit {r} {v} b cs h q) =
    inner_then r (92 ∷ 117 ∷ b ∷ v) (chars_kept cs) (unit_kept (b ∷ v) (inner_then (b ∷ []) v (first-kept b h) (seq_kept (calm_hex hexes) q)))
chars_kept (c_unit_d {r} {v} b e cs h i q) =
    inner_then r (92 ∷ 117 ∷ b ∷ e ∷ v) (chars_kept cs)
    (unit_kept (b ∷ e ∷ v) (inner_then (b ∷ []) (e ∷ v) (first_d_kept b h) (inner_then (e ∷ []) v (second_kept e i) (seq_kept hexes q))))
chars_kept (c_pair {r} {v} b e cs h i q) =
    inner_then r (92 ∷ 117 ∷ b ∷ e ∷ v) (chars_kept cs)
    (unit_kept (b ∷ e ∷ v) (inner_then (b ∷ []) (e ∷ v) (first_d_kept b h) (inner_then (e ∷ []) v (high_kept e i) (pair-kept q))))

string_kept : {r : List ℕ} → Chars r → Bare (34 ∷ (r ++ (34 ∷ [])))
string_kept {r} cs =
    kept_then Between InString Between (34 ∷ []) (r ++ (34 ∷ [])) (λ u. refl) (kept_then InString InString Between r (34 ∷ []) (chars_kept cs) (λ u. refl))

-- ---- texts
ws_gone : {w : List ℕ} → Ws w → (u : List ℕ) → squeezed Between (w ++ u) ≡ squeezed Between u
ws_gone w_none u = refl
ws_gone (w_more b ws e) u = rw append_assoc (ws_gone ws (b ∷ u) ∙ blank_gone b e u)
  where
    not_quote : (b : ℕ) → is_blank b ≡ true → eqb b 34 ≡ false
    not_quote b h = grind (arith, nat_tests)

    blank_gone : (b : ℕ) → is_blank b ≡ true → (u : List ℕ) → squeezed Between (b ∷ u) ≡ squeezed Between u
    blank_gone b h u =
        ap (λ z. cond z (squeezed (moved Between b) u) (b ∷ squeezed (moved Between b) u)) h ∙ ap (λ z. squeezed (cond z InString Between) u) (not_quote b h)

-- t becomes s
abbrev Becomes : List ℕ → List ℕ → Type 0
Becomes t s = (u : List ℕ) → squeezed Between (t ++ u) ≡ s ++ squeezed Between u

becomes_then : (a b c d : List ℕ) → Becomes a c → Becomes b d → Becomes (a ++ b) (c ++ d)
becomes_then a b c d f g u = rw (append_assoc a b u, append_assoc c d (squeezed Between u)) (f (b ++ u) ∙ ap (λ (x : List ℕ). c ++ x) (g u))

becomes_is : (t a b : List ℕ) → Becomes t a → a ≡ b → Becomes t b
becomes_is t a b f e = subst (λ (x : List ℕ). Becomes t x) e f

named_gone : {n u : List ℕ} → Named n u → Becomes u (34 ∷ (n ++ (34 ∷ [])))
named_gone (named {n} {w} {v} ws cs vs) u =
    rw (append_assoc w (34 ∷ (n ++ (34 ∷ v))) u, append_assoc n (34 ∷ v) u)
    (ws_gone ws (34 ∷ (n ++ (34 ∷ (v ++ u))))
    ∙ (subst (λ (x : List ℕ). squeezed Between (34 ∷ x) ≡ (34 ∷ (n ++ (34 ∷ []))) ++ squeezed Between (v ++ u)) (append_assoc n (34 ∷ []) (v ++ u)) (string_kept cs (v ++ u))
    ∙ ap (λ (x : List ℕ). (34 ∷ (n ++ (34 ∷ []))) ++ x) (ws_gone vs u)))

around : (a b : ℕ) (t s : List ℕ) → Bare (a ∷ []) → Bare (b ∷ []) → Becomes t s → Becomes (a ∷ (t ++ (b ∷ []))) (a ∷ (s ++ (b ∷ [])))
around a b t s f g h = becomes_then (a ∷ []) (t ++ (b ∷ [])) (a ∷ []) (s ++ (b ∷ [])) f (becomes_then t (b ∷ []) s (b ∷ []) h g)

mutual
  shows_gone : {d : ℕ} {j : Json} {t : List ℕ} → Shows d j t → Becomes t (print j)
  shows_gone s_null = λ u. refl
  shows_gone s_true = λ u. refl
  shows_gone s_false = λ u. refl
  shows_gone (s_num n) = number_kept n
  shows_gone (s_str cs) = string_kept cs
  shows_gone (s_arr0 {w = w} ws) = around 91 93 w [] (λ u. refl) (λ u. refl) (ws_gone ws)
  shows_gone (s_arr {xs = xs} {x = x} {t = t} is) = around 91 93 t (print_items (also xs x)) (λ u. refl) (λ u. refl) (items_gone is)
  shows_gone (s_obj0 {w = w} ws) = around 123 125 w [] (λ u. refl) (λ u. refl) (ws_gone ws)
  shows_gone (s_obj {ms = ms} {n = n} {x = x} {t = t} is) = around 123 125 t (print_members (malso ms n x)) (λ u. refl) (λ u. refl) (members_gone is)

  padded_gone : {d : ℕ} {j : Json} {t : List ℕ} → Padded d j t → Becomes t (print j)
  padded_gone (padded {x = x} {w = w} {t = t} {v = v} ws sh vs) u =
      rw (append_assoc w (t ++ v) u, append_assoc t v u) (ws_gone ws (t ++ (v ++ u)) ∙ (shows_gone sh (v ++ u) ∙ ap (λ (y : List ℕ). print x ++ y) (ws_gone vs u)))

  items_gone : {d : ℕ} {xs : Items} {x : Json} {t : List ℕ} → ShowsItems d xs x t → Becomes t (print_items (also xs x))
  items_gone (i_one p) = padded_gone p
  items_gone (i_more {xs = xs} {x = x} {y = y} {s = s} {t = t} is p) =
      becomes_is (s ++ (44 ∷ t)) (print_items (also xs x) ++ (44 ∷ print y)) (print_items (also (also xs x) y))
      (becomes_then s (44 ∷ t) (print_items (also xs x)) (44 ∷ print y) (items_gone is) (becomes_then (44 ∷ []) t (44 ∷ []) (print y) (λ u. refl) (padded_gone p)))
      (simp append_assoc)

  members_gone : {d : ℕ} {ms : Members} {n : List ℕ} {x : Json} {t : List ℕ} → ShowsMembers d ms n x t → Becomes t (print_members (malso ms n x))
  members_gone (m_one {n = n} {x = x} {s = s} {t = t} nm p) =
      becomes_is (s ++ (58 ∷ t)) ((34 ∷ (n ++ (34 ∷ []))) ++ (58 ∷ print x)) (print_members (malso mnone n x))
      (becomes_then s (58 ∷ t) (34 ∷ (n ++ (34 ∷ []))) (58 ∷ print x) (named_gone nm) (becomes_then (58 ∷ []) t (58 ∷ []) (print x) (λ u. refl) (padded_gone p)))
      (simp append_assoc)
  members_gone (m_more {ms = ms} {n = n} {m = m} {x = x} {y = y} {s = s} {u = o} {t = t} is nm p) =
      becomes_is (s ++ (44 ∷ (o ++ (58 ∷ t)))) (print_members (malso ms n x) ++ (44 ∷ ((34 ∷ (m ++ (34 ∷ []))) ++ (58 ∷ print y)))) (print_members (malso (malso ms n x) m y))
      (becomes_then s (44 ∷ (o ++ (58 ∷ t))) (print_members (malso ms n x)) (44 ∷ ((34 ∷ (m ++ (34 ∷ []))) ++ (58 ∷ print y))) (members_gone is)
      (becomes_then (44 ∷ []) (o ++ (58 ∷ t)) (44 ∷ []) ((34 ∷ (m ++ (34 ∷ []))) ++ (58 ∷ print y)) (λ u. refl)
      (becomes_then o (58 ∷ t) (34 ∷ (m ++ (34 ∷ []))) (58 ∷ print y) (named_gone nm) (becomes_then (58 ∷ []) t (58 ∷ []) (print y) (λ u. refl) (padded_gone p)))))
      (simp append_assoc)

pub compact_drops : CompactDrops
compact_drops d j t p = sym (ap (λ (x : List ℕ). squeezed Between x) (append-nil t)) ∙ (padded_gone p [] ∙ append-nil (print j))
