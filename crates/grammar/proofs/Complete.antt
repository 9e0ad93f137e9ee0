-- The automaton reads each text of the grammar.
-- Assumes nothing.
use Rattle.std.proofs.Common.{◌≡◌, ℕ, true, List, [], ◌∷◌, ◌++◌, sym, refl, ap, ◌∙◌, append_assoc, append-nil, arith, Some, None}
use Rattle.std.proofs.lemmas.Bool.Decides.{nat_tests}
use Rattle.grammar.specs.Ast.{Json, Items, Members, num, none, also, mnone, malso}
use Rattle.grammar.specs.Terminals.{is_blank, is_digit, is_positive, start_of, punct_of, behind, pair_tail}
use Rattle.grammar.specs.Numbers.{is_e, Digits, d_one, d_more, Positive, p_one, p_more, Whole, whole_zero, whole_pos, whole_minus_zero, whole_minus, Mantissa, no_fraction, fraction, Sign, no_sign, some_sign, Number, no_exponent, exponent, next, may_end}
use Rattle.grammar.specs.declared.kinds.Start.TheVariants.{Blank}
use Rattle.grammar.specs.declared.kinds.Start.TheVariants as start
use Rattle.grammar.specs.declared.kinds.Punct.TheVariants.{Space}
use Rattle.grammar.specs.declared.kinds.Class.{Class}
use Rattle.grammar.specs.declared.kinds.Class.TheVariants.{Hex}
use Rattle.grammar.specs.declared.kinds.Phase.{Phase}
use Rattle.grammar.specs.declared.kinds.Phase.TheVariants.{AtMinus, AtZero, AtWhole, AtPoint, AtFraction, AtE, AtSign, AtExponent}
use Rattle.grammar.proofs.Numbers.{digit_whole, digit_point, digit_fraction, digit_e, digit_sign, digit_exponent, positive_minus, e_zero, e_whole, e_fraction, sign_e, blank_quiet, quiet_stops}
use Rattle.grammar.specs.Grammar.{Ws, w_none, w_more, Seq, q_none, q_more, Chars, c_none, c_plain, c_long, c_escape, c_unit, c_unit_d, c_pair, Named, named, Shows, s_null, s_true, s_false, s_num, s_str, s_arr0, s_arr, s_obj0, s_obj, Padded, padded, ShowsItems, i_one, i_more, ShowsMembers, m_one, m_more}
use Rattle.grammar.specs.Machine.{in_arr, in_obj, Stack, Role, value, name, St, val, first, members, member, colon, aft, nums, chars, esc, uni, uni_d, seq, Next, bad, go, Out, stuck, step_val, step_first, step_members, step_member, step_colon, step_top, step_item, step_pair, end_nums, step_nums, finish_nums, step_chars, step_esc, step_uni, step_uni_d, step_seq, seq_go, step, run}

abbrev pub turn : Next → ℕ → List ℕ → Out
turn n b t = elim n [ bad ↦ stuck (b ∷ t) | go m ↦ run m t ]

pub run_go : (s : St) (b : ℕ) (t : List ℕ) (n : St) → step s b ≡ go n → run s (b ∷ t) ≡ run n t
run_go s b t n e = ap (λ x. turn x b t) e

pub run-same : (s n : St) (b : ℕ) (t : List ℕ) → step s b ≡ step n b → run s (b ∷ t) ≡ run n (b ∷ t)
run-same s n b t e = ap (λ x. turn x b t) e

pub blank_start : (b : ℕ) → is_blank b ≡ true → start_of b ≡ Some Blank
blank_start b h = rw h refl

pub blank_punct : (one two b : ℕ) → is_blank b ≡ true → punct_of one two b ≡ Some Space
blank_punct one two b h = rw h refl

pub positive_start : (b : ℕ) → is_positive b ≡ true → start_of b ≡ Some start.Positive
positive_start b h = grind (arith, nat_tests)

pub positive_punct : (b : ℕ) → is_positive b ≡ true → punct_of 93 93 b ≡ None
positive_punct b h = grind (arith, nat_tests)

pub r_ws : (s : St) → ((b : ℕ) → is_blank b ≡ true → step s b ≡ go s) → {w : List ℕ} → Ws w → (u : List ℕ) → run s (w ++ u) ≡ run s u
r_ws s h w_none u = refl
r_ws s h (w_more {w} b ws e) u = rw append_assoc (r_ws s h ws (b ∷ u) ∙ run_go s b u s (h b e))

pub ws_val : (d : ℕ) (k : Stack) (b : ℕ) → is_blank b ≡ true → step (val d k) b ≡ go (val d k)
ws_val d k b e = ap (λ x. step_val x b d k) (blank_start b e)

pub ws_first : (d : ℕ) (k : Stack) (b : ℕ) → is_blank b ≡ true → step (first d k) b ≡ go (first d k)
ws_first d k b e = ap (λ x. step_first x b d k) (blank_punct 93 93 b e)

pub ws_members : (d : ℕ) (k : Stack) (b : ℕ) → is_blank b ≡ true → step (members d k) b ≡ go (members d k)
ws_members d k b e = ap (λ x. step_members x d k) (blank_punct 34 125 b e)

pub ws_member : (d : ℕ) (ms : Members) (k : Stack) (b : ℕ) → is_blank b ≡ true → step (member d ms k) b ≡ go (member d ms k)
ws_member d ms k b e = ap (λ x. step_member x d ms k) (blank_punct 34 34 b e)

pub ws_colon : (d : ℕ) (ms : Members) (n : List ℕ) (k : Stack) (b : ℕ) → is_blank b ≡ true → step (colon d ms n k) b ≡ go (colon d ms n k)
ws_colon d ms n k b e = ap (λ x. step_colon x d ms n k) (blank_punct 58 58 b e)

pub ws_aft : (d : ℕ) (j : Json) (k : Stack) (b : ℕ) → is_blank b ≡ true → step (aft d j k) b ≡ go (aft d j k)
ws_aft d j [] b e = ap (λ x. step_top x d j) (blank_punct 256 256 b e)
ws_aft d j (in_arr xs ∷ k) b e = ap (λ x. step_item x d j xs k) (blank_punct 44 93 b e)
ws_aft d j (in_obj ms n ∷ k) b e = ap (λ x. step_pair x d j ms n k) (blank_punct 44 125 b e)

-- ---- numbers
-- no number goes on with what comes
abbrev pub Ended : List ℕ → Type 0
Ended [] = Unit {0}
Ended (b ∷ u) = (p : Phase) → next p b ≡ None

pub ws_ended : {w : List ℕ} → Ws w → (u : List ℕ) → Ended u → Ended (w ++ u)
ws_ended w_none u h = h
ws_ended (w_more b ws e) u h = rw append_assoc (ws_ended ws (b ∷ u) (quiet_stops b (blank_quiet b e)))

pub hop : (d : ℕ) (p q : Phase) (r : List ℕ) (k : Stack) (b : ℕ) (u : List ℕ) → next p b ≡ Some q → run (nums d p r k) (b ∷ u) ≡ run (nums d q (r ++ (b ∷ [])) k) u
hop d p q r k b u e = run_go (nums d p r k) b u (nums d q (r ++ (b ∷ [])) k) (ap (λ x. step_nums x b d p r k) e)

c_digits : {f : List ℕ} → Digits f → (p q : Phase) → ((b : ℕ) → is_digit b ≡ true → next p b ≡ Some q) → ((b : ℕ) → is_digit b ≡ true → next q b ≡ Some q) → (d : ℕ) (r : List ℕ) (k : Stack) (u : List ℕ) → run (nums d p r k) (f ++ u) ≡ run (nums d q (r ++ f) k) u
c_digits (d_one b h) p q e g d r k u = hop d p q r k b u (e b h)
c_digits (d_more {r = f} b ds h) p q e g d r k u =
    rw (append_assoc f (b ∷ []) u)
    (c_digits ds p q e g d r k (b ∷ u) ∙ (hop d q q (r ++ f) k b u (g b h) ∙ ap (λ (x : List ℕ). run (nums d q x k) u) (append_assoc r f (b ∷ []))))

c_positive : {r : List ℕ} → Positive r → (d : ℕ) (k : Stack) (u : List ℕ) → run (val d k) (r ++ u) ≡ run (nums d AtWhole r k) u
c_positive (p_one b h) d k u = run_go (val d k) b u (nums d AtWhole (b ∷ []) k) (ap (λ x. step_val x b d k) (positive_start b h))
c_positive (p_more {r} b ps h) d k u = rw append_assoc (c_positive ps d k (b ∷ u) ∙ hop d AtWhole AtWhole r k b u (digit_whole b h))

c_minus : {r : List ℕ} → Positive r → (d : ℕ) (k : Stack) (u : List ℕ) → run (nums d AtMinus (45 ∷ []) k) (r ++ u) ≡ run (nums d AtWhole (45 ∷ r) k) u
c_minus (p_one b h) d k u = hop d AtMinus AtWhole (45 ∷ []) k b u (positive_minus b h)
c_minus (p_more {r} b ps h) d k u = rw append_assoc (c_minus ps d k (b ∷ u) ∙ hop d AtWhole AtWhole (45 ∷ r) k b u (digit_whole b h))

-- the phase in which each part ends, with what may follow
pub record Ends (r : List ℕ) : Type 0 where
  pub phase : Phase
  pub reach : (d : ℕ) (k : Stack) (u : List ℕ) → run (val d k) (r ++ u) ≡ run (nums d phase r k) u
  pub ok : may_end phase ≡ true

pub record EndsWhole (r : List ℕ) : Type 0 where
  pub ends : Ends r
  pub by_e : (b : ℕ) → is_e b ≡ true → next ends.phase b ≡ Some AtE
  pub by_point : next ends.phase 46 ≡ Some AtPoint

pub record EndsMantissa (r : List ℕ) : Type 0 where
  pub ends : Ends r
  pub by_e : (b : ℕ) → is_e b ≡ true → next ends.phase b ≡ Some AtE

c_whole : {r : List ℕ} → Whole r → EndsWhole r
c_whole whole_zero = record { ends = record { phase = AtZero; reach = λ d k u. refl; ok = refl }; by_e = e_zero; by_point = refl }
c_whole (whole_pos ps) = record { ends = record { phase = AtWhole; reach = c_positive ps; ok = refl }; by_e = e_whole; by_point = refl }
c_whole whole_minus_zero = record { ends = record { phase = AtZero; reach = λ d k u. refl; ok = refl }; by_e = e_zero; by_point = refl }
c_whole (whole_minus ps) = record { ends = record { phase = AtWhole; reach = c_minus ps; ok = refl }; by_e = e_whole; by_point = refl }

c_mantissa : {r : List ℕ} → Mantissa r → EndsMantissa r
c_mantissa (no_fraction w) = let x = c_whole w in record { ends = x.ends; by_e = x.by_e }
c_mantissa (fraction {r} {f} w ds) =
    let x = c_whole w in
    let p : Phase = x.ends.phase in
    record {
      ends = record {
        phase = AtFraction;
        reach = λ d k u.
            rw (append_assoc r (46 ∷ f) u)
            (x.ends.reach d k (46 ∷ (f ++ u))
            ∙ (hop d p AtPoint r k 46 (f ++ u) x.by_point
            ∙ (c_digits ds AtPoint AtFraction digit_point digit_fraction d (r ++ (46 ∷ [])) k u ∙ ap (λ (y : List ℕ). run (nums d AtFraction y k) u) (append_assoc r (46 ∷ []) f))));
        ok = refl;
      };
      by_e = e_fraction;
    }

c_exponent : {s x : List ℕ} → Sign s → Digits x → (d : ℕ) (r : List ℕ) (k : Stack) (u : List ℕ) → run (nums d AtE r k) ((s ++ x) ++ u) ≡ run (nums d AtExponent (r ++ (s ++ x)) k) u
c_exponent no_sign ds d r k u = c_digits ds AtE AtExponent digit_e digit_exponent d r k u
c_exponent {x = x} (some_sign b h) ds d r k u =
    hop d AtE AtSign r k b (x ++ u) (sign_e b h)
    ∙ (c_digits ds AtSign AtExponent digit_sign digit_exponent d (r ++ (b ∷ [])) k u ∙ ap (λ (y : List ℕ). run (nums d AtExponent y k) u) (append_assoc r (b ∷ []) x))

pub c_number : {r : List ℕ} → Number r → Ends r
c_number (no_exponent m) = (c_mantissa m).ends
c_number (exponent {r} {s} {x} e m h sg ds) =
    let y = c_mantissa m in
    let p : Phase = y.ends.phase in
    record {
      phase = AtExponent;
      reach = λ d k u.
          rw (append_assoc r (e ∷ (s ++ x)) u)
          (y.ends.reach d k (e ∷ ((s ++ x) ++ u))
          ∙ (hop d p AtE r k e ((s ++ x) ++ u) (y.by_e e h)
          ∙ (c_exponent sg ds d (r ++ (e ∷ [])) k u ∙ ap (λ (z : List ℕ). run (nums d AtExponent z k) u) (append_assoc r (e ∷ []) (s ++ x)))));
      ok = refl;
    }

pub nums_end : (d : ℕ) (p : Phase) (r : List ℕ) (k : Stack) (u : List ℕ) → may_end p ≡ true → Ended u → run (nums d p r k) u ≡ run (aft d (num r) k) u
nums_end d p r k [] ok h = ap (λ z. finish_nums z r k) ok
nums_end d p r k (b ∷ u) ok h =
    run-same (nums d p r k) (aft d (num r) k) b u (ap (λ x. step_nums x b d p r k) (h p) ∙ ap (λ z. end_nums z b d r k) ok)

pub c_num : {r : List ℕ} → Number r → (d : ℕ) (k : Stack) (u : List ℕ) → Ended u → run (val d k) (r ++ u) ≡ run (aft d (num r) k) u
c_num {r} n d k u h = let e = c_number n in e.reach d k u ∙ nums_end d e.phase r k u e.ok h

-- the later bytes of a character
pub c_seq : {cs : List Class} {v : List ℕ} → Seq cs v → (d : ℕ) (g : Role) (r a : List ℕ) (k : Stack) (u : List ℕ) → run (seq_go cs d g r a k) (v ++ u) ≡ run (chars d g (r ++ (a ++ v)) k) u
c_seq q_none d g r a k u = rw append-nil refl
c_seq (q_more {c} {cs} {v} b h q) d g r a k u =
    run_go (seq d g r a c cs k) b (v ++ u) (seq_go cs d g r (a ++ (b ∷ [])) k) (ap (λ x. step_seq x b d g r a cs k) h)
    ∙ (c_seq q d g r (a ++ (b ∷ [])) k u ∙ ap (λ (x : List ℕ). run (chars d g (r ++ x) k) u) (append_assoc a (b ∷ []) v))

pub c_chars : {r : List ℕ} → Chars r → (d : ℕ) (g : Role) (k : Stack) (u : List ℕ) → run (chars d g [] k) (r ++ u) ≡ run (chars d g r k) u
c_chars c_none d g k u = refl
c_chars (c_plain {r} b cs h) d g k u =
    rw append_assoc (c_chars cs d g k (b ∷ u) ∙ run_go (chars d g r k) b u (chars d g (r ++ (b ∷ [])) k) (ap (λ x. step_chars x b d g r k) h))
c_chars (c_long {r} {v} b l cs h q) d g k u =
    rw append_assoc
    (c_chars cs d g k (b ∷ (v ++ u))
    ∙ (run_go (chars d g r k) b (v ++ u) (seq_go (behind l) d g r (b ∷ []) k) (ap (λ x. step_chars x b d g r k) h) ∙ c_seq q d g r (b ∷ []) k u))
c_chars (c_escape {r} b cs h) d g k u =
    rw append_assoc (c_chars cs d g k (92 ∷ b ∷ u) ∙ run_go (esc d g r k) b u (chars d g (r ++ (92 ∷ b ∷ [])) k) (ap (λ x. step_esc x b d g r k) h))
c_chars (c_unit {r} {v} b cs h q) d g k u =
    rw append_assoc
    (c_chars cs d g k (92 ∷ 117 ∷ b ∷ (v ++ u))
    ∙ (run_go (uni d g r k) b (v ++ u) (seq_go (Hex ∷ Hex ∷ Hex ∷ []) d g r (92 ∷ 117 ∷ b ∷ []) k) (ap (λ x. step_uni x b d g r k) h) ∙ c_seq q d g r (92 ∷ 117 ∷ b ∷ []) k u))
c_chars (c_unit_d {r} {v} b e cs h i q) d g k u =
    rw append_assoc
    (c_chars cs d g k (92 ∷ 117 ∷ b ∷ e ∷ (v ++ u))
    ∙ (run_go (uni d g r k) b (e ∷ (v ++ u)) (uni_d d g r b k) (ap (λ x. step_uni x b d g r k) h)
    ∙ (run_go (uni_d d g r b k) e (v ++ u) (seq_go (Hex ∷ Hex ∷ []) d g r (92 ∷ 117 ∷ b ∷ e ∷ []) k) (ap (λ x. step_uni_d x e d g r b k) i) ∙ c_seq q d g r (92 ∷ 117 ∷ b ∷ e ∷ []) k u)))
c_chars (c_pair {r} {v} b e cs h i q) d g k u =
    rw append_assoc
    (c_chars cs d g k (92 ∷ 117 ∷ b ∷ e ∷ (v ++ u))
    ∙ (run_go (uni d g r k) b (e ∷ (v ++ u)) (uni_d d g r b k) (ap (λ x. step_uni x b d g r k) h)
    ∙ (run_go (uni_d d g r b k) e (v ++ u) (seq_go pair_tail d g r (92 ∷ 117 ∷ b ∷ e ∷ []) k) (ap (λ x. step_uni_d x e d g r b k) i) ∙ c_seq q d g r (92 ∷ 117 ∷ b ∷ e ∷ []) k u)))

-- a value does not begin with `]`
abbrev Begins : List ℕ → Type 0
Begins r = (d : ℕ) (k : Stack) (u : List ℕ) → run (first d k) (r ++ u) ≡ run (val d (in_arr none ∷ k)) (r ++ u)

first_positive : {r : List ℕ} → Positive r → Begins r
first_positive (p_one b h) d k u =
    run-same (first d k) (val d (in_arr none ∷ k)) b u (ap (λ x. step_first x b d k) (positive_punct b h))
first_positive (p_more b ps h) d k u = rw append_assoc (first_positive ps d k (b ∷ u))

first_whole : {r : List ℕ} → Whole r → Begins r
first_whole whole_zero d k u = refl
first_whole (whole_pos ps) d k u = first_positive ps d k u
first_whole whole_minus_zero d k u = refl
first_whole (whole_minus ps) d k u = refl

first_mantissa : {r : List ℕ} → Mantissa r → Begins r
first_mantissa (no_fraction w) d k u = first_whole w d k u
first_mantissa (fraction {f = f} w ds) d k u = rw append_assoc (first_whole w d k (46 ∷ (f ++ u)))

first_number : {r : List ℕ} → Number r → Begins r
first_number (no_exponent m) d k u = first_mantissa m d k u
first_number (exponent {s = s} {x = x} e m h sg ds) d k u = rw append_assoc (first_mantissa m d k (e ∷ ((s ++ x) ++ u)))

pub first_val : {d : ℕ} {x : Json} {t : List ℕ} → Shows d x t → (k : Stack) (u : List ℕ) → run (first d k) (t ++ u) ≡ run (val d (in_arr none ∷ k)) (t ++ u)
first_val s_null k u = refl
first_val s_true k u = refl
first_val s_false k u = refl
first_val {d} (s_num ds) k u = first_number ds d k u
first_val (s_str cs) k u = refl
first_val (s_arr0 ws) k u = refl
first_val (s_arr is) k u = refl
first_val (s_obj0 ws) k u = refl
first_val (s_obj is) k u = refl

pub first_padded : {d : ℕ} {x : Json} {t : List ℕ} → Padded d x t → (k : Stack) (u : List ℕ) → run (first d k) (t ++ u) ≡ run (val d (in_arr none ∷ k)) (t ++ u)
first_padded (padded {d} {x} {w} {t} {v} ws sh vs) k u =
    rw (append_assoc w (t ++ v) u)
    (r_ws (first d k) (ws_first d k) ws ((t ++ v) ++ u)
    ∙ (rw (append_assoc t v u) (first_val sh k (v ++ u)) ∙ sym (r_ws (val d (in_arr none ∷ k)) (ws_val d (in_arr none ∷ k)) ws ((t ++ v) ++ u))))

-- names
pub c_named : {n t : List ℕ} → Named n t → (d : ℕ) (ms : Members) (k : Stack) (u : List ℕ) → run (member d ms k) (t ++ u) ≡ run (colon d ms n k) u
c_named (named {n} {w} {v} ws cs vs) d ms k u =
    rw (append_assoc w (34 ∷ (n ++ (34 ∷ v))) u, append_assoc n (34 ∷ v) u)
    (r_ws (member d ms k) (ws_member d ms k) ws (34 ∷ (n ++ (34 ∷ (v ++ u))))
    ∙ (c_chars cs d (name ms) k (34 ∷ (v ++ u)) ∙ r_ws (colon d ms n k) (ws_colon d ms n k) vs u))

pub first_named_lem : {n t : List ℕ} → Named n t → (d : ℕ) (k : Stack) (u : List ℕ) → run (members d k) (t ++ u) ≡ run (colon d mnone n k) u
first_named_lem (named {n} {w} {v} ws cs vs) d k u =
    rw (append_assoc w (34 ∷ (n ++ (34 ∷ v))) u, append_assoc n (34 ∷ v) u)
    (r_ws (members d k) (ws_members d k) ws (34 ∷ (n ++ (34 ∷ (v ++ u))))
    ∙ (c_chars cs d (name mnone) k (34 ∷ (v ++ u)) ∙ r_ws (colon d mnone n k) (ws_colon d mnone n k) vs u))

mutual
  pub c_shows : {d : ℕ} {j : Json} {t : List ℕ} → Shows d j t → (k : Stack) (u : List ℕ) → Ended u → run (val d k) (t ++ u) ≡ run (aft d j k) u
  c_shows s_null k u h = refl
  c_shows s_true k u h = refl
  c_shows s_false k u h = refl
  c_shows (s_num {d} {r} ds) k u h = c_num ds d k u h
  c_shows (s_str {d} {r} cs) k u h = rw append_assoc (c_chars cs d value k (34 ∷ u))
  c_shows (s_arr0 {d} {w} ws) k u h = rw append_assoc (r_ws (first d k) (ws_first d k) ws (93 ∷ u))
  c_shows (s_arr is) k u h = rw append_assoc (c_items is k (93 ∷ u) (quiet_stops 93 refl))
  c_shows (s_obj0 {d} {w} ws) k u h = rw append_assoc (r_ws (members d k) (ws_members d k) ws (125 ∷ u))
  c_shows (s_obj is) k u h = rw append_assoc (c_members is k (125 ∷ u) (quiet_stops 125 refl))

  pub c_padded : {d : ℕ} {j : Json} {t : List ℕ} → Padded d j t → (k : Stack) (u : List ℕ) → Ended u → run (val d k) (t ++ u) ≡ run (aft d j k) u
  c_padded (padded {d} {x} {w} {t} {v} ws sh vs) k u h =
      rw (append_assoc w (t ++ v) u, append_assoc t v u)
      (r_ws (val d k) (ws_val d k) ws (t ++ (v ++ u))
      ∙ (c_shows sh k (v ++ u) (ws_ended vs u h) ∙ r_ws (aft d x k) (ws_aft d x k) vs u))

  pub c_items : {d : ℕ} {xs : Items} {x : Json} {t : List ℕ} → ShowsItems d xs x t → (k : Stack) (u : List ℕ) → Ended u → run (first d k) (t ++ u) ≡ run (aft d x (in_arr xs ∷ k)) u
  c_items (i_one p) k u h = first_padded p k u ∙ c_padded p (in_arr none ∷ k) u h
  c_items (i_more {d} {xs} {x} {y} {s} {t} is p) k u h =
      rw append_assoc (c_items is k (44 ∷ (t ++ u)) (quiet_stops 44 refl) ∙ c_padded p (in_arr (also xs x) ∷ k) u h)

  pub c_members : {d : ℕ} {ms : Members} {n : List ℕ} {x : Json} {t : List ℕ} → ShowsMembers d ms n x t → (k : Stack) (u : List ℕ) → Ended u → run (members d k) (t ++ u) ≡ run (aft d x (in_obj ms n ∷ k)) u
  c_members (m_one {d} {n} {x} {s} {t} nm p) k u h =
      rw append_assoc (first_named_lem nm d k (58 ∷ (t ++ u)) ∙ c_padded p (in_obj mnone n ∷ k) u h)
  c_members (m_more {d} {ms} {n} {m} {x} {y} {s} {u = o} {t} is nm p) k u h =
      rw (append_assoc s (44 ∷ (o ++ (58 ∷ t))) u, append_assoc o (58 ∷ t) u)
      (c_members is k (44 ∷ (o ++ (58 ∷ (t ++ u)))) (quiet_stops 44 refl)
      ∙ (c_named nm d (malso ms n x) k (58 ∷ (t ++ u)) ∙ c_padded p (in_obj (malso ms n x) m ∷ k) u h))
