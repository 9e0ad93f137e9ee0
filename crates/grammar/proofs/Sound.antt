-- What the automaton has read is a start of a text: each state has a meaning, each step keeps it, and each meaning can be completed.
-- Assumes nothing.
use Rattle.std.proofs.Common.{◌≡◌, ℕ, zero, suc, Bool, true, false, eqb, List, [], ◌∷◌, ◌++◌, sym, refl, subst, append_assoc, append-nil, arith, Some, None, Option}
use Rattle.std.proofs.lemmas.Bool.Decides.{nat_tests}
use Rattle.grammar.specs.Ast.{Json, Items, Members, none, also, mnone, malso}
use Rattle.grammar.specs.Terminals.{is_blank, is_positive, start_of, punct_of, fits, char_of, tail, behind, escape_of, first_of, second_of, pair_tail}
use Rattle.grammar.specs.Numbers.{p_one, next, may_end, At, a_minus, a_zero, a_whole}
use Rattle.grammar.specs.declared.kinds.Start.{Start}
use Rattle.grammar.specs.declared.kinds.Start.TheVariants.{Blank, Quote, Minus, Zero, Positive, OpenArray, OpenObject, LitT, LitF, LitN}
use Rattle.grammar.specs.declared.kinds.Punct.{Punct}
use Rattle.grammar.specs.declared.kinds.Punct.TheVariants.{Space, One, Two}
use Rattle.grammar.specs.declared.kinds.Class.{Class}
use Rattle.grammar.specs.declared.kinds.Class.TheVariants.{Hex}
use Rattle.grammar.specs.declared.kinds.Lead.{Lead}
use Rattle.grammar.specs.declared.kinds.Lead.TheVariants as lead
use Rattle.grammar.specs.declared.kinds.Char.{Char}
use Rattle.grammar.specs.declared.kinds.Char.TheVariants.{Plain, EndQuote, Back, Long}
use Rattle.grammar.specs.declared.kinds.Escape.{Escape}
use Rattle.grammar.specs.declared.kinds.Escape.TheVariants.{Simple, CodeUnit}
use Rattle.grammar.specs.declared.kinds.FirstHex.{FirstHex}
use Rattle.grammar.specs.declared.kinds.FirstHex.TheVariants.{FirstD, OtherHex}
use Rattle.grammar.specs.declared.kinds.SecondHex.{SecondHex}
use Rattle.grammar.specs.declared.kinds.SecondHex.TheVariants.{Whole, High}
use Rattle.grammar.specs.declared.kinds.Phase.{Phase}
use Rattle.grammar.proofs.Numbers.{eqb_is, Goes, goes_on, can_go, ends}
use Rattle.grammar.specs.Grammar.{Ws, w_none, w_more, Seq, q_none, q_more, Chars, c_none, c_plain, c_long, c_escape, c_unit, c_unit_d, c_pair, Named, named, Shows, s_null, s_true, s_false, s_num, s_str, s_arr0, s_arr, s_obj0, s_obj, padded, ShowsItems, i_one, i_more, ShowsMembers, m_one, m_more, Viable}
use Rattle.grammar.specs.Machine.{in_arr, in_obj, Stack, Role, value, name, St, val, first, members, member, colon, aft, nums, chars, esc, uni, uni_d, seq, lit, Next, bad, go, open_array, open_object, step_val, step_first, step_members, step_member, step_colon, step_top, step_item, step_pair, step_aft, end_nums, step_nums, step_chars, step_esc, step_uni, step_uni_d, step_seq, seq_go, end_string, lit_end, lit_next, step}

mutual
  -- p ends where a value is to come
  pub data Open : ℕ → Stack → List ℕ → Type 0 where
    o_top : {w : List ℕ} → Ws w → Open 64 [] w
    o_first : {d : ℕ} {k : Stack} {p w : List ℕ} → Open (suc d) k p → Ws w → Open d (in_arr none ∷ k) (p ++ (91 ∷ w))
    o_next : {d : ℕ} {k : Stack} {xs : Items} {x : Json} {p t w : List ℕ} → Open (suc d) k p → ShowsItems d xs x t → Ws w → Open d (in_arr (also xs x) ∷ k) (p ++ (91 ∷ (t ++ (44 ∷ w))))
    o_value : {d : ℕ} {k : Stack} {ms : Members} {n p u w : List ℕ} → OpenName d ms k p → Named n u → Ws w → Open d (in_obj ms n ∷ k) (p ++ (u ++ (58 ∷ w)))

  -- p ends where a name is to come
  pub data OpenName : ℕ → Members → Stack → List ℕ → Type 0 where
    on_first : {d : ℕ} {k : Stack} {p : List ℕ} → Open (suc d) k p → OpenName d mnone k (p ++ (123 ∷ []))
    on_next : {d : ℕ} {k : Stack} {ms : Members} {n : List ℕ} {x : Json} {p t : List ℕ} → Open (suc d) k p → ShowsMembers d ms n x t → OpenName d (malso ms n x) k (p ++ (123 ∷ (t ++ (44 ∷ []))))

-- p ends where a string is to come
pub data OpenString : ℕ → Role → Stack → List ℕ → Type 0 where
  os_value : {d : ℕ} {k : Stack} {p : List ℕ} → Open d k p → OpenString d value k p
  os_name : {d : ℕ} {k : Stack} {ms : Members} {p w : List ℕ} → OpenName d ms k p → Ws w → OpenString d (name ms) k (p ++ w)

-- some bytes are of the classes
abbrev pub Filled : List Class → Type 0
Filled cs = (v : List ℕ) × Seq cs v

pub data Mean : St → List ℕ → Type 0 where
  at_val : {d : ℕ} {k : Stack} {p : List ℕ} → Open d k p → Mean (val d k) p
  at_first : {d : ℕ} {k : Stack} {p w : List ℕ} → Open (suc d) k p → Ws w → Mean (first d k) (p ++ (91 ∷ w))
  at_members : {d : ℕ} {k : Stack} {p w : List ℕ} → Open (suc d) k p → Ws w → Mean (members d k) (p ++ (123 ∷ w))
  at_member : {d : ℕ} {k : Stack} {ms : Members} {p w : List ℕ} → OpenName d ms k p → Ws w → Mean (member d ms k) (p ++ w)
  at_colon : {d : ℕ} {k : Stack} {ms : Members} {n p u : List ℕ} → OpenName d ms k p → Named n u → Mean (colon d ms n k) (p ++ u)
  at_aft : {d : ℕ} {k : Stack} {j : Json} {p t w : List ℕ} → Open d k p → Shows d j t → Ws w → Mean (aft d j k) (p ++ (t ++ w))
  at_nums : {d : ℕ} {k : Stack} {f : Phase} {p r : List ℕ} → Open d k p → At f r → Mean (nums d f r k) (p ++ r)
  at_chars : {d : ℕ} {k : Stack} {g : Role} {p r : List ℕ} → OpenString d g k p → Chars r → Mean (chars d g r k) (p ++ (34 ∷ r))
  at_esc : {d : ℕ} {k : Stack} {g : Role} {p r : List ℕ} → OpenString d g k p → Chars r → Mean (esc d g r k) (p ++ (34 ∷ (r ++ (92 ∷ []))))
  at_uni : {d : ℕ} {k : Stack} {g : Role} {p r : List ℕ} → OpenString d g k p → Chars r → Mean (uni d g r k) (p ++ (34 ∷ (r ++ (92 ∷ 117 ∷ []))))
  at_uni_d : {d : ℕ} {k : Stack} {g : Role} {p r : List ℕ} (b : ℕ) → OpenString d g k p → Chars r → first_of b ≡ Some FirstD → Mean (uni_d d g r b k) (p ++ (34 ∷ (r ++ (92 ∷ 117 ∷ b ∷ []))))
  at_seq : {d : ℕ} {k : Stack} {g : Role} {p r a : List ℕ} {c : Class} {cs : List Class} → OpenString d g k p → Filled (c ∷ cs) → ((v : List ℕ) → Seq (c ∷ cs) v → Chars (r ++ (a ++ v))) → Mean (seq d g r a c cs k) (p ++ (34 ∷ (r ++ a)))
  at_lit : {d : ℕ} {k : Stack} {j : Json} {p l : List ℕ} {c : ℕ} (a : List ℕ) → Open d k p → Shows d j (a ++ (c ∷ l)) → Mean (lit d (c ∷ l) j k) (p ++ a)

abbrev pub Good : Next → List ℕ → Type 0
Good bad p = Unit {0}
Good (go n) p = Mean n p

mean_at : {n : St} {p q : List ℕ} → Mean n p → p ≡ q → Mean n q
mean_at {n} m e = subst (λ (x : List ℕ). Mean n x) e m

-- what the tests tell
start_blank : (b : ℕ) → start_of b ≡ Some Blank → is_blank b ≡ true
start_blank b h = grind (arith, nat_tests)

start_quote : (b : ℕ) → start_of b ≡ Some Quote → b ≡ 34
start_quote b h = grind (arith, nat_tests)

start_minus : (b : ℕ) → start_of b ≡ Some Minus → b ≡ 45
start_minus b h = grind (arith, nat_tests)

start_zero : (b : ℕ) → start_of b ≡ Some Zero → b ≡ 48
start_zero b h = grind (arith, nat_tests)

start_positive : (b : ℕ) → start_of b ≡ Some Positive → is_positive b ≡ true
start_positive b h = grind (arith, nat_tests)

start_open : (b : ℕ) → start_of b ≡ Some OpenArray → b ≡ 91
start_open b h = grind (arith, nat_tests)

start_obj : (b : ℕ) → start_of b ≡ Some OpenObject → b ≡ 123
start_obj b h = grind (arith, nat_tests)

start_t : (b : ℕ) → start_of b ≡ Some LitT → b ≡ 116
start_t b h = grind (arith, nat_tests)

start_f : (b : ℕ) → start_of b ≡ Some LitF → b ≡ 102
start_f b h = grind (arith, nat_tests)

start_n : (b : ℕ) → start_of b ≡ Some LitN → b ≡ 110
start_n b h = grind (arith, nat_tests)

punct_space : (one two b : ℕ) → punct_of one two b ≡ Some Space → is_blank b ≡ true
punct_space one two b h = grind (arith, nat_tests)

punct_one : (one two b : ℕ) → punct_of one two b ≡ Some One → b ≡ one
punct_one one two b h = grind (arith, nat_tests)

punct_two : (one two b : ℕ) → punct_of one two b ≡ Some Two → b ≡ two
punct_two one two b h = grind (arith, nat_tests)

char_end : (b : ℕ) → char_of b ≡ Some EndQuote → b ≡ 34
char_end b h = grind (arith, nat_tests)

char_back : (b : ℕ) → char_of b ≡ Some Back → b ≡ 92
char_back b h = grind (arith, nat_tests)

esc_uni : (b : ℕ) → escape_of b ≡ Some CodeUnit → b ≡ 117
esc_uni b h = grind (arith, nat_tests)

open_ws : {d : ℕ} {k : Stack} {p : List ℕ} → Open d k p → (b : ℕ) → is_blank b ≡ true → Open d k (p ++ (b ∷ []))
open_ws (o_top ws) b h = o_top (w_more b ws h)
open_ws (o_first o ws) b h = rw append_assoc (o_first o (w_more b ws h))
open_ws (o_next {p = p} {t = t} {w = w} o is ws) b h =
    rw (append_assoc p (91 ∷ (t ++ (44 ∷ w))) (b ∷ []), append_assoc t (44 ∷ w) (b ∷ [])) (o_next o is (w_more b ws h))
open_ws (o_value {p = p} {u = u} {w = w} o nm ws) b h =
    rw (append_assoc p (u ++ (58 ∷ w)) (b ∷ []), append_assoc u (58 ∷ w) (b ∷ [])) (o_value o nm (w_more b ws h))

k_open : {d : ℕ} {k : Stack} {p : List ℕ} → Open d k p → Good (open_array d k) (p ++ (91 ∷ []))
k_open {d = zero} o = tt
k_open {d = suc d} o = at_first o w_none

k_obj : {d : ℕ} {k : Stack} {p : List ℕ} → Open d k p → Good (open_object d k) (p ++ (123 ∷ []))
k_obj {d = zero} o = tt
k_obj {d = suc d} o = at_members o w_none

k_val : {d : ℕ} {k : Stack} {p : List ℕ} → Open d k p → (b : ℕ) (c : Option Start) → start_of b ≡ c → Good (step_val c b d k) (p ++ (b ∷ []))
k_val o b (Some Blank) e = at_val (open_ws o b (start_blank b e))
k_val o b (Some Quote) e = rw (start_quote b e) (at_chars (os_value o) c_none)
k_val o b (Some Minus) e = rw (start_minus b e) (at_nums o a_minus)
k_val o b (Some Zero) e = rw (start_zero b e) (at_nums o a_zero)
k_val o b (Some Positive) e = at_nums o (a_whole (p_one b (start_positive b e)))
k_val o b (Some OpenArray) e = rw (start_open b e) (k_open o)
k_val o b (Some OpenObject) e = rw (start_obj b e) (k_obj o)
k_val o b (Some LitT) e = rw (start_t b e) (at_lit (116 ∷ []) o s_true)
k_val o b (Some LitF) e = rw (start_f b e) (at_lit (102 ∷ []) o s_false)
k_val o b (Some LitN) e = rw (start_n b e) (at_lit (110 ∷ []) o s_null)
k_val o b None e = tt

k_first : {d : ℕ} {k : Stack} {p w : List ℕ} → Open (suc d) k p → Ws w → (b : ℕ) (c : Option Punct) → punct_of 93 93 b ≡ c → Good (step_first c b d k) ((p ++ (91 ∷ w)) ++ (b ∷ []))
k_first o ws b (Some Space) e = rw append_assoc (at_first o (w_more b ws (punct_space 93 93 b e)))
k_first o ws b (Some One) e = rw (punct_one 93 93 b e) (mean_at (at_aft o (s_arr0 ws) w_none) (simp (append_assoc, append-nil)))
k_first o ws b (Some Two) e = rw (punct_two 93 93 b e) (mean_at (at_aft o (s_arr0 ws) w_none) (simp (append_assoc, append-nil)))
k_first o ws b None e = k_val (o_first o ws) b (start_of b) refl

k_members : {d : ℕ} {k : Stack} {p w : List ℕ} → Open (suc d) k p → Ws w → (b : ℕ) (c : Option Punct) → punct_of 34 125 b ≡ c → Good (step_members c d k) ((p ++ (123 ∷ w)) ++ (b ∷ []))
k_members o ws b (Some Space) e = rw append_assoc (at_members o (w_more b ws (punct_space 34 125 b e)))
k_members o ws b (Some One) e = rw (punct_one 34 125 b e) (mean_at (at_chars (os_name (on_first o) ws) c_none) (simp append_assoc))
k_members o ws b (Some Two) e = rw (punct_two 34 125 b e) (mean_at (at_aft o (s_obj0 ws) w_none) (simp (append_assoc, append-nil)))
k_members o ws b None e = tt

k_member : {d : ℕ} {ms : Members} {k : Stack} {p w : List ℕ} → OpenName d ms k p → Ws w → (b : ℕ) (c : Option Punct) → punct_of 34 34 b ≡ c → Good (step_member c d ms k) ((p ++ w) ++ (b ∷ []))
k_member o ws b (Some Space) e = rw append_assoc (at_member o (w_more b ws (punct_space 34 34 b e)))
k_member o ws b (Some One) e = rw (punct_one 34 34 b e) (at_chars (os_name o ws) c_none)
k_member o ws b (Some Two) e = rw (punct_two 34 34 b e) (at_chars (os_name o ws) c_none)
k_member o ws b None e = tt

named_ws : {n u : List ℕ} → Named n u → (b : ℕ) → is_blank b ≡ true → Named n (u ++ (b ∷ []))
named_ws (named {n} {w} {v} ws cs vs) b h =
    rw (append_assoc w (34 ∷ (n ++ (34 ∷ v))) (b ∷ []), append_assoc n (34 ∷ v) (b ∷ [])) (named ws cs (w_more b vs h))

k_colon : {d : ℕ} {ms : Members} {n : List ℕ} {k : Stack} {p u : List ℕ} → OpenName d ms k p → Named n u → (b : ℕ) (c : Option Punct) → punct_of 58 58 b ≡ c → Good (step_colon c d ms n k) ((p ++ u) ++ (b ∷ []))
k_colon o nm b (Some Space) e = rw append_assoc (at_colon o (named_ws nm b (punct_space 58 58 b e)))
k_colon o nm b (Some One) e = rw (punct_one 58 58 b e, append_assoc) (at_val (o_value o nm w_none))
k_colon o nm b (Some Two) e = rw (punct_two 58 58 b e, append_assoc) (at_val (o_value o nm w_none))
k_colon o nm b None e = tt

-- the innermost array with one more item, the innermost object with one more member
pub record Extended (d : ℕ) (k : Stack) (xs : Items) (j : Json) (q : List ℕ) : Type 0 where
  pub before : List ℕ
  pub items : List ℕ
  pub opened : Open (suc d) k before
  pub shown : ShowsItems d xs j items
  pub is : q ≡ before ++ (91 ∷ items)

pub record ExtendedBy (d : ℕ) (k : Stack) (ms : Members) (n : List ℕ) (j : Json) (q : List ℕ) : Type 0 where
  pub before : List ℕ
  pub pairs : List ℕ
  pub opened : Open (suc d) k before
  pub shown : ShowsMembers d ms n j pairs
  pub is : q ≡ before ++ (123 ∷ pairs)

extend : {d : ℕ} {xs : Items} {k : Stack} {q : List ℕ} → Open d (in_arr xs ∷ k) q → {j : Json} {t w : List ℕ} → Shows d j t → Ws w → Extended d k xs j (q ++ (t ++ w))
extend (o_first {p = p} {w = v} o vs) {t = t} {w = w} sh ws = record { before = p; items = v ++ (t ++ w); opened = o; shown = i_one (padded vs sh ws); is = simp append_assoc }
extend (o_next {p = p} {t = s} {w = v} o is vs) {t = t} {w = w} sh ws = record { before = p; items = s ++ (44 ∷ (v ++ (t ++ w))); opened = o; shown = i_more is (padded vs sh ws); is = simp append_assoc }

extend_name : {d : ℕ} {ms : Members} {k : Stack} {p : List ℕ} → OpenName d ms k p → {n u v : List ℕ} → Named n u → Ws v → {j : Json} {t w : List ℕ} → Shows d j t → Ws w → ExtendedBy d k ms n j ((p ++ (u ++ (58 ∷ v))) ++ (t ++ w))
extend_name (on_first {p = p} o) {u = u} {v = v} nm vs {t = t} {w = w} sh ws =
    record { before = p; pairs = u ++ (58 ∷ (v ++ (t ++ w))); opened = o; shown = m_one nm (padded vs sh ws); is = simp append_assoc }
extend_name (on_next {p = p} {t = s} o is) {u = u} {v = v} nm vs {t = t} {w = w} sh ws =
    record { before = p; pairs = s ++ (44 ∷ (u ++ (58 ∷ (v ++ (t ++ w))))); opened = o; shown = m_more is nm (padded vs sh ws); is = simp append_assoc }

extend_by : {d : ℕ} {ms : Members} {n : List ℕ} {k : Stack} {q : List ℕ} → Open d (in_obj ms n ∷ k) q → {j : Json} {t w : List ℕ} → Shows d j t → Ws w → ExtendedBy d k ms n j (q ++ (t ++ w))
extend_by (o_value o nm vs) sh ws = extend_name o nm vs sh ws

k_item : {d : ℕ} {xs : Items} {k : Stack} {q : List ℕ} {j : Json} {t w : List ℕ} → Open d (in_arr xs ∷ k) q → Shows d j t → Ws w → (b : ℕ) (c : Option Punct) → punct_of 44 93 b ≡ c → Good (step_item c d j xs k) ((q ++ (t ++ w)) ++ (b ∷ []))
k_item o sh ws b (Some Space) e = mean_at (at_aft o sh (w_more b ws (punct_space 44 93 b e))) (simp append_assoc)
k_item o sh ws b (Some One) e =
    let x = extend o sh ws in
    at_val (rw (punct_one 44 93 b e, x.is, append_assoc x.before (91 ∷ x.items) (44 ∷ [])) (o_next x.opened x.shown w_none))
k_item o sh ws b (Some Two) e =
    let x = extend o sh ws in
    rw (punct_two 44 93 b e, x.is) (mean_at (at_aft x.opened (s_arr x.shown) w_none) (simp (append_assoc, append-nil)))
k_item o sh ws b None e = tt

k_pair : {d : ℕ} {ms : Members} {n : List ℕ} {k : Stack} {q : List ℕ} {j : Json} {t w : List ℕ} → Open d (in_obj ms n ∷ k) q → Shows d j t → Ws w → (b : ℕ) (c : Option Punct) → punct_of 44 125 b ≡ c → Good (step_pair c d j ms n k) ((q ++ (t ++ w)) ++ (b ∷ []))
k_pair o sh ws b (Some Space) e = mean_at (at_aft o sh (w_more b ws (punct_space 44 125 b e))) (simp append_assoc)
k_pair o sh ws b (Some One) e =
    let x = extend_by o sh ws in
    rw (punct_one 44 125 b e, x.is) (mean_at (at_member (on_next x.opened x.shown) w_none) (simp (append_assoc, append-nil)))
k_pair o sh ws b (Some Two) e =
    let x = extend_by o sh ws in
    rw (punct_two 44 125 b e, x.is) (mean_at (at_aft x.opened (s_obj x.shown) w_none) (simp (append_assoc, append-nil)))
k_pair o sh ws b None e = tt

k_top : {d : ℕ} {q : List ℕ} {j : Json} {t w : List ℕ} → Open d [] q → Shows d j t → Ws w → (b : ℕ) (c : Option Punct) → punct_of 256 256 b ≡ c → Good (step_top c d j) ((q ++ (t ++ w)) ++ (b ∷ []))
k_top o sh ws b (Some Space) e = mean_at (at_aft o sh (w_more b ws (punct_space 256 256 b e))) (simp append_assoc)
k_top o sh ws b (Some One) e = tt
k_top o sh ws b (Some Two) e = tt
k_top o sh ws b None e = tt

k_aft : {d : ℕ} (k : Stack) {q : List ℕ} {j : Json} {t w : List ℕ} → Open d k q → Shows d j t → Ws w → (b : ℕ) → Good (step_aft b d j k) ((q ++ (t ++ w)) ++ (b ∷ []))
k_aft [] o sh ws b = k_top o sh ws b (punct_of 256 256 b) refl
k_aft (in_arr xs ∷ k) o sh ws b = k_item o sh ws b (punct_of 44 93 b) refl
k_aft (in_obj ms n ∷ k) o sh ws b = k_pair o sh ws b (punct_of 44 125 b) refl

k_end_nums : {d : ℕ} {k : Stack} {f : Phase} {q r : List ℕ} → Open d k q → At f r → (b : ℕ) (z : Bool) → may_end f ≡ z → Good (end_nums z b d r k) ((q ++ r) ++ (b ∷ []))
k_end_nums {k = k} o a b true e = rw append-nil at (k_aft k o (s_num (ends a e)) w_none b)
k_end_nums o a b false e = tt

k_nums : {d : ℕ} {k : Stack} {f : Phase} {q r : List ℕ} → Open d k q → At f r → (b : ℕ) (c : Option Phase) → next f b ≡ c → Good (step_nums c b d f r k) ((q ++ r) ++ (b ∷ []))
k_nums {r = r} o a b (Some p) e = rw append_assoc (at_nums o (subst (λ (x : Option Phase). Goes x (r ++ (b ∷ []))) e (goes_on a b)))
k_nums {f = f} o a b None e = k_end_nums o a b (may_end f) refl

-- strings
k_end : {d : ℕ} {g : Role} {k : Stack} {p r : List ℕ} → OpenString d g k p → Chars r → Mean (end_string g d r k) ((p ++ (34 ∷ r)) ++ (34 ∷ []))
k_end (os_value o) cs = mean_at (at_aft o (s_str cs) w_none) (simp (append_assoc, append-nil))
k_end (os_name o ws) cs = mean_at (at_colon o (named ws cs w_none)) (simp append_assoc)

-- bytes of the classes that are to come
fill : (b : ℕ) {c : Class} {cs : List Class} → fits c b ≡ true → Filled cs → Filled (c ∷ cs)
fill b h s = (b ∷ s.0, q_more b h s.1)

rest_filled : {c : Class} {cs : List Class} {v : List ℕ} → Seq (c ∷ cs) v → Filled cs
rest_filled (q_more {v = v} b h q) = (v, q)

no_bytes : Filled []
no_bytes = ([], q_none)

two_hex : Filled (Hex ∷ Hex ∷ [])
two_hex = fill 48 refl (fill 48 refl no_bytes)

three_hex : Filled (Hex ∷ Hex ∷ Hex ∷ [])
three_hex = fill 48 refl two_hex

pair_filled : Filled pair_tail
pair_filled = fill 48 refl (fill 48 refl (fill 92 refl (fill 117 refl (fill 68 refl (fill 67 refl two_hex)))))

one_tail : Filled (tail ∷ [])
one_tail = fill 128 refl no_bytes

two_tails : Filled (tail ∷ tail ∷ [])
two_tails = fill 128 refl one_tail

behind_filled : (l : Lead) → Filled (behind l)
behind_filled lead.Two = one_tail
behind_filled lead.ThreeE0 = fill 160 refl one_tail
behind_filled lead.Three = two_tails
behind_filled lead.ThreeED = fill 128 refl one_tail
behind_filled lead.FourF0 = fill 144 refl two_tails
behind_filled lead.Four = fill 128 refl two_tails
behind_filled lead.FourF4 = fill 128 refl two_tails

k_seqs : {d : ℕ} {g : Role} {k : Stack} {p : List ℕ} (cs : List Class) (r a : List ℕ) → OpenString d g k p → Filled cs → ((v : List ℕ) → Seq cs v → Chars (r ++ (a ++ v))) → Mean (seq_go cs d g r a k) (p ++ (34 ∷ (r ++ a)))
k_seqs [] r a o s f = at_chars o (rw append-nil at (f [] q_none))
k_seqs (c ∷ cs) r a o s f = at_seq o s f

k_chars : {d : ℕ} {g : Role} {k : Stack} {q r : List ℕ} → OpenString d g k q → Chars r → (b : ℕ) (c : Option Char) → char_of b ≡ c → Good (step_chars c b d g r k) ((q ++ (34 ∷ r)) ++ (b ∷ []))
k_chars o cs b (Some Plain) e = rw append_assoc (at_chars o (c_plain b cs e))
k_chars o cs b (Some EndQuote) e = rw (char_end b e) (k_end o cs)
k_chars o cs b (Some Back) e = rw (char_back b e, append_assoc) (at_esc o cs)
k_chars {r = r} o cs b (Some (Long l)) e = rw append_assoc (k_seqs (behind l) r (b ∷ []) o (behind_filled l) (λ v q. c_long b l cs e q))
k_chars o cs b None e = tt

k_esc : {d : ℕ} {g : Role} {k : Stack} {q r : List ℕ} → OpenString d g k q → Chars r → (b : ℕ) (c : Option Escape) → escape_of b ≡ c → Good (step_esc c b d g r k) ((q ++ (34 ∷ (r ++ (92 ∷ [])))) ++ (b ∷ []))
k_esc o cs b (Some Simple) e = mean_at (at_chars o (c_escape b cs e)) (simp append_assoc)
k_esc o cs b (Some CodeUnit) e = rw (esc_uni b e) (mean_at (at_uni o cs) (simp append_assoc))
k_esc o cs b None e = tt

k_uni : {d : ℕ} {g : Role} {k : Stack} {q r : List ℕ} → OpenString d g k q → Chars r → (b : ℕ) (c : Option FirstHex) → first_of b ≡ c → Good (step_uni c b d g r k) ((q ++ (34 ∷ (r ++ (92 ∷ 117 ∷ [])))) ++ (b ∷ []))
k_uni o cs b (Some FirstD) e = mean_at (at_uni_d b o cs e) (simp append_assoc)
k_uni {r = r} o cs b (Some OtherHex) e = mean_at (k_seqs (Hex ∷ Hex ∷ Hex ∷ []) r (92 ∷ 117 ∷ b ∷ []) o three_hex (λ v q. c_unit b cs e q)) (simp append_assoc)
k_uni o cs b None e = tt

k_uni_d : {d : ℕ} {g : Role} {k : Stack} {q r : List ℕ} (b : ℕ) → OpenString d g k q → Chars r → first_of b ≡ Some FirstD → (e : ℕ) (c : Option SecondHex) → second_of e ≡ c → Good (step_uni_d c e d g r b k) ((q ++ (34 ∷ (r ++ (92 ∷ 117 ∷ b ∷ [])))) ++ (e ∷ []))
k_uni_d {r = r} b o cs h e (Some Whole) i = mean_at (k_seqs (Hex ∷ Hex ∷ []) r (92 ∷ 117 ∷ b ∷ e ∷ []) o two_hex (λ v q. c_unit_d b e cs h i q)) (simp append_assoc)
k_uni_d {r = r} b o cs h e (Some High) i = mean_at (k_seqs pair_tail r (92 ∷ 117 ∷ b ∷ e ∷ []) o pair_filled (λ v q. c_pair b e cs h i q)) (simp append_assoc)
k_uni_d b o cs h e None i = tt

k_seq : {d : ℕ} {g : Role} {k : Stack} {q : List ℕ} (r a : List ℕ) (c : Class) (cs : List Class) → OpenString d g k q → Filled (c ∷ cs) → ((v : List ℕ) → Seq (c ∷ cs) v → Chars (r ++ (a ++ v))) → (b : ℕ) (z : Bool) → fits c b ≡ z → Good (step_seq z b d g r a cs k) ((q ++ (34 ∷ (r ++ a))) ++ (b ∷ []))
k_seq r a c cs o s f b true e =
    mean_at (k_seqs cs r (a ++ (b ∷ [])) o (rest_filled s.1) (λ v q. rw (append_assoc a (b ∷ []) v) (f (b ∷ v) (q_more b e q)))) (simp append_assoc)
k_seq r a c cs o s f b false e = tt

k_lits : {d : ℕ} {k : Stack} {j : Json} {q : List ℕ} (c : ℕ) (l : List ℕ) (a : List ℕ) → Open d k q → Shows d j (a ++ (c ∷ l)) → Mean (lit_end d l j k) ((q ++ a) ++ (c ∷ []))
k_lits c [] a o sh = mean_at (at_aft o sh w_none) (simp (append_assoc, append-nil))
k_lits {d} {k} {j} c (x ∷ l) a o sh = rw append_assoc (at_lit (a ++ (c ∷ [])) o (subst (λ (z : List ℕ). Shows d j z) (sym (append_assoc a (c ∷ []) (x ∷ l))) sh))

k_lit : {d : ℕ} {k : Stack} {j : Json} {q : List ℕ} (l : List ℕ) (c : ℕ) (a : List ℕ) → Open d k q → Shows d j (a ++ (c ∷ l)) → (b : ℕ) (z : Bool) → eqb b c ≡ z → Good (lit_next z d l j k) ((q ++ a) ++ (b ∷ []))
k_lit l c a o sh b true e = rw (eqb_is b c e) (k_lits c l a o sh)
k_lit l c a o sh b false e = tt

pub keep : {s : St} {p : List ℕ} → Mean s p → (b : ℕ) → Good (step s b) (p ++ (b ∷ []))
keep (at_val o) b = k_val o b (start_of b) refl
keep (at_first o ws) b = k_first o ws b (punct_of 93 93 b) refl
keep (at_members o ws) b = k_members o ws b (punct_of 34 125 b) refl
keep (at_member o ws) b = k_member o ws b (punct_of 34 34 b) refl
keep (at_colon o nm) b = k_colon o nm b (punct_of 58 58 b) refl
keep (at_aft {k = k} o sh ws) b = k_aft k o sh ws b
keep (at_nums {f = f} o a) b = k_nums o a b (next f b) refl
keep (at_chars o cs) b = k_chars o cs b (char_of b) refl
keep (at_esc o cs) b = k_esc o cs b (escape_of b) refl
keep (at_uni o cs) b = k_uni o cs b (first_of b) refl
keep (at_uni_d c o cs h) b = k_uni_d c o cs h b (second_of b) refl
keep (at_seq {r = r} {a = a} {c = c} {cs = cs} o s f) b = k_seq r a c cs o s f b (fits c b) refl
keep (at_lit {l = l} {c = c} a o sh) b = k_lit l c a o sh b (eqb b c) refl

-- each state can be completed
viable_at : {p q : List ℕ} → Viable p → p ≡ q → Viable q
viable_at v e = subst Viable e v

viable_less : (p u : List ℕ) → Viable (p ++ u) → Viable p
viable_less p u v = (u ++ v.0, rw append_assoc at v.1)

mutual
  pub shut : {d : ℕ} {k : Stack} {q : List ℕ} → Open d k q → {j : Json} {t w : List ℕ} → Shows d j t → Ws w → Viable (q ++ (t ++ w))
  shut (o_top vs) {j} sh ws = ([], (j, rw append-nil (padded vs sh ws)))
  shut (o_first o vs) sh ws =
      viable_less _ (93 ∷ []) (viable_at (shut o (s_arr (i_one (padded vs sh ws))) w_none) (simp (append_assoc, append-nil)))
  shut (o_next o is vs) sh ws =
      viable_less _ (93 ∷ []) (viable_at (shut o (s_arr (i_more is (padded vs sh ws))) w_none) (simp (append_assoc, append-nil)))
  shut (o_value o nm vs) sh ws = shut_name o nm vs sh ws

  pub shut_name : {d : ℕ} {ms : Members} {k : Stack} {p : List ℕ} → OpenName d ms k p → {n u v : List ℕ} → Named n u → Ws v → {j : Json} {t w : List ℕ} → Shows d j t → Ws w → Viable ((p ++ (u ++ (58 ∷ v))) ++ (t ++ w))
  shut_name (on_first o) nm vs sh ws =
      viable_less _ (125 ∷ []) (viable_at (shut o (s_obj (m_one nm (padded vs sh ws))) w_none) (simp (append_assoc, append-nil)))
  shut_name (on_next o is) nm vs sh ws =
      viable_less _ (125 ∷ []) (viable_at (shut o (s_obj (m_more is nm (padded vs sh ws))) w_none) (simp (append_assoc, append-nil)))

-- a name, and then `:null`
shut_colon : {d : ℕ} {ms : Members} {k : Stack} {p : List ℕ} → OpenName d ms k p → {n u : List ℕ} → Named n u → Viable (p ++ u)
shut_colon o nm = viable_less _ (58 ∷ 110 ∷ 117 ∷ 108 ∷ 108 ∷ []) (viable_at (shut_name o nm w_none s_null w_none) (simp (append_assoc, append-nil)))

shut_string : {d : ℕ} {g : Role} {k : Stack} {p : List ℕ} → OpenString d g k p → {r : List ℕ} → Chars r → Viable (p ++ (34 ∷ r))
shut_string (os_value o) cs = viable_less _ (34 ∷ []) (viable_at (shut o (s_str cs) w_none) (simp (append_assoc, append-nil)))
shut_string (os_name o ws) cs = viable_less _ (34 ∷ []) (viable_at (shut_colon o (named ws cs w_none)) (simp append_assoc))

pub can_end : {s : St} {p : List ℕ} → Mean s p → Viable p
can_end (at_val {p = p} o) = viable_less p (110 ∷ 117 ∷ 108 ∷ 108 ∷ []) (shut o s_null w_none)
can_end (at_first o ws) = viable_less _ (93 ∷ []) (viable_at (shut o (s_arr0 ws) w_none) (simp (append_assoc, append-nil)))
can_end (at_members o ws) = viable_less _ (125 ∷ []) (viable_at (shut o (s_obj0 ws) w_none) (simp (append_assoc, append-nil)))
can_end (at_member o ws) = viable_less _ (34 ∷ 34 ∷ []) (viable_at (shut_colon o (named ws c_none w_none)) (simp append_assoc))
can_end (at_colon o nm) = shut_colon o nm
can_end (at_aft o sh ws) = shut o sh ws
can_end (at_nums o a) = let n = can_go a in viable_less _ n.0 (viable_at (shut o (s_num n.1) w_none) (simp (append_assoc, append-nil)))
can_end (at_chars o cs) = shut_string o cs
can_end (at_esc o cs) = viable_less _ (34 ∷ []) (viable_at (shut_string o (c_escape 34 cs refl)) (simp append_assoc))
can_end (at_uni o cs) =
    let s = three_hex in
    viable_less _ (48 ∷ s.0) (viable_at (shut_string o (c_unit 48 cs refl s.1)) (simp append_assoc))
can_end (at_uni_d b o cs h) =
    let s = two_hex in
    viable_less _ (48 ∷ s.0) (viable_at (shut_string o (c_unit_d b 48 cs h refl s.1)) (simp append_assoc))
can_end (at_seq o s f) = viable_less _ s.0 (viable_at (shut_string o (f s.0 s.1)) (simp append_assoc))
can_end (at_lit {l = l} {c = c} a o sh) = viable_less _ (c ∷ l) (viable_at (shut o sh w_none) (simp (append_assoc, append-nil)))
