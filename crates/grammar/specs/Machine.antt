-- A pushdown automaton that reads JSON byte by byte, and stops before the first byte that no text continues with.
-- Assumes nothing.
use Rattle.std.specs.Prelude.{ℕ, zero, suc, Bool, true, false, List, [], ◌∷◌, ◌++◌, ◌==◌, Some, None, Option}
use Rattle.grammar.specs.Ast.{Json, Items, Members, null, tru, fals, num, str, arr, obj, none, also, mnone, malso}
use Rattle.grammar.specs.Terminals.{start_of, punct_of, fits, char_of, behind, escape_of, first_of, second_of, pair_tail}
use Rattle.grammar.specs.Numbers.{next, may_end}
use Rattle.grammar.specs.declared.kinds.Start.{Start}
use Rattle.grammar.specs.declared.kinds.Start.TheVariants.{Blank, Quote, Minus, Zero, Positive, OpenArray, OpenObject, LitT, LitF, LitN}
use Rattle.grammar.specs.declared.kinds.Punct.{Punct}
use Rattle.grammar.specs.declared.kinds.Punct.TheVariants.{Space, One, Two}
use Rattle.grammar.specs.declared.kinds.Class.{Class}
use Rattle.grammar.specs.declared.kinds.Class.TheVariants.{Hex}
use Rattle.grammar.specs.declared.kinds.Char.{Char}
use Rattle.grammar.specs.declared.kinds.Char.TheVariants.{Plain, EndQuote, Back, Long}
use Rattle.grammar.specs.declared.kinds.Escape.{Escape}
use Rattle.grammar.specs.declared.kinds.Escape.TheVariants.{Simple, CodeUnit}
use Rattle.grammar.specs.declared.kinds.FirstHex.{FirstHex}
use Rattle.grammar.specs.declared.kinds.FirstHex.TheVariants.{FirstD, OtherHex}
use Rattle.grammar.specs.declared.kinds.SecondHex.{SecondHex}
use Rattle.grammar.specs.declared.kinds.SecondHex.TheVariants.{Whole, High}
use Rattle.grammar.specs.declared.kinds.Phase.{Phase}
use Rattle.grammar.specs.declared.kinds.Phase.TheVariants.{AtMinus, AtZero, AtWhole}

-- An open array with its items so far, or an open object with its members so far and the name whose value is to come.
pub data Frame : Type 0 where
  in_arr : Items → Frame
  in_obj : Members → List ℕ → Frame

abbrev pub Stack : Type 0
Stack = List Frame

-- What a string is for.
pub data Role : Type 0 where
  value : Role
  name : Members → Role

-- d is how much deeper values may nest here.
pub data St : Type 0 where
  val : (d : ℕ) → Stack → St
  first : (d : ℕ) → Stack → St
  members : (d : ℕ) → Stack → St
  member : (d : ℕ) → Members → Stack → St
  colon : (d : ℕ) → Members → List ℕ → Stack → St
  aft : (d : ℕ) → Json → Stack → St
  nums : (d : ℕ) → Phase → List ℕ → Stack → St
  chars : (d : ℕ) → Role → List ℕ → Stack → St
  esc : (d : ℕ) → Role → List ℕ → Stack → St
  uni : (d : ℕ) → Role → List ℕ → Stack → St
  uni_d : (d : ℕ) → Role → List ℕ → ℕ → Stack → St
  seq : (d : ℕ) → Role → List ℕ → List ℕ → Class → List Class → Stack → St
  lit : (d : ℕ) → List ℕ → Json → Stack → St

pub data Next : Type 0 where
  bad : Next
  go : St → Next

pub data Out : Type 0 where
  done : Json → Out
  open_end : Out
  stuck : List ℕ → Out

abbrev pub open_array : ℕ → Stack → Next
open_array zero k = bad
open_array (suc d) k = go (first d k)

abbrev pub open_object : ℕ → Stack → Next
open_object zero k = bad
open_object (suc d) k = go (members d k)

abbrev pub step_val : Option Start → ℕ → ℕ → Stack → Next
step_val (Some Blank) b d k = go (val d k)
step_val (Some Quote) b d k = go (chars d value [] k)
step_val (Some Minus) b d k = go (nums d AtMinus (b ∷ []) k)
step_val (Some Zero) b d k = go (nums d AtZero (b ∷ []) k)
step_val (Some Positive) b d k = go (nums d AtWhole (b ∷ []) k)
step_val (Some OpenArray) b d k = open_array d k
step_val (Some OpenObject) b d k = open_object d k
step_val (Some LitT) b d k = go (lit d (114 ∷ 117 ∷ 101 ∷ []) tru k)
step_val (Some LitF) b d k = go (lit d (97 ∷ 108 ∷ 115 ∷ 101 ∷ []) fals k)
step_val (Some LitN) b d k = go (lit d (117 ∷ 108 ∷ 108 ∷ []) null k)
step_val None b d k = bad

abbrev pub step_first : Option Punct → ℕ → ℕ → Stack → Next
step_first (Some Space) b d k = go (first d k)
step_first (Some One) b d k = go (aft (suc d) (arr none) k)
step_first (Some Two) b d k = go (aft (suc d) (arr none) k)
step_first None b d k = step_val (start_of b) b d (in_arr none ∷ k)

abbrev pub step_members : Option Punct → ℕ → Stack → Next
step_members (Some Space) d k = go (members d k)
step_members (Some One) d k = go (chars d (name mnone) [] k)
step_members (Some Two) d k = go (aft (suc d) (obj mnone) k)
step_members None d k = bad

abbrev pub step_member : Option Punct → ℕ → Members → Stack → Next
step_member (Some Space) d ms k = go (member d ms k)
step_member (Some One) d ms k = go (chars d (name ms) [] k)
step_member (Some Two) d ms k = go (chars d (name ms) [] k)
step_member None d ms k = bad

abbrev pub step_colon : Option Punct → ℕ → Members → List ℕ → Stack → Next
step_colon (Some Space) d ms n k = go (colon d ms n k)
step_colon (Some One) d ms n k = go (val d (in_obj ms n ∷ k))
step_colon (Some Two) d ms n k = go (val d (in_obj ms n ∷ k))
step_colon None d ms n k = bad

abbrev pub step_item : Option Punct → ℕ → Json → Items → Stack → Next
step_item (Some Space) d j xs k = go (aft d j (in_arr xs ∷ k))
step_item (Some One) d j xs k = go (val d (in_arr (also xs j) ∷ k))
step_item (Some Two) d j xs k = go (aft (suc d) (arr (also xs j)) k)
step_item None d j xs k = bad

abbrev pub step_pair : Option Punct → ℕ → Json → Members → List ℕ → Stack → Next
step_pair (Some Space) d j ms n k = go (aft d j (in_obj ms n ∷ k))
step_pair (Some One) d j ms n k = go (member d (malso ms n j) k)
step_pair (Some Two) d j ms n k = go (aft (suc d) (obj (malso ms n j)) k)
step_pair None d j ms n k = bad

abbrev pub step_top : Option Punct → ℕ → Json → Next
step_top (Some Space) d j = go (aft d j [])
step_top (Some One) d j = bad
step_top (Some Two) d j = bad
step_top None d j = bad

abbrev pub step_in : Frame → ℕ → ℕ → Json → Stack → Next
step_in (in_arr xs) b d j k = step_item (punct_of 44 93 b) d j xs k
step_in (in_obj ms n) b d j k = step_pair (punct_of 44 125 b) d j ms n k

abbrev pub step_aft : ℕ → ℕ → Json → Stack → Next
step_aft b d j [] = step_top (punct_of 256 256 b) d j
step_aft b d j (f ∷ k) = step_in f b d j k

-- a number is ended by the first byte that it does not go on with
abbrev pub end_nums : Bool → ℕ → ℕ → List ℕ → Stack → Next
end_nums true b d r k = step_aft b d (num r) k
end_nums false b d r k = bad

abbrev pub step_nums : Option Phase → ℕ → ℕ → Phase → List ℕ → Stack → Next
step_nums (Some q) b d p r k = go (nums d q (r ++ (b ∷ [])) k)
step_nums None b d p r k = end_nums (may_end p) b d r k

abbrev pub end_string : Role → ℕ → List ℕ → Stack → St
end_string value d r k = aft d (str r) k
end_string (name ms) d r k = colon d ms r k

-- a are the bytes of the character that is being read, cs the classes of those to come
abbrev pub seq_go : List Class → ℕ → Role → List ℕ → List ℕ → Stack → St
seq_go [] d g r a k = chars d g (r ++ a) k
seq_go (c ∷ cs) d g r a k = seq d g r a c cs k

abbrev pub step_seq : Bool → ℕ → ℕ → Role → List ℕ → List ℕ → List Class → Stack → Next
step_seq true b d g r a cs k = go (seq_go cs d g r (a ++ (b ∷ [])) k)
step_seq false b d g r a cs k = bad

abbrev pub step_chars : Option Char → ℕ → ℕ → Role → List ℕ → Stack → Next
step_chars (Some Plain) b d g r k = go (chars d g (r ++ (b ∷ [])) k)
step_chars (Some EndQuote) b d g r k = go (end_string g d r k)
step_chars (Some Back) b d g r k = go (esc d g r k)
step_chars (Some (Long l)) b d g r k = go (seq_go (behind l) d g r (b ∷ []) k)
step_chars None b d g r k = bad

abbrev pub step_esc : Option Escape → ℕ → ℕ → Role → List ℕ → Stack → Next
step_esc (Some Simple) b d g r k = go (chars d g (r ++ (92 ∷ b ∷ [])) k)
step_esc (Some CodeUnit) b d g r k = go (uni d g r k)
step_esc None b d g r k = bad

abbrev pub step_uni : Option FirstHex → ℕ → ℕ → Role → List ℕ → Stack → Next
step_uni (Some FirstD) b d g r k = go (uni_d d g r b k)
step_uni (Some OtherHex) b d g r k = go (seq d g r (92 ∷ 117 ∷ b ∷ []) Hex (Hex ∷ Hex ∷ []) k)
step_uni None b d g r k = bad

abbrev pub step_uni_d : Option SecondHex → ℕ → ℕ → Role → List ℕ → ℕ → Stack → Next
step_uni_d (Some Whole) e d g r b k = go (seq_go (Hex ∷ Hex ∷ []) d g r (92 ∷ 117 ∷ b ∷ e ∷ []) k)
step_uni_d (Some High) e d g r b k = go (seq_go pair_tail d g r (92 ∷ 117 ∷ b ∷ e ∷ []) k)
step_uni_d None e d g r b k = bad

abbrev pub lit_end : ℕ → List ℕ → Json → Stack → St
lit_end d [] j k = aft d j k
lit_end d (c ∷ l) j k = lit d (c ∷ l) j k

abbrev pub lit_next : Bool → ℕ → List ℕ → Json → Stack → Next
lit_next true d l j k = go (lit_end d l j k)
lit_next false d l j k = bad

abbrev pub step_lit : ℕ → ℕ → List ℕ → Json → Stack → Next
step_lit b d [] j k = bad
step_lit b d (c ∷ l) j k = lit_next (b == c) d l j k

abbrev pub step : St → ℕ → Next
step (val d k) b = step_val (start_of b) b d k
step (first d k) b = step_first (punct_of 93 93 b) b d k
step (members d k) b = step_members (punct_of 34 125 b) d k
step (member d ms k) b = step_member (punct_of 34 34 b) d ms k
step (colon d ms n k) b = step_colon (punct_of 58 58 b) d ms n k
step (aft d j k) b = step_aft b d j k
step (nums d p r k) b = step_nums (next p b) b d p r k
step (chars d g r k) b = step_chars (char_of b) b d g r k
step (esc d g r k) b = step_esc (escape_of b) b d g r k
step (uni d g r k) b = step_uni (first_of b) b d g r k
step (uni_d d g r c k) b = step_uni_d (second_of b) b d g r c k
step (seq d g r a c cs k) b = step_seq (fits c b) b d g r a cs k
step (lit d l j k) b = step_lit b d l j k

abbrev pub finish_aft : Json → Stack → Out
finish_aft j [] = done j
finish_aft j (f ∷ k) = open_end

abbrev pub finish_nums : Bool → List ℕ → Stack → Out
finish_nums true r k = finish_aft (num r) k
finish_nums false r k = open_end

abbrev pub finish : St → Out
finish (val d k) = open_end
finish (first d k) = open_end
finish (members d k) = open_end
finish (member d ms k) = open_end
finish (colon d ms n k) = open_end
finish (aft d j k) = finish_aft j k
finish (nums d p r k) = finish_nums (may_end p) r k
finish (chars d g r k) = open_end
finish (esc d g r k) = open_end
finish (uni d g r k) = open_end
finish (uni_d d g r c k) = open_end
finish (seq d g r a c cs k) = open_end
finish (lit d l j k) = open_end

abbrev pub run : St → List ℕ → Out
run s [] = finish s
run s (b ∷ t) = elim (step s b) [ bad ↦ stuck (b ∷ t) | go n ↦ run n t ]

abbrev pub parse : List ℕ → Out
parse t = run (val 64 []) t

-- The automaton stops before what is left: the bytes end too early, or the next one is wrong.
abbrev pub stopped : List ℕ → Out
stopped [] = open_end
stopped (b ∷ r) = stuck (b ∷ r)
