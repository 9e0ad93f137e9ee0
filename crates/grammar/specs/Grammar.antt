-- JSON as RFC 8259 has it, with nesting counted: `Shows d j t` says that the bytes t are a writing of j, nested at most d deep. Everything is defined by one more at its right end.
-- Assumes nothing.
use Rattle.std.specs.Prelude.{◌≡◌, ℕ, suc, true, List, [], ◌∷◌, ◌++◌, Some}
use Rattle.grammar.specs.Ast.{Json, Items, Members, null, tru, fals, num, str, arr, obj, none, also, mnone, malso}
use Rattle.grammar.specs.Terminals.{is_blank, fits, char_of, behind, escape_of, first_of, second_of, pair_tail}
use Rattle.grammar.specs.Numbers.{Number}
use Rattle.grammar.specs.declared.kinds.Class.{Class}
use Rattle.grammar.specs.declared.kinds.Class.TheVariants.{Hex}
use Rattle.grammar.specs.declared.kinds.Lead.{Lead}
use Rattle.grammar.specs.declared.kinds.Char.TheVariants.{Plain, Long}
use Rattle.grammar.specs.declared.kinds.Escape.TheVariants.{Simple}
use Rattle.grammar.specs.declared.kinds.FirstHex.TheVariants.{FirstD, OtherHex}
use Rattle.grammar.specs.declared.kinds.SecondHex.TheVariants.{Whole, High}

-- white space
pub data Ws : List ℕ → Type 0 where
  w_none : Ws []
  w_more : {w : List ℕ} (b : ℕ) → Ws w → is_blank b ≡ true → Ws (w ++ (b ∷ []))

-- bytes of given classes, one by one
pub data Seq : List Class → List ℕ → Type 0 where
  q_none : Seq [] []
  q_more : {c : Class} {cs : List Class} {v : List ℕ} (b : ℕ) → fits c b ≡ true → Seq cs v → Seq (c ∷ cs) (b ∷ v)

-- what stands between a string's quotes: ASCII but `"` and `\`, longer UTF-8, escapes of one letter, `\u` and four digits that are no surrogate, and pairs of surrogates
pub data Chars : List ℕ → Type 0 where
  c_none : Chars []
  c_plain : {r : List ℕ} (b : ℕ) → Chars r → char_of b ≡ Some Plain → Chars (r ++ (b ∷ []))
  c_long : {r v : List ℕ} (b : ℕ) (l : Lead) → Chars r → char_of b ≡ Some (Long l) → Seq (behind l) v → Chars (r ++ (b ∷ v))
  c_escape : {r : List ℕ} (b : ℕ) → Chars r → escape_of b ≡ Some Simple → Chars (r ++ (92 ∷ b ∷ []))
  c_unit : {r v : List ℕ} (b : ℕ) → Chars r → first_of b ≡ Some OtherHex → Seq (Hex ∷ Hex ∷ Hex ∷ []) v → Chars (r ++ (92 ∷ 117 ∷ b ∷ v))
  c_unit_d : {r v : List ℕ} (b e : ℕ) → Chars r → first_of b ≡ Some FirstD → second_of e ≡ Some Whole → Seq (Hex ∷ Hex ∷ []) v → Chars (r ++ (92 ∷ 117 ∷ b ∷ e ∷ v))
  c_pair : {r v : List ℕ} (b e : ℕ) → Chars r → first_of b ≡ Some FirstD → second_of e ≡ Some High → Seq pair_tail v → Chars (r ++ (92 ∷ 117 ∷ b ∷ e ∷ v))

-- a name with white space on either side
pub data Named : List ℕ → List ℕ → Type 0 where
  named : {n w v : List ℕ} → Ws w → Chars n → Ws v → Named n (w ++ (34 ∷ (n ++ (34 ∷ v))))

mutual
  pub data Shows : ℕ → Json → List ℕ → Type 0 where
    s_null : {d : ℕ} → Shows d null (110 ∷ 117 ∷ 108 ∷ 108 ∷ [])
    s_true : {d : ℕ} → Shows d tru (116 ∷ 114 ∷ 117 ∷ 101 ∷ [])
    s_false : {d : ℕ} → Shows d fals (102 ∷ 97 ∷ 108 ∷ 115 ∷ 101 ∷ [])
    s_num : {d : ℕ} {r : List ℕ} → Number r → Shows d (num r) r
    s_str : {d : ℕ} {r : List ℕ} → Chars r → Shows d (str r) (34 ∷ (r ++ (34 ∷ [])))
    s_arr0 : {d : ℕ} {w : List ℕ} → Ws w → Shows (suc d) (arr none) (91 ∷ (w ++ (93 ∷ [])))
    s_arr : {d : ℕ} {xs : Items} {x : Json} {t : List ℕ} → ShowsItems d xs x t → Shows (suc d) (arr (also xs x)) (91 ∷ (t ++ (93 ∷ [])))
    s_obj0 : {d : ℕ} {w : List ℕ} → Ws w → Shows (suc d) (obj mnone) (123 ∷ (w ++ (125 ∷ [])))
    s_obj : {d : ℕ} {ms : Members} {n : List ℕ} {x : Json} {t : List ℕ} → ShowsMembers d ms n x t → Shows (suc d) (obj (malso ms n x)) (123 ∷ (t ++ (125 ∷ [])))

  -- a value with white space on either side
  pub data Padded : ℕ → Json → List ℕ → Type 0 where
    padded : {d : ℕ} {x : Json} {w t v : List ℕ} → Ws w → Shows d x t → Ws v → Padded d x (w ++ (t ++ v))

  -- items with commas between them, the last one apart
  pub data ShowsItems : ℕ → Items → Json → List ℕ → Type 0 where
    i_one : {d : ℕ} {x : Json} {t : List ℕ} → Padded d x t → ShowsItems d none x t
    i_more : {d : ℕ} {xs : Items} {x y : Json} {s t : List ℕ} → ShowsItems d xs x s → Padded d y t → ShowsItems d (also xs x) y (s ++ (44 ∷ t))

  -- members with commas between them, the last one's name and value apart
  pub data ShowsMembers : ℕ → Members → List ℕ → Json → List ℕ → Type 0 where
    m_one : {d : ℕ} {n : List ℕ} {x : Json} {s t : List ℕ} → Named n s → Padded d x t → ShowsMembers d mnone n x (s ++ (58 ∷ t))
    m_more : {d : ℕ} {ms : Members} {n m : List ℕ} {x y : Json} {s u t : List ℕ} → ShowsMembers d ms n x s → Named m u → Padded d y t → ShowsMembers d (malso ms n x) m y (s ++ (44 ∷ (u ++ (58 ∷ t))))

-- A permitted text: a value nested at most 64 deep, with white space around it. And the start of one.
abbrev pub Text : List ℕ → Type 0
Text t = (j : Json) × Padded 64 j t

abbrev pub Viable : List ℕ → Type 0
Viable p = (t : List ℕ) × Text (p ++ t)
