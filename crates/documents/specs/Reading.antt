-- What the readers answer of bytes: a part at their front that is of a given form, or the bytes before which the automaton stops, whatever surrounds the part; and what is left.
-- Assumes nothing.
use Rattle.std.specs.Prelude.{◌≡◌, ℕ, suc, Bool, true, false, ◌⊎◌, List, [], ◌∷◌, ◌++◌, Some}
use Rattle.grammar.specs.Ast.{Json, Members, num, mnone, malso}
use Rattle.grammar.specs.Grammar.{Ws, Chars, Named, Shows, ShowsMembers}
use Rattle.grammar.specs.Machine.{Stack, in_obj, Role, St, val, first, members, member, aft, nums, chars, esc, uni, uni_d, lit, seq_go, run, stopped}
use Rattle.grammar.specs.Numbers.{Number, At}
use Rattle.grammar.specs.Terminals.{is_blank, first_of}
use Rattle.grammar.specs.declared.kinds.Class.{Class}
use Rattle.grammar.specs.declared.kinds.FirstHex.TheVariants.{FirstD}
use Rattle.grammar.specs.declared.kinds.Phase.{Phase}

-- The bytes s begin with some that have the property P, and r is what is left behind them.
pub record Part (P : List ℕ → Type 0) (s r : List ℕ) : Type 0 where
  pub text : List ℕ
  pub splits : s ≡ text ++ r
  pub holds : P text

-- Started at s in any of the given states, the automaton stops before r.
abbrev pub Refuses : ((St → Type 0) → Type 0) → List ℕ → List ℕ → Type 0
Refuses any s r = any (λ m. run m s ≡ stopped r)

-- The bytes s are one with the property P, and then r.
abbrev pub Begins : (ℕ → Type 0) → List ℕ → List ℕ → Type 0
Begins P s r = (b : ℕ) × (s ≡ b ∷ r) × P b

-- The bytes s, of which all are left, are none, or the first of them has the property P.
abbrev pub BeginsNot : (ℕ → Type 0) → List ℕ → List ℕ → Type 0
BeginsNot P s r = (r ≡ s) × ((s ≡ []) ⊎ ((b : ℕ) × (u : List ℕ) × (s ≡ b ∷ u) × P b))

-- whether white space comes
abbrev pub blank_next : List ℕ → Bool
blank_next [] = false
blank_next (b ∷ u) = is_blank b

-- no white space comes
abbrev pub NoBlank : List ℕ → Type 0
NoBlank s = blank_next s ≡ false

-- ---- bytes that are expected one by one
pub data Each (E : Type 0) (fits : E → ℕ → Bool) : List E → List ℕ → Type 0 where
  e_none : Each E fits [] []
  e_more : {es : List E} {t : List ℕ} (e : E) (b : ℕ) → fits e b ≡ true → Each E fits es t → Each E fits (e ∷ es) (b ∷ t)

-- the first byte, if there is one, is not the one expected
abbrev pub Unlike : (E : Type 0) → (E → ℕ → Bool) → E → List ℕ → Type 0
Unlike E fits e [] = Unit {0}
Unlike E fits e (b ∷ u) = fits e b ≡ false

-- The bytes s are as expected up to r, and no further.
pub record Differs (E : Type 0) (fits : E → ℕ → Bool) (es : List E) (s r : List ℕ) : Type 0 where
  pub before : List E
  pub next : E
  pub behind : List E
  pub is : es ≡ before ++ (next ∷ behind)
  pub part : Part (Each E fits before) s r
  pub unlike : Unlike E fits next r

-- ---- the states in which each reader may have begun
abbrev pub AnyValue : ℕ → (St → Type 0) → Type 0
AnyValue d Q = (k : Stack) → Q (val d k)

abbrev pub AnyArray : ℕ → (St → Type 0) → Type 0
AnyArray d Q = (k : Stack) → Q (first d k)

abbrev pub AnyObject : ℕ → (St → Type 0) → Type 0
AnyObject d Q = (k : Stack) → Q (members d k)

abbrev pub AnyName : (St → Type 0) → Type 0
AnyName Q = (d : ℕ) (ms : Members) (k : Stack) → Q (member d ms k)

abbrev pub AnyWord : List ℕ → (St → Type 0) → Type 0
AnyWord w Q = (d : ℕ) (j : Json) (k : Stack) → Q (lit d w j k)

abbrev pub AnyNumber : Phase → (St → Type 0) → Type 0
AnyNumber p Q = (d : ℕ) (r : List ℕ) (k : Stack) → Q (nums d p r k)

abbrev pub AnyString : (St → Type 0) → Type 0
AnyString Q = (d : ℕ) (g : Role) (k : Stack) → Q (chars d g [] k)

abbrev pub AnyEscape : (St → Type 0) → Type 0
AnyEscape Q = (d : ℕ) (g : Role) (r : List ℕ) (k : Stack) → Q (esc d g r k)

abbrev pub AnyUnit : (St → Type 0) → Type 0
AnyUnit Q = (d : ℕ) (g : Role) (r : List ℕ) (k : Stack) → Q (uni d g r k)

abbrev pub AnyUnitD : (St → Type 0) → Type 0
AnyUnitD Q = (d : ℕ) (g : Role) (r : List ℕ) (b : ℕ) (k : Stack) → Q (uni_d d g r b k)

abbrev pub AnySeq : List Class → (St → Type 0) → Type 0
AnySeq cs Q = (d : ℕ) (g : Role) (r a : List ℕ) (k : Stack) → Q (seq_go cs d g r a k)

-- ---- what each reader found
-- what follows a backslash, `\u` and `\uD` in a string
abbrev pub AfterBack : List ℕ → Type 0
AfterBack t = (r : List ℕ) → Chars r → Chars (r ++ (92 ∷ t))

abbrev pub AfterU : List ℕ → Type 0
AfterU t = (r : List ℕ) → Chars r → Chars (r ++ (92 ∷ 117 ∷ t))

abbrev pub AfterD : List ℕ → Type 0
AfterD t = (r : List ℕ) (b : ℕ) → first_of b ≡ Some FirstD → Chars r → Chars (r ++ (92 ∷ 117 ∷ b ∷ t))

-- the characters of a string, and its closing quote behind them
abbrev pub GotString : List ℕ → List ℕ → Type 0
GotString s r = Part Chars s (34 ∷ r)

-- the rest of a number that has come to the phase p
pub record GotNumber (p : Phase) (s r : List ℕ) : Type 0 where
  pub part : Part (λ t. (x : List ℕ) → At p x → Number (x ++ t)) s r
  pub goes : (d : ℕ) (x : List ℕ) (k : Stack) → run (nums d p x k) s ≡ run (aft d (num (x ++ part.text)) k) r

pub record GotValue (d : ℕ) (s r : List ℕ) : Type 0 where
  pub json : Json
  pub part : Part (Shows d json) s r
  pub goes : (k : Stack) → run (val d k) s ≡ run (aft d json k) r

-- an array, or an object, behind its opening bracket
pub record GotArray (d : ℕ) (s r : List ℕ) : Type 0 where
  pub json : Json
  pub part : Part (λ t. Shows (suc d) json (91 ∷ t)) s r
  pub goes : (k : Stack) → run (first d k) s ≡ run (aft (suc d) json k) r

pub record GotObject (d : ℕ) (s r : List ℕ) : Type 0 where
  pub json : Json
  pub part : Part (λ t. Shows (suc d) json (123 ∷ t)) s r
  pub goes : (k : Stack) → run (members d k) s ≡ run (aft (suc d) json k) r

-- a name as it is written between its quotes, its colon, and white space around that
pub data NameColon : List ℕ → List ℕ → Type 0 where
  name_colon : {n v w : List ℕ} → Chars n → Ws v → Ws w → NameColon n (34 ∷ (n ++ (34 ∷ (v ++ (58 ∷ w)))))

pub record GotName (s name r : List ℕ) : Type 0 where
  pub part : Part (NameColon name) s r
  pub goes : (d : ℕ) (ms : Members) (k : Stack) → run (member d ms k) s ≡ run (val d (in_obj ms name ∷ k)) r

-- ---- an object's members so far, from behind its opening brace
-- up to where a name is to come
pub data ReadyName : ℕ → Members → List ℕ → Type 0 where
  rn_first : {d : ℕ} {w : List ℕ} → Ws w → ReadyName d mnone w
  rn_next : {d : ℕ} {ms : Members} {n : List ℕ} {x : Json} {t w : List ℕ} → ShowsMembers d ms n x t → Ws w → ReadyName d (malso ms n x) (t ++ (44 ∷ w))

-- and up to where that name's value is to come
pub data ReadyPair : ℕ → Members → List ℕ → List ℕ → Type 0 where
  rp_first : {d : ℕ} {n u w : List ℕ} → Named n u → Ws w → ReadyPair d mnone n (u ++ (58 ∷ w))
  rp_next : {d : ℕ} {ms : Members} {m n : List ℕ} {x : Json} {t u w : List ℕ} → ShowsMembers d ms m x t → Named n u → Ws w → ReadyPair d (malso ms m x) n (t ++ (44 ∷ (u ++ (58 ∷ w))))
