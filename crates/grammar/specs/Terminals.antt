-- The bytes of JSON's terminals, by the places where they are met.
-- Assumes nothing.
use Rattle.std.specs.Prelude.{ℕ, Bool, true, false, cond, List, [], ◌∷◌, ◌==◌, nat_le, Some, None, Option}
use Rattle.grammar.specs.declared.kinds.Start.{Start}
use Rattle.grammar.specs.declared.kinds.Start.TheVariants.{Blank, Quote, Minus, Zero, Positive, OpenArray, OpenObject, LitT, LitF, LitN}
use Rattle.grammar.specs.declared.kinds.Punct.{Punct}
use Rattle.grammar.specs.declared.kinds.Punct.TheVariants.{Space, One, Two}
use Rattle.grammar.specs.declared.kinds.Class.{Class}
use Rattle.grammar.specs.declared.kinds.Class.TheVariants.{In, Hex, IsD, CtoF}
use Rattle.grammar.specs.declared.kinds.Lead.{Lead}
use Rattle.grammar.specs.declared.kinds.Lead.TheVariants as lead
use Rattle.grammar.specs.declared.kinds.Char.{Char}
use Rattle.grammar.specs.declared.kinds.Char.TheVariants.{Plain, EndQuote, Back, Long}
use Rattle.grammar.specs.declared.kinds.Escape.{Escape}
use Rattle.grammar.specs.declared.kinds.Escape.TheVariants.{Simple, CodeUnit}
use Rattle.grammar.specs.declared.kinds.FirstHex.{FirstHex}
use Rattle.grammar.specs.declared.kinds.FirstHex.TheVariants.{FirstD, OtherHex}
use Rattle.grammar.specs.declared.kinds.SecondHex.{SecondHex}
use Rattle.grammar.specs.declared.kinds.SecondHex.TheVariants.{Whole, High}

-- from lo to hi
abbrev pub within : ℕ → ℕ → ℕ → Bool
within lo hi b = cond (nat_le lo b) (nat_le b hi) false

abbrev pub is_blank : ℕ → Bool
is_blank b = cond (b == 32) true (cond (b == 9) true (cond (b == 10) true (b == 13)))

abbrev pub is_digit : ℕ → Bool
is_digit b = within 48 57 b

-- `1` to `9`
abbrev pub is_positive : ℕ → Bool
is_positive b = within 49 57 b

abbrev pub is_hex : ℕ → Bool
is_hex b = cond (within 48 57 b) true (cond (within 65 70 b) true (within 97 102 b))

abbrev pub start_of : ℕ → Option Start
start_of b =
    cond (is_blank b) (Some Blank)
    (cond (b == 34) (Some Quote)
    (cond (b == 45) (Some Minus)
    (cond (b == 48) (Some Zero)
    (cond (is_positive b) (Some Positive)
    (cond (b == 91) (Some OpenArray) (cond (b == 123) (Some OpenObject) (cond (b == 116) (Some LitT) (cond (b == 102) (Some LitF) (cond (b == 110) (Some LitN) None)))))))))

abbrev pub punct_of : ℕ → ℕ → ℕ → Option Punct
punct_of one two b = cond (is_blank b) (Some Space) (cond (b == one) (Some One) (cond (b == two) (Some Two) None))

abbrev pub tail : Class
tail = In 128 191

-- what the rows of the Unicode table of well-formed sequences ask of the bytes behind the first
abbrev pub behind : Lead → List Class
behind lead.Two = tail ∷ []
behind lead.ThreeE0 = In 160 191 ∷ tail ∷ []
behind lead.Three = tail ∷ tail ∷ []
behind lead.ThreeED = In 128 159 ∷ tail ∷ []
behind lead.FourF0 = In 144 191 ∷ tail ∷ tail ∷ []
behind lead.Four = tail ∷ tail ∷ tail ∷ []
behind lead.FourF4 = In 128 143 ∷ tail ∷ tail ∷ []

abbrev pub long_of : ℕ → Option Char
long_of b =
    cond (within 194 223 b) (Some (Long lead.Two))
    (cond (b == 224) (Some (Long lead.ThreeE0))
    (cond (within 225 236 b) (Some (Long lead.Three))
    (cond (b == 237) (Some (Long lead.ThreeED))
    (cond (within 238 239 b) (Some (Long lead.Three))
    (cond (b == 240) (Some (Long lead.FourF0))
    (cond (within 241 243 b) (Some (Long lead.Four)) (cond (b == 244) (Some (Long lead.FourF4)) None)))))))

-- control characters below 32 stand in no string
abbrev pub char_of : ℕ → Option Char
char_of b = cond (b == 34) (Some EndQuote) (cond (b == 92) (Some Back) (cond (within 32 127 b) (Some Plain) (long_of b)))

-- `"`, `\`, `/`, `b`, `f`, `n`, `r`, `t`
abbrev pub is_simple : ℕ → Bool
is_simple b =
    cond (b == 34) true
    (cond (b == 92) true (cond (b == 47) true (cond (b == 98) true (cond (b == 102) true (cond (b == 110) true (cond (b == 114) true (b == 116)))))))

abbrev pub escape_of : ℕ → Option Escape
escape_of b = cond (is_simple b) (Some Simple) (cond (b == 117) (Some CodeUnit) None)

abbrev pub is_d : ℕ → Bool
is_d b = cond (b == 68) true (b == 100)

abbrev pub first_of : ℕ → Option FirstHex
first_of b = cond (is_d b) (Some FirstD) (cond (is_hex b) (Some OtherHex) None)

abbrev pub second_of : ℕ → Option SecondHex
second_of b = cond (within 48 55 b) (Some Whole) (cond (within 56 57 b) (Some High) (cond (within 65 66 b) (Some High) (cond (within 97 98 b) (Some High) None)))

abbrev pub fits : Class → ℕ → Bool
fits (In lo hi) b = within lo hi b
fits Hex b = is_hex b
fits IsD b = is_d b
fits CtoF b = cond (within 67 70 b) true (within 99 102 b)

-- what follows the first two digits of a pair of surrogates: two digits, `\u`, and the four digits of the second, from DC00 to DFFF
abbrev pub pair_tail : List Class
pair_tail = Hex ∷ Hex ∷ In 92 92 ∷ In 117 117 ∷ IsD ∷ CtoF ∷ Hex ∷ Hex ∷ []
