-- The compact text: the tokens as written, with no white space between them.
-- Assumes nothing.
use Rattle.std.specs.Prelude.{ℕ, Bool, false, cond, List, [], ◌∷◌, ◌++◌, ◌==◌}
use Rattle.grammar.specs.Ast.{Json, Items, Members, null, tru, fals, num, str, arr, obj, none, also, mnone, malso}
use Rattle.grammar.specs.Terminals.{is_blank}
use Rattle.grammar.specs.declared.kinds.Place.{Place}
use Rattle.grammar.specs.declared.kinds.Place.TheVariants.{Between, InString, Escaped}

abbrev pub sep_items : Items → List ℕ → List ℕ
sep_items none t = []
sep_items (also xs x) t = t ++ (44 ∷ [])

abbrev pub sep_members : Members → List ℕ → List ℕ
sep_members mnone t = []
sep_members (malso ms n x) t = t ++ (44 ∷ [])

abbrev mutual
  pub print : Json → List ℕ
  print null = 110 ∷ 117 ∷ 108 ∷ 108 ∷ []
  print tru = 116 ∷ 114 ∷ 117 ∷ 101 ∷ []
  print fals = 102 ∷ 97 ∷ 108 ∷ 115 ∷ 101 ∷ []
  print (num r) = r
  print (str r) = 34 ∷ (r ++ (34 ∷ []))
  print (arr xs) = 91 ∷ (print_items xs ++ (93 ∷ []))
  print (obj ms) = 123 ∷ (print_members ms ++ (125 ∷ []))

  pub print_items : Items → List ℕ
  print_items none = []
  print_items (also xs x) = sep_items xs (print_items xs) ++ print x

  pub print_members : Members → List ℕ
  print_members mnone = []
  print_members (malso ms n x) = sep_members ms (print_members ms) ++ (34 ∷ (n ++ (34 ∷ 58 ∷ print x)))

-- ---- the same byte by byte

-- where the next byte stands
abbrev pub moved : Place → ℕ → Place
moved Between b = cond (b == 34) InString Between
moved InString b = cond (b == 34) Between (cond (b == 92) Escaped InString)
moved Escaped b = InString

abbrev pub dropped : Place → ℕ → Bool
dropped Between b = is_blank b
dropped InString b = false
dropped Escaped b = false

-- the bytes without the white space outside strings
abbrev pub squeezed : Place → List ℕ → List ℕ
squeezed p [] = []
squeezed p (b ∷ t) = cond (dropped p b) (squeezed (moved p b) t) (b ∷ squeezed (moved p b) t)
