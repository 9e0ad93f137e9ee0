-- The compact text.
-- Assumes nothing.
use Rattle.std.proofs.Common.{ℕ, List, [], ◌∷◌, ◌++◌, ap, subst, append_assoc, append-nil}
use Rattle.grammar.specs.Ast.{Json, Items, Members, also, mnone, malso}
use Rattle.grammar.specs.Grammar.{w_none, Named, named, Shows, s_null, s_true, s_false, s_num, s_str, s_arr0, s_arr, s_obj0, s_obj, Padded, padded, ShowsItems, i_one, i_more, ShowsMembers, m_one, m_more}
use Rattle.grammar.specs.Compact.{print, print_items, print_members}
use Rattle.grammar.specs.Laws.{CompactShows, CompactReads, CompactStays}
use Rattle.grammar.proofs.Answered.{reads, one_tree_lem}

plain : {d : ℕ} {j : Json} {t : List ℕ} → Shows d j t → Padded d j t
plain {d} {j} {t} sh = subst (λ (x : List ℕ). Padded d j x) (append-nil t) (padded w_none sh w_none)

bare : {n u : List ℕ} → Named n u → Named n (34 ∷ (n ++ (34 ∷ [])))
bare (named ws cs vs) = named w_none cs w_none

mutual
  compact : {d : ℕ} {j : Json} {t : List ℕ} → Shows d j t → Shows d j (print j)
  compact s_null = s_null
  compact s_true = s_true
  compact s_false = s_false
  compact (s_num ds) = s_num ds
  compact (s_str cs) = s_str cs
  compact (s_arr0 ws) = s_arr0 w_none
  compact (s_arr is) = s_arr (compact_items is)
  compact (s_obj0 ws) = s_obj0 w_none
  compact (s_obj is) = s_obj (compact_members is)

  compact_padded : {d : ℕ} {j : Json} {t : List ℕ} → Padded d j t → Padded d j (print j)
  compact_padded (padded ws sh vs) = plain (compact sh)

  compact_items : {d : ℕ} {xs : Items} {x : Json} {t : List ℕ} → ShowsItems d xs x t → ShowsItems d xs x (print_items (also xs x))
  compact_items (i_one p) = i_one (compact_padded p)
  compact_items (i_more is p) = rw append_assoc (i_more (compact_items is) (compact_padded p))

  compact_members : {d : ℕ} {ms : Members} {n : List ℕ} {x : Json} {t : List ℕ} → ShowsMembers d ms n x t → ShowsMembers d ms n x (print_members (malso ms n x))
  compact_members (m_one {d} {n} {x} nm p) =
      subst (λ (z : List ℕ). ShowsMembers d mnone n x z) (simp append_assoc) (m_one (bare nm) (compact_padded p))
  compact_members (m_more {d} {ms} {n} {m} {x} {y} is nm p) =
      subst (λ (z : List ℕ). ShowsMembers d (malso ms n x) m y z) (simp append_assoc) (m_more (compact_members is) (bare nm) (compact_padded p))

pub compact_shows : CompactShows
compact_shows d j t sh = compact sh

pub compact_reads : CompactReads
compact_reads j t (padded ws sh vs) = reads (print j) j (plain (compact sh))

pub compact_stays : CompactStays
compact_stays i j t (padded ws sh vs) q = ap print (one_tree_lem (print j) i j q (plain (compact sh)))
