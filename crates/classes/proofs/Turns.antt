-- One turn of each loop that makes the class list. Assumes nothing.
use Rattle.std.proofs.Common.{◌≡◌, ℕ, suc, ◌+◌, ◌-◌, ◌<◌, true, false, cond, List, [], ◌∷◌, ◌++◌, map, length, get_or, drop, Some, None, Option, Bool, Bor, sym, refl, ap, ◌∙◌, append_assoc, append-nil, arith}
use Rattle.std.specs.List.{slice_get}
use Rattle.std.specs.Option.{MatchOption, option_copied, option_map}
use Rattle.std.proofs.lemmas.List.{drop_more}
use Rattle.paths.specs.Paths.{Path}
use Rattle.paths.specs.Values.{names_of}
use Rattle.classes.specs.declared.found.Found.{Found}
use Rattle.classes.specs.declared.listing.Node.{Node}
use Rattle.classes.specs.declared.listing.Passed.{Passed}
use Rattle.classes.specs.Classes.{Entry, look, entry, told, last_path, is_last, granted_of, passed_of, kept_after, repeats_after, kept, repeats, repeated}

-- ---- the last node

-- the path of the last node
path_at : (ns : List Node) → option_map (λ (n : Node). names_of n.path) (slice_get ns (length ns - 1)) ≡ last_path (map entry ns)
path_at [] = refl
path_at (m ∷ []) = refl
path_at (m ∷ k ∷ ns) =
    let i : suc (suc (length ns)) - 1 ≡ suc (suc (length ns) - 1) = omega arith in
    ap (λ j. option_map (λ (n : Node). names_of n.path) (slice_get (m ∷ k ∷ ns) j)) i ∙ path_at (k ∷ ns)

-- what is said of the last node, and false where there is none
pub said_of_last : (ns : List Node) (o : Option (Bor Node)) (p : Path) (r : Bool) (Says : Bor Node → Type 0) → option_copied o ≡ slice_get ns (length ns - 1) → MatchOption o (r ≡ false) Says → ((n : Bor Node) → Says n → r ≡ is_last (Some (names_of n.now.path)) p) → r ≡ is_last (last_path (map entry ns)) p
said_of_last ns None p r Says e g says = g ∙ ap (λ q. is_last q p) (ap (option_map (λ (n : Node). names_of n.path)) e ∙ path_at ns)
said_of_last ns (Some n) p r Says e g says = says n g ∙ ap (λ q. is_last q p) (ap (option_map (λ (m : Node). names_of m.path)) e ∙ path_at ns)

last_push : (es : List Entry) (e : Entry) → last_path (es ++ e ∷ []) ≡ Some e.path
last_push [] e = refl
last_push (d ∷ []) e = refl
last_push (d ∷ c ∷ es) e = last_push (c ∷ es) e

-- ---- lists that grow

map-append : {X Y : Type 0} (f : X → Y) (xs ys : List X) → map f (xs ++ ys) ≡ map f xs ++ map f ys
map-append f [] ys = refl
map-append f (x ∷ xs) ys = ap (λ l. f x ∷ l) (map-append f xs ys)

-- the element that a turn reads, in front of the rest
pub ahead : {X Y : Type 0} (f : X → Y) (xs : List X) (i : ℕ) (x : X) → i < length xs → x ≡ get_or xs i x → map f (drop i xs) ≡ f x ∷ map f (drop (i + 1) xs)
ahead f xs i x h e = ap (map f) (drop_more xs i x h) ∙ ap (λ y. f y ∷ map f (drop (i + 1) xs)) (sym e)

-- what was made, with what one more element gives behind it, is the whole as before
pub grown : {Y : Type 0} (made new part rest left all : List Y) → new ≡ made ++ part → left ≡ part ++ rest → made ++ left ≡ all → new ++ rest ≡ all
grown made new part rest left all e f h = ap (λ l. l ++ rest) e ∙ append_assoc made part rest ∙ ap (λ l. made ++ l) (sym f) ∙ h

-- ---- sifting

-- what the loop has, with what is still to come
abbrev pub SiftNodes : List Node → List Found → ℕ → Type 0
SiftNodes nodes found i = map entry nodes ++ granted_of (map look (drop i found)) ≡ granted_of (map look found)

abbrev pub SiftPassed : List Passed → List Found → ℕ → Type 0
SiftPassed passed found i = map told passed ++ passed_of (map look (drop i found)) ≡ passed_of (map look found)

-- ---- settling

abbrev pub SettleNodes : List Node → List Node → ℕ → Type 0
SettleNodes nodes sorted i = map entry nodes ++ kept_after (last_path (map entry nodes)) (map entry (drop i sorted)) ≡ kept (map entry sorted)

abbrev pub SettlePassed : List Node → List Passed → List Passed → List Node → ℕ → Type 0
SettlePassed nodes passed first sorted i =
    map told passed ++ map repeated (repeats_after (last_path (map entry nodes)) (map entry (drop i sorted))) ≡ map told first ++ map repeated (repeats (map entry sorted))

module _ (sorted : List Node) (i : ℕ) (x : Node) (h : i < length sorted) (is : x ≡ get_or sorted i x) (nodes : List Node) (first passed : List Passed) where
  abbrev left : List Entry
  left = map entry (drop (i + 1) sorted)

  abbrev last : Option Path
  last = last_path (map entry nodes)

  front : map entry (drop i sorted) ≡ entry x ∷ left
  front = ahead entry sorted i x h is

  pub settle_over : (new : List Passed) (p : Passed) → true ≡ is_last last (names_of x.path) → told p ≡ repeated (entry x) → new ≡ passed ++ p ∷ [] → SettleNodes nodes sorted i → SettlePassed nodes passed first sorted i → SettleNodes nodes sorted (i + 1) × SettlePassed nodes new first sorted (i + 1)
  settle_over new p t v e a b = (
    grown (map entry nodes) (map entry nodes) [] (kept_after last left) (kept_after last (map entry (drop i sorted))) _
        (sym (append-nil (map entry nodes))) (ap (kept_after last) front ∙ ap (λ c. cond c (kept_after last left) (entry x ∷ kept_after (Some (names_of x.path)) left)) (sym t)) a,
    grown (map told passed) (map told new) (told p ∷ []) (map repeated (repeats_after last left)) (map repeated (repeats_after last (map entry (drop i sorted)))) _
        (ap (map told) e ∙ map-append told passed (p ∷ []))
        (ap (λ l. map repeated (repeats_after last l)) front ∙ ap (λ c. map repeated (cond c (entry x ∷ repeats_after last left) (repeats_after (Some (names_of x.path)) left))) (sym t) ∙ ap (λ y. y ∷ map repeated (repeats_after last left)) (sym v)) b,
  )

  pub settle_keep : (new : List Node) → false ≡ is_last last (names_of x.path) → new ≡ nodes ++ x ∷ [] → SettleNodes nodes sorted i → SettlePassed nodes passed first sorted i → SettleNodes new sorted (i + 1) × SettlePassed new passed first sorted (i + 1)
  settle_keep new t e a b =
      let grows : map entry new ≡ map entry nodes ++ entry x ∷ [] = ap (map entry) e ∙ map-append entry nodes (x ∷ []) in
      let now-last : last_path (map entry new) ≡ Some (names_of x.path) = ap last_path grows ∙ last_push (map entry nodes) (entry x) in (
        ap (λ o. map entry new ++ kept_after o left) now-last
            ∙ grown (map entry nodes) (map entry new) (entry x ∷ []) (kept_after (Some (names_of x.path)) left) (kept_after last (map entry (drop i sorted))) _
            grows (ap (kept_after last) front ∙ ap (λ c. cond c (kept_after last left) (entry x ∷ kept_after (Some (names_of x.path)) left)) (sym t)) a,
        ap (λ o. map told passed ++ map repeated (repeats_after o left)) now-last
            ∙ grown (map told passed) (map told passed) [] (map repeated (repeats_after (Some (names_of x.path)) left)) (map repeated (repeats_after last (map entry (drop i sorted)))) _
            (sym (append-nil (map told passed)))
            (ap (λ l. map repeated (repeats_after last l)) front ∙ ap (λ c. map repeated (cond c (entry x ∷ repeats_after last left) (repeats_after (Some (names_of x.path)) left))) (sym t)) b,
      )
