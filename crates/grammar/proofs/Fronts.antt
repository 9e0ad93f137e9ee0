-- An object's text ends by itself: nothing that follows it changes what it is.
-- Assumes nothing.
use Rattle.std.proofs.Common.{◌≡◌, ℕ, true, ◌⊎◌, List, [], ◌∷◌, ◌++◌, sym, refl, ap, ◌∙◌, inl, inr, append_assoc, append-nil, arith, Some, None, Option}
use Rattle.std.proofs.lemmas.Bool.Decides.{nat_tests}
use borrow.Author.Tests.{clash}
use Rattle.grammar.specs.Ast.{Json, Members, obj}
use Rattle.grammar.specs.Terminals.{is_blank, punct_of}
use Rattle.grammar.specs.Grammar.{Shows, s_obj0, s_obj}
use Rattle.grammar.specs.Machine.{Stack, val, members, aft, done, step_top, run}
use Rattle.grammar.specs.Laws.{ObjectsEnd}
use Rattle.grammar.specs.declared.kinds.Punct.{Punct}
use Rattle.grammar.specs.declared.kinds.Punct.TheVariants.{Space, One, Two}
use Rattle.grammar.proofs.Numbers.{quiet_stops}
use Rattle.grammar.proofs.Complete.{turn, r_ws, ws_members, c_members}

c_object : {d : ℕ} {ms : Members} {t : List ℕ} → Shows d (obj ms) t → (k : Stack) (u : List ℕ) → run (val d k) (t ++ u) ≡ run (aft d (obj ms) k) u
c_object (s_obj0 {d} {w} ws) k u = rw append_assoc (r_ws (members d k) (ws_members d k) ws (125 ∷ u))
c_object (s_obj is) k u = rw append_assoc (c_members is k (125 ∷ u) (quiet_stops 125 refl))

-- behind a whole document there is only white space
abbrev AllBlank : List ℕ → Type 0
AllBlank [] = Unit {0}
AllBlank (b ∷ w) = (is_blank b ≡ true) × AllBlank w

space_is : (b : ℕ) → punct_of 256 256 b ≡ Some Space → is_blank b ≡ true
space_is b h = grind (arith, nat_tests)

top_turn : (w : List ℕ) (d : ℕ) (j i : Json) (b : ℕ) → (run (aft d j []) w ≡ done i → AllBlank w × (j ≡ i)) → (c : Option Punct) → punct_of 256 256 b ≡ c → turn (step_top c d j) b w ≡ done i → AllBlank (b ∷ w) × (j ≡ i)
top_turn w d j i b f (Some Space) h e = let r = f e in ((space_is b h, r.0), r.1)
top_turn w d j i b f (Some One) h e = grind arith
top_turn w d j i b f (Some Two) h e = grind arith
top_turn w d j i b f None h e = grind arith

run_top : (w : List ℕ) (d : ℕ) (j i : Json) → run (aft d j []) w ≡ done i → AllBlank w × (j ≡ i)
run_top [] d j i e = let f : j ≡ i = cc in (tt, f)
run_top (b ∷ w) d j i e = top_turn w d j i b (run_top w d j i) (punct_of 256 256 b) refl e

-- the last byte
abbrev last_of : ℕ → List ℕ → ℕ
last_of x [] = x
last_of x (b ∷ t) = last_of b t

last_app : (x : ℕ) (a : List ℕ) (y : ℕ) (c : List ℕ) → last_of x (a ++ (y ∷ c)) ≡ last_of y c
last_app x [] y c = refl
last_app x (b ∷ a) y c = last_app b a y c

last_object : {d : ℕ} {ms : Members} {t : List ℕ} → Shows d (obj ms) t → last_of 0 t ≡ 125
last_object (s_obj0 {w = w} ws) = last_app 123 w 125 []
last_object (s_obj {t = t} is) = last_app 123 t 125 []

last_blank : (w : List ℕ) (b : ℕ) → is_blank b ≡ true → AllBlank w → is_blank (last_of b w) ≡ true
last_blank [] b h a = h
last_blank (c ∷ w) b h a = last_blank w c a.0 a.1

obj_is : (ms ns : Members) → obj ms ≡ obj ns → ms ≡ ns
obj_is ms ns e = cc

rest_none : (d : ℕ) (ns : Members) (t s w : List ℕ) → Shows d (obj ns) s → s ≡ t ++ w → AllBlank w → w ≡ []
rest_none d ns t s [] ss e a = refl
rest_none d ns t s (b ∷ w) ss e a =
    let l : last_of b w ≡ 125 = sym (last_app 0 t b w) ∙ (ap (λ (x : List ℕ). last_of 0 x) (sym e) ∙ last_object ss) in
    let f : is_blank 125 ≡ true = ap is_blank (sym l) ∙ last_blank w b a.0 a.1 in
    absurd (clash f)

longer : (d : ℕ) (ms ns : Members) (t s w : List ℕ) → Shows d (obj ms) t → Shows d (obj ns) s → s ≡ t ++ w → (ms ≡ ns) × (w ≡ [])
longer d ms ns t s w st ss e =
    let whole : run (val d []) s ≡ done (obj ns) = sym (ap (λ (x : List ℕ). run (val d []) x) (append-nil s)) ∙ c_object ss [] [] in
    let r = run_top w d (obj ms) (obj ns) (sym (c_object st [] w) ∙ (ap (λ (x : List ℕ). run (val d []) x) (sym e) ∙ whole)) in
    (obj_is ms ns r.1, rest_none d ns t s w ss e r.0)

-- of two starts of the same bytes one begins the other
abbrev Begins : List ℕ → List ℕ → List ℕ → List ℕ → Type 0
Begins t s u v = (w : List ℕ) × (s ≡ t ++ w) × (u ≡ w ++ v)

split_more : (x y : ℕ) (t s u v : List ℕ) → x ≡ y → Begins t s u v ⊎ Begins s t v u → Begins (x ∷ t) (y ∷ s) u v ⊎ Begins (y ∷ s) (x ∷ t) v u
split_more x y t s u v e (inl b) = inl (b.0, rw e (ap (λ (z : List ℕ). y ∷ z) b.1), b.2)
split_more x y t s u v e (inr b) = inr (b.0, rw e (ap (λ (z : List ℕ). y ∷ z) b.1), b.2)

split : (t s u v : List ℕ) → t ++ u ≡ s ++ v → Begins t s u v ⊎ Begins s t v u
split [] s u v e = inl (s, refl, e)
split (x ∷ t) [] u v e = inr (x ∷ t, refl, sym e)
split (x ∷ t) (y ∷ s) u v e =
    let h : x ≡ y = cc in
    let r : t ++ u ≡ s ++ v = cc in
    split_more x y t s u v h (split t s u v r)

ends : (d : ℕ) (ms ns : Members) (t s u v : List ℕ) → Shows d (obj ms) t → Shows d (obj ns) s → Begins t s u v → (ms ≡ ns) × (t ≡ s) × (u ≡ v)
ends d ms ns t s u v st ss b =
    let r = longer d ms ns t s b.0 st ss b.1 in
    (r.0, sym (b.1 ∙ (ap (λ (x : List ℕ). t ++ x) r.1 ∙ append-nil t)), b.2 ∙ ap (λ (x : List ℕ). x ++ v) r.1)

either : (d : ℕ) (ms ns : Members) (t s u v : List ℕ) → Shows d (obj ms) t → Shows d (obj ns) s → Begins t s u v ⊎ Begins s t v u → (ms ≡ ns) × (t ≡ s) × (u ≡ v)
either d ms ns t s u v st ss (inl b) = ends d ms ns t s u v st ss b
either d ms ns t s u v st ss (inr b) = let r = ends d ns ms s t v u ss st b in (sym r.0, sym r.1, sym r.2)

pub objects_end : ObjectsEnd
objects_end d ms ns t s u v st ss e = either d ms ns t s u v st ss (split t s u v e)
