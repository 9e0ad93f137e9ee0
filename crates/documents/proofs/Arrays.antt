-- Arrays.
-- Assumes nothing.
use Rattle.std.proofs.Common.{◌≡◌, ℕ, suc, false, List, [], ◌∷◌, ◌++◌, None, sym, refl, ap, ◌∙◌, subst, append_assoc, arith}
use Rattle.std.proofs.lemmas.Bool.Decides.{nat_tests}
use Rattle.grammar.specs.Ast.{Json, Items, arr, none, also}
use Rattle.grammar.specs.Grammar.{Ws, Shows, s_arr0, s_arr, padded, ShowsItems, i_one, i_more}
use Rattle.grammar.specs.Machine.{Stack, in_arr, val, first, aft, step_first, step_item, run, stopped}
use Rattle.grammar.specs.Terminals.{is_blank, punct_of}
use Rattle.grammar.proofs.Complete.{ws_val, ws_first, ws_aft}
use Rattle.documents.specs.Reading.{Part, Refuses, NoBlank, AnyArray, Unlike, GotValue, GotArray}
use Rattle.documents.proofs.Words.{SameByte, not_is}
use Rattle.documents.proofs.Parts.{part_then, part_as, part_byte, part_front, Byte, skip, go_at, bad_at, same_at}

pub no_punct : (one two b : ℕ) → is_blank b ≡ false → (b ≡ one → ⊥) → (b ≡ two → ⊥) → punct_of one two b ≡ None
no_punct one two b h f g = grind (arith, nat_tests)

-- the items so far, up to where a value is to come
pub data Ready : ℕ → Items → List ℕ → Type 0 where
  r_first : {d : ℕ} {w : List ℕ} → Ws w → Ready d none w
  r_next : {d : ℕ} {xs : Items} {x : Json} {t w : List ℕ} → ShowsItems d xs x t → Ws w → Ready d (also xs x) (t ++ (44 ∷ w))

pub record AtValue (d : ℕ) (s r : List ℕ) : Type 0 where
  pub items : Items
  pub part : Part (Ready d items) s r
  pub goes : (k : Stack) → run (first d k) s ≡ run (val d (in_arr items ∷ k)) r

-- the items so far, past the last one and the white space behind it
pub record PastItem (d : ℕ) (s r : List ℕ) : Type 0 where
  pub items : Items
  pub last : Json
  pub part : Part (ShowsItems d items last) s r
  pub goes : (k : Stack) → run (first d k) s ≡ run (aft d last (in_arr items ∷ k)) r

-- where there is no `]`, a value is expected
first_value : (s : List ℕ) → NoBlank s → Unlike ℕ SameByte 93 s → (d : ℕ) (k : Stack) → run (first d k) s ≡ run (val d (in_arr none ∷ k)) s
first_value [] n u d k = refl
first_value (b ∷ t) n u d k =
    same_at (first d k) (val d (in_arr none ∷ k)) (b ∷ t) t b refl (ap (λ x. step_first x b d k) (no_punct 93 93 b n (not_is b 93 u) (not_is b 93 u)))

item_stops : (s : List ℕ) → NoBlank s → Unlike ℕ SameByte 93 s → Unlike ℕ SameByte 44 s → (d : ℕ) (j : Json) (xs : Items) (k : Stack) → run (aft d j (in_arr xs ∷ k)) s ≡ stopped s
item_stops [] n u v d j xs k = refl
item_stops (b ∷ t) n u v d j xs k =
    bad_at (aft d j (in_arr xs ∷ k)) (b ∷ t) t b refl (ap (λ x. step_item x d j xs k) (no_punct 44 93 b n (not_is b 44 v) (not_is b 93 u)))

module _ (d : ℕ) (s r : List ℕ) (p : Part Ws s r) where
  pub a_none : (q : List ℕ) → r ≡ 93 ∷ q → GotArray d s q
  a_none q h =
      record {
        json = arr none;
        part = part_then Ws (Byte 93) (λ t. Shows (suc d) (arr none) (91 ∷ t)) s r q (λ t u x y. rw y (s_arr0 x)) p (part_byte 93 r q h);
        goes = λ k. skip (first d k) (ws_first d k) p ∙ go_at (first d k) (aft (suc d) (arr none) k) r q 93 h refl;
      }

  pub a_begin : NoBlank r → Unlike ℕ SameByte 93 r → AtValue d s r
  a_begin n u =
      record { items = none; part = part_as p (λ t x. r_first x); goes = λ k. skip (first d k) (ws_first d k) p ∙ first_value r n u d k }

add_item : {d : ℕ} {xs : Items} {r : List ℕ} → Ready d xs r → {x : Json} {t w : List ℕ} → Shows d x t → Ws w → ShowsItems d xs x (r ++ (t ++ w))
add_item (r_first vs) sh ws = i_one (padded vs sh ws)
add_item {d} (r_next {xs = xs} {x = y} {t = s} {w = v} is vs) {x} {t} {w} sh ws =
    subst (λ (z : List ℕ). ShowsItems d (also xs y) x z) (sym (append_assoc s (44 ∷ v) (t ++ w))) (i_more is (padded vs sh ws))

-- a value and the white space behind it
abbrev pub Spaced : ℕ → Json → List ℕ → Type 0
Spaced d j u = (t : List ℕ) × (w : List ℕ) × (u ≡ t ++ w) × Shows d j t × Ws w

pub spaced : {d : ℕ} {s r q : List ℕ} (g : GotValue d s r) → Part Ws r q → Part (Spaced d g.json) s q
spaced {d} {s} {r} {q} g p = part_then (Shows d g.json) Ws (Spaced d g.json) s r q (λ t u x y. (t, u, refl, x, y)) g.part p

-- a byte and the white space behind it
abbrev pub Marked : ℕ → List ℕ → Type 0
Marked b u = (w : List ℕ) × (u ≡ b ∷ w) × Ws w

pub marked : (b : ℕ) (s r q : List ℕ) → s ≡ b ∷ r → Part Ws r q → Part (Marked b) s q
marked b s r q h p = part_front Ws (Marked b) s r q b h (λ t x. (t, refl, x)) p

pub a_item : (d : ℕ) (s r q o : List ℕ) → AtValue d s r → GotValue d r q → Part Ws q o → PastItem d s o
a_item d s r q o v g p =
    let j : Json = g.json in
    let ys : Items = v.items in
    record {
      items = ys;
      last = j;
      part = part_then (Ready d ys) (Spaced d j) (ShowsItems d ys j) s r o (λ t u x y. rw y.2 (add_item x y.3 y.4)) v.part (spaced g p);
      goes = λ k. v.goes k ∙ (g.goes (in_arr ys ∷ k) ∙ skip (aft d j (in_arr ys ∷ k)) (ws_aft d j (in_arr ys ∷ k)) p);
    }

module _ (d : ℕ) (s r : List ℕ) (p : PastItem d s r) where
  pub a_item_bad : NoBlank r → Unlike ℕ SameByte 93 r → Unlike ℕ SameByte 44 r → Refuses (AnyArray d) s r
  a_item_bad n u v k = p.goes k ∙ item_stops r n u v d p.last p.items k

  pub a_close : (q : List ℕ) → r ≡ 93 ∷ q → GotArray d s q
  a_close q h =
      let j : Json = arr (also p.items p.last) in
      record {
        json = j;
        part = part_then (ShowsItems d p.items p.last) (Byte 93) (λ t. Shows (suc d) j (91 ∷ t)) s r q (λ t u x y. rw y (s_arr x)) p.part (part_byte 93 r q h);
        goes = λ k. p.goes k ∙ go_at (aft d p.last (in_arr p.items ∷ k)) (aft (suc d) j k) r q 93 h refl;
      }

  pub a_next : (q o : List ℕ) → r ≡ 44 ∷ q → Part Ws q o → AtValue d s o
  a_next q o h w =
      let ys : Items = also p.items p.last in
      record {
        items = ys;
        part = part_then (ShowsItems d p.items p.last) (Marked 44) (Ready d ys) s r o (λ t u x y. rw y.1 (r_next x y.2)) p.part (marked 44 r q o h w);
        goes = λ k.
            p.goes k
            ∙ (go_at (aft d p.last (in_arr p.items ∷ k)) (val d (in_arr ys ∷ k)) r q 44 h refl ∙ skip (val d (in_arr ys ∷ k)) (ws_val d (in_arr ys ∷ k)) w);
      }
