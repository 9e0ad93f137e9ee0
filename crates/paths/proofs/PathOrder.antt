-- Path order is a strict total order, and the order of texts in which `/` comes before every other byte.
-- Assumes nothing.
use Rattle.std.proofs.Common.{◌≡◌, ℕ, ◌+◌, Bool, true, false, cond, eqb, ltb, [], ◌∷◌, ◌++◌, sym, refl, ap, ◌∙◌, subst, arith}
use Rattle.std.proofs.lemmas.Bool.Decides.{nat_tests}
use Rattle.text.specs.Bytes.{Bytes, same, before}
use Rattle.text.proofs.Order.{same_refl, same_eq}
use Rattle.text.proofs.Shared.{bools_agree}
use Rattle.paths.specs.Names.{no_slash, is_name}
use Rattle.paths.specs.Paths.{Name, Path, are_names, slashed, rendered, same_path, path_before, rank, text_before}
use Rattle.paths.specs.Laws.{PathOrderIsTotal, TextsCompareAsPaths}
use Rattle.paths.proofs.Splits.{name_plain, names_head, names_tail, plain_head, plain_tail}
use Rattle.paths.specs.TotalOrders.{path_alone, path_chain, path_either, same_path_refl, same_path_eq}
use Rattle.paths.proofs.Readings.{never, reads_what_is_spelled_lem}

pub path_order_is_total_lem : PathOrderIsTotal
path_order_is_total_lem = record { alone = path_alone; chain = path_chain; either = path_either }

-- ---- texts

short_first : (y : ℕ) (ys : Bytes) (p : Path) → eqb y 47 ≡ false → text_before (slashed p) (y ∷ ys) ≡ true
short_first y ys [] h = refl
short_first y ys (n ∷ p) h = let e : eqb 47 y ≡ false = grind (arith, nat_tests) in rw e (rw h (let z : Bool = ltb 0 (y + 1) in grind (arith, nat_tests)))

short_last : (x : ℕ) (xs : Bytes) (q : Path) → eqb x 47 ≡ false → text_before (x ∷ xs) (slashed q) ≡ false
short_last x xs [] h = refl
short_last x xs (m ∷ q) h = rw h (grind (arith, nat_tests))

step : (x y : ℕ) (a b c d : Bool) → eqb x 47 ≡ false → eqb y 47 ≡ false → a ≡ cond b c d → cond (eqb x y) a (ltb (rank x) (rank y)) ≡ cond (cond (eqb x y) b false) c (cond (eqb x y) d (ltb x y))
step x y a b c d hx hy e =
    rw (hx, hy) (elim (eqb x y) as (λ z. cond z a (ltb (x + 1) (y + 1)) ≡ cond (cond z b false) c (cond z d (ltb x y)))
    [ true ↦ e | false ↦ grind (arith, nat_tests) ])

names_first : (n m : Name) (p q : Path) → no_slash n ≡ true → no_slash m ≡ true → text_before (n ++ slashed p) (m ++ slashed q) ≡ cond (same n m) (text_before (slashed p) (slashed q)) (before n m)
names_first [] [] p q hn hm = refl
names_first [] (y ∷ m) p q hn hm = short_first y (m ++ slashed q) p (plain_head y m hm)
names_first (x ∷ n) [] p q hn hm = short_last x (n ++ slashed p) q (plain_head x n hn)
names_first (x ∷ n) (y ∷ m) p q hn hm =
    step x y (text_before (n ++ slashed p) (m ++ slashed q)) (same n m) (text_before (slashed p) (slashed q)) (before n m) (plain_head x n hn) (plain_head y m hm)
    (names_first n m p q (plain_tail x n hn) (plain_tail y m hm))

slashed_compare : (p q : Path) → are_names p ≡ true → are_names q ≡ true → text_before (slashed p) (slashed q) ≡ path_before p q
slashed_compare [] [] hp hq = refl
slashed_compare [] (m ∷ q) hp hq = refl
slashed_compare (n ∷ p) [] hp hq = refl
slashed_compare (n ∷ p) (m ∷ q) hp hq =
    names_first n m p q (name_plain n (names_head n p hp)) (name_plain m (names_head m q hq))
    ∙ ap (λ (x : Bool). cond (same n m) x (before n m)) (slashed_compare p q (names_tail n p hp) (names_tail m q hq))

root_first : (m u : Bytes) → is_name m ≡ true → text_before (47 ∷ []) (47 ∷ (m ++ u)) ≡ true
root_first [] u h = never (sym h)
root_first (y ∷ m) u h = refl

root_last : (m u : Bytes) → is_name m ≡ true → text_before (47 ∷ (m ++ u)) (47 ∷ []) ≡ false
root_last [] u h = never (sym h)
root_last (y ∷ m) u h = refl

texts_before : (p q : Path) → are_names p ≡ true → are_names q ≡ true → text_before (rendered p) (rendered q) ≡ path_before p q
texts_before [] [] hp hq = refl
texts_before [] (m ∷ q) hp hq = root_first m (slashed q) (names_head m q hq)
texts_before (n ∷ p) [] hp hq = root_last n (slashed p) (names_head n p hp)
texts_before (n ∷ p) (m ∷ q) hp hq = slashed_compare (n ∷ p) (m ∷ q) hp hq

texts_same : (p q : Path) → are_names p ≡ true → are_names q ≡ true → same (rendered p) (rendered q) ≡ same_path p q
texts_same p q hp hq =
    bools_agree (same (rendered p) (rendered q)) (same_path p q)
    (λ e. subst (λ (x : Path). same_path p x ≡ true) (reads_what_is_spelled_lem.one (rendered q) p q (hp, same_eq (rendered p) (rendered q) e) (hq, refl)) (same_path_refl p))
    (λ e. subst (λ (x : Path). same (rendered p) (rendered x) ≡ true) (same_path_eq p q e) (same_refl (rendered p)))

pub texts_compare_as_paths_lem : TextsCompareAsPaths
texts_compare_as_paths_lem p q hp hq = (texts_before p q hp hq, texts_same p q hp hq)
