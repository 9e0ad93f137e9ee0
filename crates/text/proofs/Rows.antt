-- The rows of the table: what the code's rows say of bytes, that one row at most begins with a byte, and the sequence in front of a text.
-- Assumes nothing.
use Rattle.std.proofs.Common.{◌≡◌, ℕ, zero, suc, ◌+◌, ◌-◌, ◌*◌, ◌^◌, ◌<◌, ◌≤◌, Bool, true, false, cond, ◌&&◌, ◌==◌, ltb, leb, List, [], ◌∷◌, map, length, get_or, take, drop, Some, None, Option, unwrap_or, Bor, sym, refl, ap, ◌∙◌, subst, arith, rules, tests, leb-true, ltb-true, ltb-false, le-ltb, lt-ltb, max}
use lib.Count.{count_leading_zeros, leading_unique, leading_length}
use borrow.Author.Tests.{lt-leb, clash, both_ways}
use Rattle.std.proofs.Math.Nat.{max-eq_left}
use Rattle.std.proofs.lemmas.List.{length-map, drop_all}
use Rattle.std.specs.List.{list_all, find, zip}
use Rattle.text.specs.Bytes.{Bytes}
use Rattle.text.specs.Rows.{range_of, fits, width_of}
use Rattle.text.specs.Utf8.{Range, inside, of_row, begins, behind, is_text_in, is_text, rows, length_in, sequence_length, unless_zero}
use Rattle.text.specs.declared.utf8.ByteRange.{ByteRange}
use Rattle.text.proofs.Texts.{both, and, inside_low, is_inside}

-- ---- a length that is none where it is 0
zero_if_none : (n : ℕ) → unwrap_or (unless_zero n) 0 ≡ n
zero_if_none zero = refl
zero_if_none (suc n) = refl

-- a caller that takes none as 0 has the length
pub or_zero : (n : ℕ) (r : Option ℕ) (m : ℕ) → r ≡ unless_zero n → m ≡ unwrap_or r 0 → m ≡ n
or_zero n r m e f = f ∙ ap (λ q. unwrap_or q 0) e ∙ zero_if_none n

-- nothing stands behind the end
pub none_behind : (s : Bytes) (at : ℕ) → length s ≤ at → None ≡ unless_zero (sequence_length (drop at s))
unfolding sequence_length
none_behind s at h = sym (ap (λ (t : Bytes). unless_zero (length_in rows t)) (drop_all at s h))

-- ---- a row of the code and bytes
pub too_short : (row : List ByteRange) (t : Bytes) → length t < length row → fits row t ≡ false
too_short [] t h = absurd (omega arith)
too_short (r ∷ row) [] h = refl
too_short (r ∷ row) (b ∷ t) h =
    let i = too_short row t (omega arith) in
    elim (inside (range_of r) b) as (λ x. (x && fits row t) ≡ false) [ true ↦ i | false ↦ refl ]

pub all_inside : (row : List ByteRange) (t : Bytes) → length row ≤ length t → list_all (λ (p : ByteRange × ℕ). inside (range_of p.0) p.1) (zip row t) ≡ fits row t
all_inside [] t h = refl
all_inside (r ∷ row) [] h = absurd (omega arith)
all_inside (r ∷ row) (b ∷ t) h = ap (λ x. inside (range_of r) b && x) (all_inside row t (omega arith))

-- ---- a row of the table and bytes
-- bytes of a row are as many as its ranges
pub row_length : (row : List Range) (t : Bytes) → of_row row t ≡ true → length row ≡ length t
row_length [] [] e = refl
row_length [] (b ∷ t) e = absurd (clash e)
row_length (r ∷ row) [] e = absurd (clash e)
row_length (r ∷ row) (b ∷ t) e = ap suc (row_length row t (both (inside r b) (of_row row t) e).1)

is_false : (b : Bool) → (b ≡ true → ⊥) → b ≡ false
is_false true h = absurd (h refl)
is_false false h = refl

pub row_unlike : (row : List Range) (t : Bytes) → (length row ≡ length t → ⊥) → of_row row t ≡ false
row_unlike row t h = is_false (of_row row t) (λ e. h (row_length row t e))

-- ---- the first row that fits
abbrev pub is_row : Bor (List ByteRange) → Bool
is_row row = ltb 0 (length row.now)

abbrev pub read : List (Bor (List ByteRange)) → List (List Range)
read = map (λ row. map range_of row.now)

-- ---- a row that grants all that another one grants
abbrev covers : Range → Range → Bool
covers r q = leb q.low r.low && leb r.high q.high

abbrev covers_row : List Range → List Range → Bool
covers_row [] [] = true
covers_row [] (q ∷ more) = false
covers_row (r ∷ row) [] = false
covers_row (r ∷ row) (q ∷ more) = covers r q && covers_row row more

abbrev covered : List Range → List (List Range) → Bool
covered row [] = false
covered row (q ∷ more) = cond (covers_row row q) true (covered row more)

abbrev pub all_covered : List (List Range) → List (List Range) → Bool
all_covered [] ms = true
all_covered (row ∷ more) ms = covered row ms && all_covered more ms

wider : (r q : Range) (b : ℕ) → covers r q ≡ true → inside r b ≡ true → inside q b ≡ true
wider r q b c i =
    let w = both (leb q.low r.low) (leb r.high q.high) c in
    let s = inside_low r b i in
    let low = leb-true q.low r.low w.0 in
    let high = leb-true r.high q.high w.1 in
    is_inside q b (omega arith) (omega arith)

row_wider : (row q : List Range) (s : Bytes) → covers_row row q ≡ true → of_row row s ≡ true → of_row q s ≡ true
row_wider [] [] s c e = e
row_wider [] (q ∷ more) s c e = absurd (clash c)
row_wider (r ∷ row) [] s c e = absurd (clash c)
row_wider (r ∷ row) (q ∷ more) [] c e = absurd (clash e)
row_wider (r ∷ row) (q ∷ more) (b ∷ s) c e =
    let w = both (covers r q) (covers_row row more) c in
    let f = both (inside r b) (of_row row s) e in
    and (inside q b) (of_row more s) (wider r q b w.0 f.0) (row_wider row more s w.1 f.1)

as_long : (row q : List Range) → covers_row row q ≡ true → length row ≡ length q
as_long [] [] c = refl
as_long [] (q ∷ more) c = absurd (clash c)
as_long (r ∷ row) [] c = absurd (clash c)
as_long (r ∷ row) (q ∷ more) c = ap suc (as_long row more (both (covers r q) (covers_row row more) c).1)

module _ (t : Bytes) where
  abbrev pub row_fits : Bor (List ByteRange) → Bool
  row_fits row = fits row.now t

  abbrev wanted : Bool → ℕ → ℕ → ℕ
  wanted x n m = cond x n m

  -- its ranges are as many as the row has
  head_is : (row : Bor (List ByteRange)) (more : List (Bor (List ByteRange))) → length_in (read (row ∷ more)) t ≡ wanted (row_fits row) (length row.now) (length_in (read more) t)
  head_is row more =
      ap (λ n. cond (of_row (map range_of row.now) (take n t)) n (length_in (read more) t)) (length-map row.now range_of)

  -- a row of the table that a row of the code covers
  no_fit : (row : List Range) (rest : List (Bor (List ByteRange))) → find row_fits rest ≡ None → covered row (read rest) ≡ true → of_row row (take (length row) t) ≡ false
  no_fit row [] e c = absurd (clash c)
  no_fit row (q ∷ more) e c =
      by (row_fits q) refl e (covers_row row (map range_of q.now)) refl c (no_fit row more)
    where
      head : row_fits q ≡ false → covers_row row (map range_of q.now) ≡ true → (x : Bool) → of_row row (take (length row) t) ≡ x → x ≡ false
      head f w false g = refl
      head f w true g =
          let ranges : List Range = map range_of q.now in
          let long : length row ≡ length q.now = as_long row ranges w ∙ length-map q.now range_of in
          let here : row_fits q ≡ true = row_wider row ranges (take (length q.now) t) w (ap (λ n. of_row row (take n t)) (sym long) ∙ g) in
          absurd (both_ways (row_fits q) f here)

      by : (x : Bool) → row_fits q ≡ x → cond x (Some q) (find row_fits more) ≡ None → (y : Bool) → covers_row row (map range_of q.now) ≡ y → cond y true (covered row (read more)) ≡ true
          → (find row_fits more ≡ None → covered row (read more) ≡ true → of_row row (take (length row) t) ≡ false) → of_row row (take (length row) t) ≡ false
      by true f g y w d i = let z : ◌≡◌ {A = ℕ} 0 1 = grind arith in absurd (omega arith)
      by false f g true w d i = head f w (of_row row (take (length row) t)) refl
      by false f g false w d i = i g d

  none_fits : (ms : List (List Range)) (rest : List (Bor (List ByteRange))) → find row_fits rest ≡ None → all_covered ms (read rest) ≡ true → length_in ms t ≡ 0
  none_fits [] rest e c = refl
  none_fits (row ∷ more) rest e c =
      let w = both (covered row (read rest)) (all_covered more (read rest)) c in
      ap (λ x. cond x (length row) (length_in more t)) (no_fit row rest e w.0) ∙ none_fits more rest e w.1

  first_fits : (rows : List (Bor (List ByteRange))) (found : Bor (List ByteRange)) → list_all is_row rows ≡ true → find row_fits rows ≡ Some found → Some (length found.now) ≡ unless_zero (length_in (read rows) t)
  first_fits [] found h e = let z : ◌≡◌ {A = ℕ} 0 1 = grind arith in absurd (omega arith)
  first_fits (row ∷ more) found h e =
      let w = both (is_row row) (list_all is_row more) h in
      by (row_fits row) e (ltb-true 0 (length row.now) w.0) (first_fits more found w.1) ∙ sym (ap unless_zero (head_is row more))
    where
      more_than_none : (n : ℕ) → 0 < n → Some n ≡ unless_zero n
      more_than_none zero g = absurd (omega arith)
      more_than_none (suc n) g = refl

      by : (x : Bool) → cond x (Some row) (find row_fits more) ≡ Some found → 0 < length row.now → (find row_fits more ≡ Some found → Some (length found.now) ≡ unless_zero (length_in (read more) t)) → Some (length found.now) ≡ unless_zero (wanted x (length row.now) (length_in (read more) t))
      by true f g i = let s : row ≡ found = cc in ap (λ (r : Bor (List ByteRange)). Some (length r.now)) (sym s) ∙ more_than_none (length row.now) g
      by false f g i = i f

  -- the rows that were read cover those of the table
  pub no_row : (read_rows : List (Bor (List ByteRange))) → all_covered rows (read read_rows) ≡ true → find row_fits read_rows ≡ None → None ≡ unless_zero (sequence_length t)
  unfolding sequence_length
  no_row read_rows c e = sym (ap unless_zero (none_fits rows read_rows e c))

  -- they are those of the table
  pub a_row : (read_rows : List (Bor (List ByteRange))) → read read_rows ≡ rows → list_all is_row read_rows ≡ true → (found : Bor (List ByteRange)) → find row_fits read_rows ≡ Some found → Some (length found.now) ≡ unless_zero (sequence_length t)
  unfolding sequence_length
  a_row read_rows same h found e = first_fits read_rows found h e ∙ ap unless_zero (ap (λ ms. length_in ms t) same)

-- ---- how many leading ones the first byte has
-- every first byte of a row of n bytes has n leading ones, and none if n is 1
abbrev wide : List Range → Bool
wide [] = false
wide (r ∷ []) = ltb r.high 128
wide (r ∷ q ∷ row) =
    let m = 8 - length (r ∷ q ∷ row) in
    leb (length (r ∷ q ∷ row)) 8 && (leb 128 r.low && (ltb (255 - r.low) (2 ^ m) && leb (2 ^ m) (2 * (255 - r.high) + 1)))

abbrev pub wides : List (List Range) → Bool
wides [] = true
wides (row ∷ more) = wide row && wides more

ones : (b n m p low high : ℕ) → p ≡ 2 ^ m → n + m ≡ 8 → 128 ≤ low → 255 - low < p → p ≤ 2 * (255 - high) + 1 → low ≤ b → b ≤ high → n ≡ width_of b
ones b n m p low high e sum big under over l h =
    let w : n ≡ count_leading_zeros 8 (255 - b) = leading_unique 8 (255 - b) n m sum (subst (λ q. 255 - b < q) e (omega arith)) (subst (λ q. q ≤ 2 * (255 - b) + 1) e (omega arith)) in
    w ∙ sym (ap (λ t. cond t 1 (count_leading_zeros 8 (255 - b))) (le-ltb b 128 (omega arith)))

row_width : (row : List Range) (b : ℕ) (t : Bytes) → wide row ≡ true → of_row row (take (length row) (b ∷ t)) ≡ true → length row ≡ width_of b
row_width [] b t w e = absurd (clash w)
row_width (r ∷ []) b t w e =
    let s = inside_low r b (both (inside r b) (of_row [] []) e).0 in
    let u = ltb-true r.high 128 w in
    sym (ap (λ t. cond t 1 (count_leading_zeros 8 (255 - b))) (lt-ltb b 128 (omega arith)))
row_width (r ∷ q ∷ row) b t w e =
    let n = length (r ∷ q ∷ row) in
    let m = 8 - n in
    let s = inside_low r b (both (inside r b) (of_row (q ∷ row) (take (length (q ∷ row)) t)) e).0 in
    let w1 = both (leb n 8) (leb 128 r.low && (ltb (255 - r.low) (2 ^ m) && leb (2 ^ m) (2 * (255 - r.high) + 1))) w in
    let w2 = both (leb 128 r.low) (ltb (255 - r.low) (2 ^ m) && leb (2 ^ m) (2 * (255 - r.high) + 1)) w1.1 in
    let w3 = both (ltb (255 - r.low) (2 ^ m)) (leb (2 ^ m) (2 * (255 - r.high) + 1)) w2.1 in
    let few : n ≤ 8 = leb-true n 8 w1.0 in
    ones b n m (2 ^ m) r.low r.high refl (omega arith) (leb-true 128 r.low w2.0) (ltb-true (255 - r.low) (2 ^ m) w3.0) (leb-true (2 ^ m) (2 * (255 - r.high) + 1) w3.1) s.0 s.1

-- a row of the code whose length is what a first byte asks for, and that fits
abbrev pub row_asked : ℕ → Bytes → Bor (List ByteRange) → Bool
row_asked n t row = (length row.now == n) && fits row.now t

same_row : (n b : ℕ) (t : Bytes) (row : Bor (List ByteRange)) → n ≡ width_of b → wide (map range_of row.now) ≡ true → row_asked n (b ∷ t) row ≡ row_fits (b ∷ t) row
same_row n b t row e w =
    by (fits row.now (b ∷ t)) refl (length row.now == n)
    (λ f. let ranges = map range_of row.now in
    let long : length ranges ≡ length row.now = length-map row.now range_of in
    let wide_one = row_width ranges b t w (ap (λ k. of_row ranges (take k (b ∷ t))) long ∙ f) in
    eq_true (length row.now) n (sym long ∙ wide_one ∙ sym e))
  where
    eq_true : (x y : ℕ) → x ≡ y → (x == y) ≡ true
    eq_true x y f = search (rules, tests)

    by : (x : Bool) → fits row.now (b ∷ t) ≡ x → (y : Bool) → (x ≡ true → y ≡ true) → (y && x) ≡ x
    by true f y h = rw (h refl)
    by false f true h = refl
    by false f false h = refl

-- asking for that length passes over no row that fits
pub same_find : (n b : ℕ) (t : Bytes) (rows : List (Bor (List ByteRange))) → n ≡ width_of b → wides (read rows) ≡ true → find (row_asked n (b ∷ t)) rows ≡ find (row_fits (b ∷ t)) rows
same_find n b t [] e w = refl
same_find n b t (row ∷ more) e w =
    let s = both (wide (map range_of row.now)) (wides (read more)) w in
    ap (λ x. cond x (Some row) (find (row_asked n (b ∷ t)) more)) (same_row n b t row e s.0)
    ∙ ap (λ r. cond (row_fits (b ∷ t) row) (Some row) r) (same_find n b t more e s.1)

pub same_find_of : (n x : ℕ) (t : Bytes) (rows : List (Bor (List ByteRange))) → 0 < length t → x ≡ get_or t 0 x → n ≡ width_of x → wides (read rows) ≡ true → find (row_asked n t) rows ≡ find (row_fits t) rows
same_find_of n x [] rows h i e w = absurd (omega arith)
same_find_of n x (b ∷ t) rows h i e w = same_find n b t rows (e ∙ ap width_of i) w

-- ---- the rows' first ranges rise, so that one row at most begins with a byte
abbrev pub rising : ℕ → List (List Range) → Bool
rising h [] = true
rising h ([] ∷ more) = false
rising h ((r ∷ p) ∷ more) = leb h r.low && (leb r.low r.high && rising (suc r.high) more)

pub rises : (h : ℕ) (r : Range) (p : List Range) (more : List (List Range)) → rising h ((r ∷ p) ∷ more) ≡ true → (h ≤ r.low) × (r.low ≤ r.high) × (rising (suc r.high) more ≡ true)
rises h r p more e =
    let s = both (leb h r.low) (leb r.low r.high && rising (suc r.high) more) e in
    let u = both (leb r.low r.high) (rising (suc r.high) more) s.1 in
    (leb-true h r.low s.0, leb-true r.low r.high u.0, u.1)

outside : (r : Range) (b : ℕ) → b < r.low → inside r b ≡ false
outside r b h = rw (lt-leb r.low b h)

pub none_begins : (h b : ℕ) (ms : List (List Range)) → rising h ms ≡ true → b < h → begins ms b ≡ false
none_begins h b [] e l = refl
none_begins h b ([] ∷ more) e l = absurd (clash e)
none_begins h b ((r ∷ p) ∷ more) e l =
    let s = rises h r p more e in rw (outside r b (omega arith)) (none_begins (suc r.high) b more s.2 (omega arith))

none_length : (ms : List (List Range)) (h b : ℕ) (t : Bytes) → rising h ms ≡ true → b < h → length_in ms (b ∷ t) ≡ 0
none_length [] h b t e l = refl
none_length ([] ∷ more) h b t e l = absurd (clash e)
none_length ((r ∷ p) ∷ more) h b t e l =
    let s = rises h r p more e in rw (outside r b (omega arith)) (none_length more (suc r.high) b t s.2 (omega arith))

-- the row that begins with the byte decides
abbrev fitting : List (List Range) → ℕ → Bytes → Bool
fitting ms b t = begins ms b && of_row (behind ms b) (take (length (behind ms b)) t)

length-first : (h : ℕ) (ms : List (List Range)) (b : ℕ) (t : Bytes) → rising h ms ≡ true → length_in ms (b ∷ t) ≡ cond (fitting ms b t) (suc (length (behind ms b))) 0
length-first h [] b t e = refl
length-first h ([] ∷ more) b t e = absurd (clash e)
length-first h ((r ∷ p) ∷ more) b t e =
    let s = rises h r p more e in by s.2 (length-first (suc r.high) more b t s.2) (inside r b) refl
  where
    by : rising (suc r.high) more ≡ true → length_in more (b ∷ t) ≡ cond (fitting more b t) (suc (length (behind more b))) 0 → (x : Bool) → inside r b ≡ x → length_in ((r ∷ p) ∷ more) (b ∷ t) ≡ cond (fitting ((r ∷ p) ∷ more) b t) (suc (length (behind ((r ∷ p) ∷ more) b))) 0
    by up rest true i =
        let w = inside_low r b i in rw (i, none_length more (suc r.high) b t up (omega arith))
    by up rest false i = rw i rest

-- ---- a turn of the test
run_is : (p : List Range) (t : Bytes) → is_text_in p t ≡ (of_row p (take (length p) t) && is_text (drop (length p) t))
run_is [] t = refl
run_is (r ∷ p) [] = refl
run_is (r ∷ p) (b ∷ t) =
    elim (inside r b) as (λ x. (x && is_text_in p t) ≡ ((x && of_row p (take (length p) t)) && is_text (drop (length p) t))) [ true ↦ run_is p t | false ↦ refl ]

turn_is : (b : ℕ) (t : Bytes) → is_text (b ∷ t) ≡ (fitting rows b t && is_text (drop (length (behind rows b)) t))
turn_is b t =
    (elim (begins rows b) as (λ x. (x && is_text_in (behind rows b) t) ≡ ((x && of_row (behind rows b) (take (length (behind rows b)) t)) && is_text (drop (length (behind rows b)) t)))
    [ true ↦ run_is (behind rows b) t | false ↦ refl ])

pub text_none : (t : Bytes) → 0 < length t → sequence_length t ≡ 0 → is_text t ≡ false
unfolding sequence_length
text_none [] h e = absurd (omega arith)
text_none (b ∷ t) h e =
    turn_is b t ∙ by (fitting rows b t) (sym (length-first 0 rows b t refl) ∙ e)
  where
    by : (x : Bool) → cond x (suc (length (behind rows b))) 0 ≡ 0 → (x && is_text (drop (length (behind rows b)) t)) ≡ false
    by true z = absurd (omega arith)
    by false z = refl

pub text_more : (t : Bytes) (n : ℕ) → n ≡ sequence_length t → (n ≡ 0 → ⊥) → is_text t ≡ is_text (drop n t)
unfolding sequence_length
text_more [] n e ne = absurd (ne e)
text_more (b ∷ t) n e ne =
    turn_is b t ∙ by (fitting rows b t) (e ∙ length-first 0 rows b t refl)
  where
    by : (x : Bool) → n ≡ cond x (suc (length (behind rows b))) 0 → (x && is_text (drop (length (behind rows b)) t)) ≡ is_text (drop n (b ∷ t))
    by true z = sym (ap (λ m. is_text (drop m (b ∷ t))) z)
    by false z = absurd (ne z)

-- ---- the sequence in front
-- no sequence is longer than what it stands in
fit_le : (row : List Range) (t : Bytes) → of_row row (take (length row) t) ≡ true → length row ≤ length t
fit_le [] t e = omega arith
fit_le (r ∷ row) [] e = absurd (clash e)
fit_le (r ∷ row) (b ∷ t) e =
    let i : length row ≤ length t = fit_le row t (both (inside r b) (of_row row (take (length row) t)) e).1 in omega arith

length_le : (ms : List (List Range)) (t : Bytes) → length_in ms t ≤ length t
length_le [] t = omega arith
length_le (row ∷ more) t =
    (elim (of_row row (take (length row) t)) as (λ x. of_row row (take (length row) t) ≡ x → cond x (length row) (length_in more t) ≤ length t)
    [ true ↦ λ e. fit_le row t e | false ↦ λ e. length_le more t ]) refl

pub sequence_le : (t : Bytes) → sequence_length t ≤ length t
unfolding sequence_length
sequence_le t = length_le rows t

-- ---- one, or as many as the leading ones
one_bit : (b : ℕ) → b < 128 → 0 ≡ count_leading_zeros 8 (255 - b)
one_bit b h = leading_unique 8 (255 - b) 0 8 refl (omega arith) (omega arith)

some_ones : (b : ℕ) → 128 ≤ b → b < 256 → 1 ≤ count_leading_zeros 8 (255 - b)
some_ones b l h = by (count_leading_zeros 8 (255 - b)) (leading_length 8 (255 - b) (omega arith))
  where
    by : (n : ℕ) → (m : ℕ) × (n + m ≡ 8) × (255 - b < 2 ^ m) × (2 ^ m ≤ 2 * (255 - b) + 1) → 1 ≤ n
    by zero w = let f : w.0 ≡ 8 = omega (arith, w.1) in let e : 2 ^ w.0 ≡ 256 = ap (λ k. 2 ^ k) f in absurd (omega (arith, e, w.3))
    by (suc n) w = omega arith

pub width_is : (b n r : ℕ) → b < 256 → n ≡ count_leading_zeros 8 (255 - b) → r ≡ max n 1 → r ≡ width_of b
width_is b n r h e m = by (ltb b 128) refl
  where
    by : (t : Bool) → ltb b 128 ≡ t → r ≡ cond t 1 (count_leading_zeros 8 (255 - b))
    by true f = m ∙ ap (λ k. max k 1) (e ∙ sym (one_bit b (ltb-true b 128 f)))
    by false f = m ∙ ap (λ k. max k 1) e ∙ max-eq_left (some_ones b (ltb-false b 128 f) h)
