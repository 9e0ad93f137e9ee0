-- The rows and the scalar values: a sequence of a row encodes one, and the encoding of one is a sequence of a row.
-- Assumes nothing.
use Rattle.std.proofs.Common.{◌≡◌, ℕ, ◌+◌, ◌-◌, ◌*◌, ◌/◌, ◌<◌, ◌≤◌, true, false, leb, ◌⊎◌, List, [], ◌∷◌, IsUtf8, Ok, Err, is_ok, Result, MatchResult, Bor, sym, refl, ap, ◌∙◌, subst, inl, inr, arith, le-ltb, lt-ltb, le-leb}
use lib.Utf8.{scalar, scalars, next, encode, encodes, scalar_cases, low_scalar}
use borrow.Author.Tests.{clash}
use Rattle.std.proofs.lemmas.Str.{IsUtf8-append, IsUtf8-encode}
use Rattle.std.proofs.lemmas.Bool.Decides.{leb_tells}
use Rattle.text.specs.Bytes.{Bytes}
use Rattle.text.specs.Utf8.{Range, range, inside, rows, of_row, In, Text, is_text}
use Rattle.text.specs.Utf8.Text.{nothing, sequence}
use Rattle.text.proofs.Shared.{bools_agree}
use Rattle.text.proofs.Tables.{row_text_lem, to_text}
use Rattle.text.proofs.Texts.{both, and, inside_low, is_inside, text_append}

-- ---- encodings, by length
one : (c : ℕ) → c < 128 → encode c ≡ c ∷ []
unfolding encode
one c h = rw (lt-ltb c 128 h)

two : (c : ℕ) → 128 ≤ c → c < 2048 → encode c ≡ (192 + c / 64) ∷ next c ∷ []
unfolding encode
two c l h = rw (le-ltb c 128 l, lt-ltb c 2048 h)

three : (c : ℕ) → 2048 ≤ c → c < 65536 → encode c ≡ (224 + c / 4096) ∷ next (c / 64) ∷ next c ∷ []
unfolding encode
three c l h = rw (le-ltb c 128 (omega arith), le-ltb c 2048 l, lt-ltb c 65536 h)

four : (c : ℕ) → 65536 ≤ c → encode c ≡ (240 + c / 262144) ∷ next (c / 4096) ∷ next (c / 64) ∷ next c ∷ []
unfolding encode
four c l = rw (le-ltb c 128 (omega arith), le-ltb c 2048 (omega arith), le-ltb c 65536 l)

high_scalar : (c : ℕ) → 57344 ≤ c → c < 1114112 → scalar c ≡ true
high_scalar c l h = rw (le-ltb c 55296 (omega arith), le-leb 57344 c l, lt-ltb c 1114112 h)

abbrev At : Range → ℕ → Type 0
At r b = (r.low ≤ b) × (b ≤ r.high)

-- a byte behind the first, where the first leaves it free
abbrev tail : Range
tail = range 0x80 0xBF

-- ---- a sequence of a row encodes a scalar value
encoded : (s : Bytes) (c : ℕ) → scalar c ≡ true → s ≡ encode c → IsUtf8 s
encoded s c h e = subst IsUtf8 (sym e) (IsUtf8-encode c h)

by_one : (x : ℕ) → x < 128 → IsUtf8 (x ∷ [])
by_one x h = encoded (x ∷ []) x (low_scalar x (omega arith)) (sym (one x h))

by_two : (x y : ℕ) → At (range 0xC2 0xDF) x → At tail y → IsUtf8 (x ∷ y ∷ [])
by_two x y u v =
    let c = (x - 192) * 64 + (y - 128) in
    let p : x ≡ 192 + c / 64 = omega arith in
    let q : y ≡ next c = omega arith in
    encoded (x ∷ y ∷ []) c (low_scalar c (omega arith)) ((λ i. p i ∷ q i ∷ []) ∙ sym (two c (omega arith) (omega arith)))

abbrev value3 : ℕ → ℕ → ℕ → ℕ
value3 x y z = (x - 224) * 4096 + (y - 128) * 64 + (z - 128)

by_three : (x y z : ℕ) → At (range 0xE0 0xEF) x → At tail y → At tail z → 2048 ≤ value3 x y z → scalar (value3 x y z) ≡ true → IsUtf8 (x ∷ y ∷ z ∷ [])
by_three x y z u v w big ok =
    let c = value3 x y z in
    let p : x ≡ 224 + c / 4096 = omega arith in
    let q : y ≡ next (c / 64) = omega arith in
    let r : z ≡ next c = omega arith in
    encoded (x ∷ y ∷ z ∷ []) c ok ((λ i. p i ∷ q i ∷ r i ∷ []) ∙ sym (three c big (omega arith)))

by_four : (x y z w : ℕ) → At (range 0xF0 0xF4) x → At tail y → At tail z → At tail w → 16 ≤ (x - 240) * 64 + (y - 128) → (x - 240) * 64 + (y - 128) < 272 → IsUtf8 (x ∷ y ∷ z ∷ w ∷ [])
by_four x y z w u v k m big small =
    let c = (x - 240) * 262144 + (y - 128) * 4096 + (z - 128) * 64 + (w - 128) in
    let p : x ≡ 240 + c / 262144 = omega arith in
    let q : y ≡ next (c / 4096) = omega arith in
    let e : c / 64 ≡ (x - 240) * 4096 + (y - 128) * 64 + (z - 128) = omega arith in
    let r : z ≡ next (c / 64) = subst (λ (m : ℕ). z ≡ next m) (sym e) (omega arith) in
    let t : w ≡ next c = omega arith in
    encoded (x ∷ y ∷ z ∷ w ∷ []) c (high_scalar c (omega arith) (omega arith)) ((λ i. p i ∷ q i ∷ r i ∷ t i ∷ []) ∙ sym (four c (omega arith)))

-- a sequence of a row taken apart, one byte after the other
peel : (r : Range) (row : List Range) (P : Bytes → Type 0) → ((x : ℕ) (t : Bytes) → At r x → of_row row t ≡ true → P (x ∷ t)) → (s : Bytes) → of_row (r ∷ row) s ≡ true → P s
peel r row P f [] e = absurd (clash e)
peel r row P f (b ∷ t) e = let w = both (inside r b) (of_row row t) e in f b t (inside_low r b w.0) w.1

done : (P : Bytes → Type 0) → P [] → (s : Bytes) → of_row [] s ≡ true → P s
done P p [] e = p
done P p (b ∷ s) e = absurd (clash e)

peel1 : (a : Range) (P : Bytes → Type 0) → ((x : ℕ) → At a x → P (x ∷ [])) → (s : Bytes) → of_row (a ∷ []) s ≡ true → P s
peel1 a P f = peel a [] P (λ x t u. done (λ l. P (x ∷ l)) (f x u) t)

peel2 : (a b : Range) (P : Bytes → Type 0) → ((x y : ℕ) → At a x → At b y → P (x ∷ y ∷ [])) → (s : Bytes) → of_row (a ∷ b ∷ []) s ≡ true → P s
peel2 a b P f = peel a (b ∷ []) P (λ x t u. peel1 b (λ l. P (x ∷ l)) (λ y v. f x y u v) t)

peel3 : (a b c : Range) (P : Bytes → Type 0) → ((x y z : ℕ) → At a x → At b y → At c z → P (x ∷ y ∷ z ∷ [])) → (s : Bytes) → of_row (a ∷ b ∷ c ∷ []) s ≡ true → P s
peel3 a b c P f = peel a (b ∷ c ∷ []) P (λ x t u. peel2 b c (λ l. P (x ∷ l)) (λ y z v w. f x y z u v w) t)

peel4 : (a b c d : Range) (P : Bytes → Type 0) → ((x y z w : ℕ) → At a x → At b y → At c z → At d w → P (x ∷ y ∷ z ∷ w ∷ [])) → (s : Bytes) → of_row (a ∷ b ∷ c ∷ d ∷ []) s ≡ true → P s
peel4 a b c d P f = peel a (b ∷ c ∷ d ∷ []) P (λ x t u. peel3 b c d (λ l. P (x ∷ l)) (λ y z w v k m. f x y z w u v k m) t)

moved : (s : Bytes) (row row' : List Range) → row ≡ row' → of_row row s ≡ true → of_row row' s ≡ true
moved s row row' e o = subst (λ (r : List Range). of_row r s ≡ true) e o

row_utf8 : (row : List Range) (s : Bytes) → In row rows → of_row row s ≡ true → IsUtf8 s
row_utf8 row s (inl e) o =
    peel1 (range 0x00 0x7F) IsUtf8 (λ x u. by_one x (omega arith)) s (moved s row (range 0x00 0x7F ∷ []) e o)
row_utf8 row s (inr (inl e)) o =
    peel2 (range 0xC2 0xDF) tail IsUtf8 by_two s
    (moved s row (range 0xC2 0xDF ∷ tail ∷ []) e o)
row_utf8 row s (inr (inr (inl e))) o =
    peel3 (range 0xE0 0xE0) (range 0xA0 0xBF) tail IsUtf8 (λ x y z u v w. by_three x y z (omega arith, omega arith) (omega arith, omega arith) w (omega arith) (low_scalar (value3 x y z) (omega arith))) s
    (moved s row (range 0xE0 0xE0 ∷ range 0xA0 0xBF ∷ tail ∷ []) e o)
row_utf8 row s (inr (inr (inr (inl e)))) o =
    peel3 (range 0xE1 0xEC) tail tail IsUtf8 (λ x y z u v w. by_three x y z (omega arith, omega arith) v w (omega arith) (low_scalar (value3 x y z) (omega arith))) s
    (moved s row (range 0xE1 0xEC ∷ tail ∷ tail ∷ []) e o)
row_utf8 row s (inr (inr (inr (inr (inl e))))) o =
    peel3 (range 0xED 0xED) (range 0x80 0x9F) tail IsUtf8 (λ x y z u v w. by_three x y z (omega arith, omega arith) (omega arith, omega arith) w (omega arith) (low_scalar (value3 x y z) (omega arith))) s
    (moved s row (range 0xED 0xED ∷ range 0x80 0x9F ∷ tail ∷ []) e o)
row_utf8 row s (inr (inr (inr (inr (inr (inl e)))))) o =
    peel3 (range 0xEE 0xEF) tail tail IsUtf8
    (λ x y z u v w. by_three x y z (omega arith, omega arith) v w (omega arith) (high_scalar (value3 x y z) (omega arith) (omega arith))) s
    (moved s row (range 0xEE 0xEF ∷ tail ∷ tail ∷ []) e o)
row_utf8 row s (inr (inr (inr (inr (inr (inr (inl e))))))) o =
    peel4 (range 0xF0 0xF0) (range 0x90 0xBF) tail tail IsUtf8 (λ x y z w u v k m. by_four x y z w (omega arith, omega arith) (omega arith, omega arith) k m (omega arith) (omega arith)) s
    (moved s row (range 0xF0 0xF0 ∷ range 0x90 0xBF ∷ tail ∷ tail ∷ []) e o)
row_utf8 row s (inr (inr (inr (inr (inr (inr (inr (inl e)))))))) o =
    peel4 (range 0xF1 0xF3) tail tail tail IsUtf8 (λ x y z w u v k m. by_four x y z w (omega arith, omega arith) v k m (omega arith) (omega arith)) s
    (moved s row (range 0xF1 0xF3 ∷ tail ∷ tail ∷ tail ∷ []) e o)
row_utf8 row s (inr (inr (inr (inr (inr (inr (inr (inr (inl e))))))))) o =
    peel4 (range 0xF4 0xF4) (range 0x80 0x8F) tail tail IsUtf8 (λ x y z w u v k m. by_four x y z w (omega arith, omega arith) (omega arith, omega arith) k m (omega arith) (omega arith)) s
    (moved s row (range 0xF4 0xF4 ∷ range 0x80 0x8F ∷ tail ∷ tail ∷ []) e o)
row_utf8 row s (inr (inr (inr (inr (inr (inr (inr (inr (inr i))))))))) o = absurd i

text_utf8 : (t : Bytes) → Text t → IsUtf8 t
text_utf8 _ nothing = ([], (refl, refl))
text_utf8 _ (sequence row s t i e rest) = IsUtf8-append s t (row_utf8 row s i e) (text_utf8 t rest)

pub to_utf8 : (t : Bytes) → is_text t ≡ true → IsUtf8 t
to_utf8 t e = text_utf8 t (to_text t e)

-- ---- the encoding of a scalar value is a sequence of a row
split : (m n : ℕ) → (m < n) ⊎ (n ≤ m)
split m n = by (leb_tells n m)
  where
    by : ((leb n m ≡ true) × (n ≤ m)) ⊎ ((leb n m ≡ false) × (m < n)) → (m < n) ⊎ (n ≤ m)
    by (inl a) = inr a.1
    by (inr a) = inl a.1

is : (r : Range) (row : List Range) (x : ℕ) (t : Bytes) → At r x → of_row row t ≡ true → of_row (r ∷ row) (x ∷ t) ≡ true
is r row x t u e = and (inside r x) (of_row row t) (is_inside r x u.0 u.1) e

is2 : (a b : Range) (x y : ℕ) → At a x → At b y → of_row (a ∷ b ∷ []) (x ∷ y ∷ []) ≡ true
is2 a b x y u v = is a (b ∷ []) x (y ∷ []) u (is b [] y [] v refl)

is3 : (a b c : Range) (x y z : ℕ) → At a x → At b y → At c z → of_row (a ∷ b ∷ c ∷ []) (x ∷ y ∷ z ∷ []) ≡ true
is3 a b c x y z u v w = is a (b ∷ c ∷ []) x (y ∷ z ∷ []) u (is2 b c y z v w)

next-tail : (n : ℕ) → At tail (next n)
next-tail n = (omega arith, omega arith)

one_text : (c : ℕ) → c < 128 → is_text (c ∷ []) ≡ true
one_text c h = row_text_lem (range 0x00 0x7F ∷ []) (c ∷ []) (inl refl) (is (range 0x00 0x7F) [] c [] (omega arith, omega arith) refl)

two_text : (c : ℕ) → 128 ≤ c → c < 2048 → is_text ((192 + c / 64) ∷ next c ∷ []) ≡ true
two_text c l h =
    row_text_lem (range 0xC2 0xDF ∷ tail ∷ []) ((192 + c / 64) ∷ next c ∷ []) (inr (inl refl))
    (is2 (range 0xC2 0xDF) tail (192 + c / 64) (next c) (omega arith, omega arith) (next-tail c))

module _ (c : ℕ) where
  abbrev bytes3 : Bytes
  bytes3 = (224 + c / 4096) ∷ next (c / 64) ∷ next c ∷ []

  three_of : (a b : Range) → In (a ∷ b ∷ tail ∷ []) rows → At a (224 + c / 4096) → At b (next (c / 64)) → is_text bytes3 ≡ true
  three_of a b i u v =
      row_text_lem (a ∷ b ∷ tail ∷ []) bytes3 i (is3 a b tail (224 + c / 4096) (next (c / 64)) (next c) u v (next-tail c))

  three_text : 2048 ≤ c → c < 65536 → (c < 55296) ⊎ ((57344 ≤ c) × (c < 1114112)) → is_text bytes3 ≡ true
  three_text l h s = by s (split c 4096) (split c 53248)
    where
      by : (c < 55296) ⊎ ((57344 ≤ c) × (c < 1114112)) → (c < 4096) ⊎ (4096 ≤ c) → (c < 53248) ⊎ (53248 ≤ c) → is_text bytes3 ≡ true
      by (inr g) _ _ = three_of (range 0xEE 0xEF) tail (inr (inr (inr (inr (inr (inl refl)))))) (omega arith, omega arith) (next-tail (c / 64))
      by (inl g) (inl k) _ = three_of (range 0xE0 0xE0) (range 0xA0 0xBF) (inr (inr (inl refl))) (omega arith, omega arith) (omega arith, omega arith)
      by (inl g) (inr k) (inl m) = three_of (range 0xE1 0xEC) tail (inr (inr (inr (inl refl)))) (omega arith, omega arith) (next-tail (c / 64))
      by (inl g) (inr k) (inr m) = three_of (range 0xED 0xED) (range 0x80 0x9F) (inr (inr (inr (inr (inl refl))))) (omega arith, omega arith) (omega arith, omega arith)

  abbrev bytes4 : Bytes
  bytes4 = (240 + c / 262144) ∷ next (c / 4096) ∷ next (c / 64) ∷ next c ∷ []

  four_by : (a b : Range) → In (a ∷ b ∷ tail ∷ tail ∷ []) rows → At a (240 + c / 262144) → At b (next (c / 4096)) → is_text bytes4 ≡ true
  four_by a b i u v =
      row_text_lem (a ∷ b ∷ tail ∷ tail ∷ []) bytes4 i
      (is a (b ∷ tail ∷ tail ∷ []) (240 + c / 262144) (next (c / 4096) ∷ next (c / 64) ∷ next c ∷ []) u (is3 b tail tail (next (c / 4096)) (next (c / 64)) (next c) v (next-tail (c / 64)) (next-tail c)))

  four_text : 65536 ≤ c → c < 1114112 → is_text bytes4 ≡ true
  four_text l h = by (split c 262144) (split c 1048576)
    where
      by : (c < 262144) ⊎ (262144 ≤ c) → (c < 1048576) ⊎ (1048576 ≤ c) → is_text bytes4 ≡ true
      by (inl k) _ = four_by (range 0xF0 0xF0) (range 0x90 0xBF) (inr (inr (inr (inr (inr (inr (inl refl))))))) (omega arith, omega arith) (omega arith, omega arith)
      by (inr k) (inl m) = four_by (range 0xF1 0xF3) tail (inr (inr (inr (inr (inr (inr (inr (inl refl)))))))) (omega arith, omega arith) (next-tail (c / 4096))
      by (inr k) (inr m) = four_by (range 0xF4 0xF4) (range 0x80 0x8F) (inr (inr (inr (inr (inr (inr (inr (inr (inl refl))))))))) (omega arith, omega arith) (omega arith, omega arith)

encode_text : (c : ℕ) → scalar c ≡ true → is_text (encode c) ≡ true
encode_text c ok = by (scalar_cases c ok) (split c 128) (split c 2048) (split c 65536)
  where
    top : (c < 55296) ⊎ ((57344 ≤ c) × (c < 1114112)) → c < 1114112
    top (inl g) = omega arith
    top (inr g) = g.1

    by : (c < 55296) ⊎ ((57344 ≤ c) × (c < 1114112)) → (c < 128) ⊎ (128 ≤ c) → (c < 2048) ⊎ (2048 ≤ c) → (c < 65536) ⊎ (65536 ≤ c) → is_text (encode c) ≡ true
    by s (inl h) _ _ = ap is_text (one c h) ∙ one_text c h
    by s (inr l) (inl h) _ = ap is_text (two c l h) ∙ two_text c l h
    by s (inr _) (inr l) (inl h) = ap is_text (three c l h) ∙ three_text c l h s
    by s (inr _) (inr _) (inr l) = ap is_text (four c l) ∙ four_text c l (top s)

encodes_text : (cs : List ℕ) → scalars cs ≡ true → is_text (encodes cs) ≡ true
encodes_text [] e = refl
encodes_text (c ∷ cs) e =
    let w = both (scalar c) (scalars cs) e in
    text_append (encode c) (encodes cs) (encode_text c w.0) ∙ encodes_text cs w.1

pub from_utf8 : (t : Bytes) → IsUtf8 t → is_text t ≡ true
from_utf8 t u = ap is_text (sym u.1.1) ∙ encodes_text u.0 u.1.0

-- what the library's test answers
pub tells_text : {E : Type 0} (Q : E → Type 0) (t : Bytes) (r : Result (Bor Bytes) E) → MatchResult r (λ x. (x.now ≡ t) × IsUtf8 t) (λ e. ¬ (IsUtf8 t) × Q e) → is_ok r ≡ is_text t
tells_text Q t (Ok x) h = sym (from_utf8 t h.1)
tells_text Q t (Err e) h = bools_agree false (is_text t) (λ f. absurd (clash f)) (λ f. absurd (h.0 (to_utf8 t f)))
