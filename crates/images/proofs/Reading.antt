-- What a record at a place tells, as the code reads it.
-- Assumes nothing.
use Rattle.std.proofs.Common.{◌≡◌, ℕ, ◌+◌, ◌-◌, ◌<◌, ◌≤◌, Bool, true, false, ◌&&◌, eqb, ltb, leb, length, take, drop, sym, refl, ap, ◌∙◌, arith}
use Rattle.std.proofs.lemmas.Bool.{and_parts, and_from, and_left, and_right, eqb-true, leb-true, ltb-true, le-leb, lt-leb, lt-ltb, eq-eqb, ne_eqb}
use Rattle.text.specs.Bytes.{Bytes, before}
use Rattle.keys.specs.Keys.{is_key}
use Rattle.images.specs.Layout.{byte_at, key_place, key_long, value_place, value_long, key_in}
use Rattle.images.specs.Tests.{ends_at, pair_at, Placed, good_at}

pub part_is : (image : Bytes) (a n b m : ℕ) → a ≡ b → n ≡ m → take (a + n - a) (drop a image) ≡ take m (drop b image)
part_is image a n b m p q = let e : a + n - a ≡ m = omega arith in ap (λ (x : ℕ). take x (drop a image)) e ∙ ap (λ (x : ℕ). take m (drop x image)) p

-- ---- the end

ends_here : (image : Bytes) (at : ℕ) → at < length image → ends_at image at ≡ eqb (byte_at image at) 0
unfolding ends_at
ends_here image at h = ap (λ (b : Bool). b && eqb (byte_at image at) 0) (lt-ltb at (length image) h)

pub ends_parts : (image : Bytes) (at : ℕ) → ends_at image at ≡ true → (at < length image) × (byte_at image at ≡ 0)
unfolding ends_at
ends_parts image at h =
    let a = and_parts (ltb at (length image)) (eqb (byte_at image at) 0) h in
    (ltb-true at (length image) a.0, eqb-true (byte_at image at) 0 a.1)

pub ends_from : (image : Bytes) (at : ℕ) → at < length image → byte_at image at ≡ 0 → ends_at image at ≡ true
ends_from image at h e = ends_here image at h ∙ eq-eqb (byte_at image at) 0 e

-- ---- a pair

pub pair_short : (image : Bytes) (at : ℕ) → length image < at + 15 → pair_at image at ≡ false
unfolding pair_at
pair_short image at h =
    and_left (leb (at + 15) (length image) && eqb (byte_at image at) 1) (leb (key_place image at + key_long image at) (length image) && leb (value_place image at + value_long image at) (length image))
    (and_left (leb (at + 15) (length image)) (eqb (byte_at image at) 1) (lt-leb (at + 15) (length image) h))

pub pair_other : (image : Bytes) (at : ℕ) → (byte_at image at ≡ 1 → ⊥) → pair_at image at ≡ false
unfolding pair_at
pair_other image at h =
    and_left (leb (at + 15) (length image) && eqb (byte_at image at) 1) (leb (key_place image at + key_long image at) (length image) && leb (value_place image at + value_long image at) (length image))
    (and_right (leb (at + 15) (length image)) (eqb (byte_at image at) 1) (ne_eqb (byte_at image at) 1 h))

pub pair_here : (image : Bytes) (at a n b m : ℕ) (k v : Bool) → at + 15 ≤ length image → byte_at image at ≡ 1
    → a ≡ key_place image at → n ≡ key_long image at → b ≡ value_place image at → m ≡ value_long image at
    → k ≡ leb (a + n) (length image) → v ≡ leb (b + m) (length image) → (k && v) ≡ pair_at image at
unfolding pair_at
pair_here image at a n b m k v h e ea en eb em ek ev =
    let first : (leb (at + 15) (length image) && eqb (byte_at image at) 1) ≡ true = and_from (leb (at + 15) (length image)) (eqb (byte_at image at) 1) (le-leb (at + 15) (length image) h) (eq-eqb (byte_at image at) 1 e) in
    let kk : k ≡ leb (key_place image at + key_long image at) (length image) = ek ∙ ap (λ (x : ℕ). leb (x + n) (length image)) ea ∙ ap (λ (x : ℕ). leb (key_place image at + x) (length image)) en in
    let vv : v ≡ leb (value_place image at + value_long image at) (length image) = ev ∙ ap (λ (x : ℕ). leb (x + m) (length image)) eb ∙ ap (λ (x : ℕ). leb (value_place image at + x) (length image)) em in
    ap (λ (x : Bool). x && v) kk ∙ ap (λ (x : Bool). leb (key_place image at + key_long image at) (length image) && x) vv
    ∙ sym (ap (λ (x : Bool). x && (leb (key_place image at + key_long image at) (length image) && leb (value_place image at + value_long image at) (length image))) first)

pub pair_kind : (image : Bytes) (at : ℕ) → pair_at image at ≡ true → byte_at image at ≡ 1
unfolding pair_at
pair_kind image at h =
    let a = and_parts (leb (at + 15) (length image) && eqb (byte_at image at) 1) (leb (key_place image at + key_long image at) (length image) && leb (value_place image at + value_long image at) (length image)) h in
    let b = and_parts (leb (at + 15) (length image)) (eqb (byte_at image at) 1) a.0 in
    eqb-true (byte_at image at) 1 b.1

pub placed : (image : Bytes) (at : ℕ) → pair_at image at ≡ true → Placed image at
unfolding pair_at
placed image at h =
    let a = and_parts (leb (at + 15) (length image) && eqb (byte_at image at) 1) (leb (key_place image at + key_long image at) (length image) && leb (value_place image at + value_long image at) (length image)) h in
    let b = and_parts (leb (at + 15) (length image)) (eqb (byte_at image at) 1) a.0 in
    let d = and_parts (leb (key_place image at + key_long image at) (length image)) (leb (value_place image at + value_long image at) (length image)) a.1 in
    record { room = leb-true (at + 15) (length image) b.0; key = leb-true (key_place image at + key_long image at) (length image) d.0; value = leb-true (value_place image at + value_long image at) (length image) d.1 }

pub pair_from : (image : Bytes) (at : ℕ) → at + 15 ≤ length image → byte_at image at ≡ 1 → key_place image at + key_long image at ≤ length image → value_place image at + value_long image at ≤ length image → pair_at image at ≡ true
pair_from image at h e k v = sym (pair_here image at (key_place image at) (key_long image at) (value_place image at) (value_long image at) true true h e refl refl refl refl (sym (le-leb (key_place image at + key_long image at) (length image) k)) (sym (le-leb (value_place image at + value_long image at) (length image) v)))

-- ---- a pair behind the last one

pub good_none : (last image : Bytes) (at : ℕ) → pair_at image at ≡ false → good_at last image at ≡ false
unfolding good_at
good_none last image at h = and_left (pair_at image at) (is_key (key_in image at) && before last (key_in image at)) h

pub good_here : (last image : Bytes) (at : ℕ) (key : Bytes) (a b : Bool) → pair_at image at ≡ true → key ≡ key_in image at → a ≡ is_key key → b ≡ before last key → (a && b) ≡ good_at last image at
unfolding good_at
good_here last image at key a b h e ea eb =
    ap (λ (x : Bool). x && b) (ea ∙ ap is_key e) ∙ ap (λ (x : Bool). is_key (key_in image at) && x) (eb ∙ ap (before last) e)
    ∙ sym (ap (λ (x : Bool). x && (is_key (key_in image at) && before last (key_in image at))) h)
