-- What bytes spell, and what the test grants.
-- Assumes nothing.
use Rattle.std.proofs.Common.{◌≡◌, ℕ, zero, suc, ◌+◌, ◌*◌, ◌<◌, ◌≤◌, true, false, leb, [], ◌∷◌, length, Some, None, Option, sym, refl, ap, ◌∙◌, subst, arith}
use Rattle.std.proofs.lemmas.Bool.{and_parts, and_from, both_ways, leb-true, le-leb}
use Rattle.std.specs.Option.{unwrap_or, ok_or}
use Rattle.keys.specs.declared.fault.StoreFault.TheVariants.{Image as NoImage}
use Rattle.text.specs.Bytes.{Bytes, before}
use Rattle.keys.specs.Keys.{is_key}
use Rattle.stores.specs.Pairs.{Pairs, pair, AllAbove, Ascends, AllKeys}
use Rattle.runs.specs.Places.{key_at, value_at}
use Rattle.images.specs.Layout.{key_in, value_in}
use Rattle.images.specs.Spells.{Records, end, more, Spells, listed, Checked, Meant}
use Rattle.images.specs.Tests.{pair_at, Placed, good_at, sound_from, sound, upheld, Counted}
use Rattle.images.specs.Lawful.{good_parts, sound_rises}
use Rattle.images.specs.Laws.{OneSpelling, TestIsSpelling}
use Rattle.images.proofs.Counting.{sound-placed}
use Rattle.images.proofs.Reading.{ends_parts, ends_from, pair_kind, pair_from, placed, good_here}

one_reading : {image : Bytes} {at : ℕ} {ps qs : Pairs} → Records image at ps → Records image at qs → ps ≡ qs
one_reading (end h e) (end h' e') = refl
one_reading (end h e) (more h' e' k v s) = absurd (omega arith)
one_reading (more h e k v r) (end h' e') = absurd (omega arith)
one_reading {image} {at} (more h e k v r) (more h' e' k' v' s) = ap (λ (x : Pairs). pair (key_in image at) (value_in image at) ∷ x) (one_reading r s)

pub one_spelling_lem : OneSpelling
one_spelling_lem image ps qs s t = one_reading s.records t.records

-- ---- what passes the test is spelled

records_of : (last image : Bytes) (at n : ℕ) → sound_from last image at n ≡ true → Records image at (listed image at n)
records_of last image at zero h = let e = ends_parts image at h in end e.0 e.1
records_of last image at (suc n) h =
    let a = and_parts (good_at last image at) (sound_from (key_in image at) image (at + 15) n) h in
    let g = good_parts last image at a.0 in
    let w = placed image at g.0 in
    more w.room (pair_kind image at g.0) w.key w.value (records_of (key_in image at) image (at + 15) n a.1)

pub spelled : (image : Bytes) (n : ℕ) → sound image n ≡ true → Spells image (listed image 0 n)
unfolding sound
spelled image n h =
    let a = and_parts (leb (length image) 4194304) (sound_from [] image 0 n) h in
    let r = sound_rises [] image 0 n a.1 in
    record { short = leb-true (length image) 4194304 a.0; records = records_of [] image 0 n a.1; keys = r.keys; ascends = r.ascends }

-- ---- what is spelled passes it

good_from : (last image : Bytes) (at : ℕ) → pair_at image at ≡ true → is_key (key_in image at) ≡ true → before last (key_in image at) ≡ true → good_at last image at ≡ true
good_from last image at p k b = sym (good_here last image at (key_in image at) true true p refl (sym k) (sym b))

sound_of : {image : Bytes} {at : ℕ} {ps : Pairs} (last : Bytes) → Records image at ps → AllKeys (λ k. is_key k ≡ true) ps → Ascends ps → AllAbove last ps → (sound_from last image at (length ps) ≡ true) × (ps ≡ listed image at (length ps))
sound_of {image} {at} last (end h e) k a b = (ends_from image at h e, refl)
sound_of {image} {at} last (more {ps = qs} h e kp vp r) k a b =
    let i = sound_of (key_in image at) r k.1 a.1 a.0 in (
      and_from (good_at last image at) (sound_from (key_in image at) image (at + 15) (length qs)) (good_from last image at (pair_from image at h e kp vp) k.0 b.0) i.0,
      ap (λ (x : Pairs). pair (key_in image at) (value_in image at) ∷ x) i.1,
    )

-- a key comes after the empty text
not_empty : (k : Bytes) → is_key k ≡ true → before [] k ≡ true
not_empty [] h = absurd (cc)
not_empty (x ∷ k) h = refl

above_none : (ps : Pairs) → AllKeys (λ k. is_key k ≡ true) ps → AllAbove [] ps
above_none [] k = tt
above_none (p ∷ ps) k = (not_empty p.key k.0, above_none ps k.1)

pub sounds : (image : Bytes) (ps : Pairs) → Spells image ps → (n : ℕ) × (sound image n ≡ true) × (ps ≡ listed image 0 n)
unfolding sound
sounds image ps s =
    let i = sound_of [] s.records s.keys s.ascends (above_none ps s.keys) in
    (length ps, and_from (leb (length image) 4194304) (sound_from [] image 0 (length ps)) (le-leb (length image) 4194304 s.short) i.0, i.1)

back : (image : Bytes) (ps : Pairs) → ((n : ℕ) × (sound image n ≡ true) × (ps ≡ listed image 0 n)) → Spells image ps
back image ps w = subst (λ (x : Pairs). Spells image x) (sym w.2) (spelled image w.0 w.1)

pub test_is_spelling_lem : TestIsSpelling
test_is_spelling_lem image ps = (sounds image ps, back image ps)

pub not_spelled : (image : Bytes) → ((n : ℕ) → sound image n ≡ false) → (ps : Pairs) → Spells image ps → ⊥
not_spelled image f ps s = let w = sounds image ps s in both_ways (sound image w.0) (f w.0) w.1

pub meant-spelled : (image : Bytes) (n : ℕ) → sound image n ≡ true → Meant image (listed image 0 n)
meant-spelled image n h = record { spelled = λ qs s. one_spelling_lem image (listed image 0 n) qs (spelled image n h) s; none = λ f. absurd (f (listed image 0 n) (spelled image n h)) }

pub meant_none : (image : Bytes) → ((n : ℕ) → sound image n ≡ false) → Meant image []
meant_none image f = record { spelled = λ qs s. absurd (not_spelled image f qs s); none = λ g. refl }

-- ---- the pairs by their place

pub length-listed : (image : Bytes) (at n : ℕ) → length (listed image at n) ≡ n
length-listed image at zero = refl
length-listed image at (suc n) = ap suc (length-listed image (at + 15) n)

pub listed_at : (image : Bytes) (at n i : ℕ) → i < n → (key_at (listed image at n) i ≡ key_in image (at + 15 * i)) × (value_at (listed image at n) i ≡ value_in image (at + 15 * i))
listed_at image at zero i h = absurd (omega arith)
listed_at image at (suc n) zero h = let e : at ≡ at + 15 * 0 = omega arith in (ap (key_in image) e, ap (value_in image) e)
listed_at image at (suc n) (suc i) h =
    let w = listed_at image (at + 15) n i (omega arith) in
    let e : at + 15 + 15 * i ≡ at + 15 * suc i = omega arith in
    (w.0 ∙ ap (key_in image) e, w.1 ∙ ap (value_in image) e)

pub listed_past : (image : Bytes) (at n i : ℕ) → n ≤ i → (key_at (listed image at n) i ≡ []) × (value_at (listed image at n) i ≡ [])
listed_past image at zero i h = (refl, refl)
listed_past image at (suc n) zero h = absurd (omega arith)
listed_past image at (suc n) (suc i) h = listed_past image (at + 15) n i (omega arith)

-- ---- what an image keeps

pub upheld_counted : (image : Bytes) (count : Option ℕ) → Counted image count → upheld image count ≡ true
unfolding upheld
upheld_counted image None c = refl
upheld_counted image (Some n) c = c

pub none_counted : (image : Bytes) (count : Option ℕ) → Counted image count → (n : ℕ) → count ≡ None → sound image n ≡ false
none_counted image None c n e = c n
none_counted image (Some m) c n e = absurd (cc)

pub meant_counted : (image : Bytes) (count : Option ℕ) → Counted image count → Meant image (listed image 0 (unwrap_or count 0))
meant_counted image None c = meant_none image c
meant_counted image (Some n) c = meant-spelled image n c

pub checked : (image : Bytes) (count : Option ℕ) → upheld image count ≡ true → ((n : ℕ) → count ≡ None → sound image n ≡ false) → Checked image (ok_or count NoImage)
unfolding upheld
checked image None h r = (refl, not_spelled image (λ n. r n refl))
checked image (Some n) h r = spelled image n h

upheld-sound : (image : Bytes) (count : Option ℕ) (i : ℕ) → upheld image count ≡ true → i < unwrap_or count 0 → sound image (unwrap_or count 0) ≡ true
unfolding upheld
upheld-sound image None i h l = absurd (omega arith)
upheld-sound image (Some n) i h l = h

sound_from_lem : (image : Bytes) (n : ℕ) → sound image n ≡ true → sound_from [] image 0 n ≡ true
unfolding sound
sound_from_lem image n h = (and_parts (leb (length image) 4194304) (sound_from [] image 0 n) h).1

-- the record of a pair of an image lies in it
pub pair-placed : (image : Bytes) (count : Option ℕ) (i : ℕ) → upheld image count ≡ true → i < unwrap_or count 0 → Placed image (15 * i)
pair-placed image count i h l =
    let e : 0 + 15 * i ≡ 15 * i = omega arith in
    subst (λ (x : ℕ). Placed image x) e (sound-placed [] image 0 (unwrap_or count 0) i (sound_from_lem image (unwrap_or count 0) (upheld-sound image count i h l)) l)

pub pair_there : (image : Bytes) (n i : ℕ) → i < n → (key_in image (15 * i) ≡ key_at (listed image 0 n) i) × (value_in image (15 * i) ≡ value_at (listed image 0 n) i)
pair_there image n i l =
    let e : 15 * i ≡ 0 + 15 * i = omega arith in
    let w = listed_at image 0 n i l in
    (ap (key_in image) e ∙ sym w.0, ap (value_in image) e ∙ sym w.1)

sound_short : (image : Bytes) (n : ℕ) → sound image n ≡ true → length image ≤ 4194304
unfolding sound
sound_short image n h = leb-true (length image) 4194304 (and_parts (leb (length image) 4194304) (sound_from [] image 0 n) h).0

pub place_fits : (image : Bytes) (count : Option ℕ) (i : ℕ) → upheld image count ≡ true → i < unwrap_or count 0 → 15 * i < 4194304
place_fits image count i h l =
    let w : 15 * i + 15 ≤ length image = (pair-placed image count i h l).room in
    let s : length image ≤ 4194304 = sound_short image (unwrap_or count 0) (upheld-sound image count i h l) in
    omega arith
