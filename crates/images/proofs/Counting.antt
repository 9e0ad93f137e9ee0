-- One pass over the records.
-- Assumes nothing.
use Rattle.std.proofs.Common.{◌≡◌, ℕ, zero, suc, ◌+◌, ◌-◌, ◌*◌, ◌<◌, ◌≤◌, min, Bool, true, false, ◌&&◌, eqb, leb, ◌⊎◌, [], ◌++◌, length, drop, get_or, sym, ap, ◌∙◌, subst, inl, inr, arith}
use Rattle.std.proofs.lemmas.Bool.{and_parts, and_left, cases_Bool, cases_lt, le-leb, lt-leb, le-ltb}
use Rattle.std.proofs.lemmas.List.{drop_at, drop-drop, length-drop, get_or_append_left, get_or-drop}
use Rattle.text.specs.Bytes.{Bytes, before}
use Rattle.keys.specs.Keys.{is_key}
use Rattle.images.specs.Layout.{byte_at, key_in}
use Rattle.images.specs.Tests.{ends_at, Placed, good_at, sound_from, sound}
use Rattle.images.specs.Lawful.{good_parts}
use Rattle.images.proofs.Reading.{ends_parts, ends_from, pair_short, pair_kind, placed}

-- what holds after n records, of which the last has its key, with the next at a place
pub record Passed (image : Bytes) (n at : ℕ) (last : Bytes) : Type 0 where
  pub low : (m : ℕ) → m < n → sound_from [] image 0 m ≡ false
  pub on : (m : ℕ) → sound_from [] image 0 (n + m) ≡ sound_from last image at m
  pub within : at ≤ length image
  pub few : n ≤ at

pub passed_none : (image : Bytes) → Passed image 0 0 []
passed_none image = record { low = λ m h. absurd (omega arith); on = λ m. let e : 0 + m ≡ m = omega arith in ap (sound_from [] image 0) e; within = omega arith; few = omega arith }

pub long_none : (image : Bytes) → 4194304 < length image → (n : ℕ) → sound image n ≡ false
unfolding sound
long_none image h n = and_left (leb (length image) 4194304) (sound_from [] image 0 n) (lt-leb (length image) 4194304 h)

short_sound : (image : Bytes) (n : ℕ) (b : Bool) → length image ≤ 4194304 → sound_from [] image 0 n ≡ b → sound image n ≡ b
unfolding sound
short_sound image n b h e = ap (λ (x : Bool). x && sound_from [] image 0 n) (le-leb (length image) 4194304 h) ∙ e

-- a place where the records end has no pair
not_both : (last image : Bytes) (at : ℕ) → good_at last image at ≡ true → ends_at image at ≡ false
not_both last image at g = by (cases_Bool (ends_at image at))
  where
    by : (ends_at image at ≡ true) ⊎ (ends_at image at ≡ false) → ends_at image at ≡ false
    by (inl e) =
        let a : byte_at image at ≡ 0 = (ends_parts image at e).1 in
        let b : byte_at image at ≡ 1 = pair_kind image at (good_parts last image at g).0 in
        absurd (omega arith)
    by (inr e) = e

-- nothing lies behind the bytes
not_ending : (image : Bytes) (at : ℕ) → length image ≤ at → ends_at image at ≡ false
unfolding ends_at
not_ending image at h = ap (λ (b : Bool). b && eqb (byte_at image at) 0) (le-ltb at (length image) h)

not_good : (last image : Bytes) (at : ℕ) → length image ≤ at → good_at last image at ≡ false
unfolding good_at
not_good last image at h = ap (λ (b : Bool). b && (is_key (key_in image at) && before last (key_in image at))) (pair_short image at (omega arith))

module _ (image : Bytes) (n at : ℕ) (last : Bytes) (p : Passed image n at last) where
  here : sound_from [] image 0 n ≡ ends_at image at
  here = let e : n + 0 ≡ n = omega arith in ap (sound_from [] image 0) (sym e) ∙ p.on 0

  pub counted : length image ≤ 4194304 → ends_at image at ≡ true → sound image n ≡ true
  counted h e = short_sound image n true h (here ∙ e)

  pub refused : length image ≤ 4194304 → ends_at image at ≡ false → good_at last image at ≡ false → (m : ℕ) → sound image m ≡ false
  refused h e g m = short_sound image m false h (by (cases_lt m n))
    where
      rest : (k : ℕ) → sound_from last image at k ≡ false
      rest zero = e
      rest (suc k) = and_left (good_at last image at) (sound_from (key_in image at) image (at + 15) k) g

      by : (m < n) ⊎ (n ≤ m) → sound_from [] image 0 m ≡ false
      by (inl l) = p.low m l
      by (inr l) = let q : n + (m - n) ≡ m = omega arith in ap (sound_from [] image 0) (sym q) ∙ p.on (m - n) ∙ rest (m - n)

  pub passed_more : (key : Bytes) → key ≡ key_in image at → good_at last image at ≡ true → Passed image (n + 1) (at + 15) key
  passed_more key ek g = record { low = low; on = on; within = w.room; few = omega (arith, p.few) }
    where
      w : Placed image at
      w = placed image at (good_parts last image at g).0

      low : (m : ℕ) → m < n + 1 → sound_from [] image 0 m ≡ false
      low m h = by (cases_lt m n)
        where
          by : (m < n) ⊎ (n ≤ m) → sound_from [] image 0 m ≡ false
          by (inl l) = p.low m l
          by (inr l) = let q : m ≡ n = omega arith in ap (sound_from [] image 0) q ∙ here ∙ not_both last image at g

      on : (m : ℕ) → sound_from [] image 0 (n + 1 + m) ≡ sound_from key image (at + 15) m
      on m =
          let q : n + 1 + m ≡ n + suc m = omega arith in
          ap (sound_from [] image 0) q ∙ p.on (suc m)
          ∙ ap (λ (b : Bool). b && sound_from (key_in image at) image (at + 15) m) g
          ∙ ap (λ (k : Bytes). sound_from k image (at + 15) m) (sym ek)

  pub good_within : good_at last image at ≡ true → Placed image at
  good_within g = placed image at (good_parts last image at g).0

-- ---- the bytes cut into records

-- what is left to cut after n records
pub record Ahead (image : Bytes) (size : ℕ) (rest : Bytes) (n : ℕ) (last : Bytes) : Type 0 where
  pub cuts : size ≡ 15
  pub lies : rest ≡ drop (15 * n) image
  pub passed : Passed image n (15 * n) last

pub ahead_none : (image : Bytes) (size : ℕ) (rest : Bytes) (n : ℕ) → size ≡ 15 → rest ≡ image → n ≡ 0 → Ahead image size rest n []
ahead_none image size rest n s r e = rw e (record { cuts = s; lies = r; passed = passed_none image })

module _ (image : Bytes) (size : ℕ) (rest : Bytes) (n : ℕ) (last : Bytes) (a : Ahead image size rest n last) where
  -- the kind of the record that is cut off next
  pub kind_cut : (part more : Bytes) → rest ≡ part ++ more → 0 < length part → get_or part 0 0 ≡ byte_at image (15 * n)
  kind_cut part more e h =
      let z : 15 * n + 0 ≡ 15 * n = omega arith in
      sym (get_or_append_left part more 0 0 h) ∙ ap (λ (l : Bytes). get_or l 0 0) (sym e ∙ a.lies) ∙ get_or-drop (15 * n) image 0 0 ∙ ap (byte_at image) z

  pub ahead_more : (size2 : ℕ) (part more : Bytes) (n2 : ℕ) (key : Bytes) → size2 ≡ size → rest ≡ part ++ more → length part ≡ min size (length rest) → n2 ≡ n + 1 → key ≡ key_in image (15 * n) → good_at last image (15 * n) ≡ true → Ahead image size2 more n2 key
  ahead_more size2 part more n2 key es e l en ek g = rw en (record { cuts = es ∙ a.cuts; lies = lies; passed = subst (λ (x : ℕ). Passed image (n + 1) x key) next (passed_more image n (15 * n) last a.passed key ek g) })
    where
      next : 15 * n + 15 ≡ 15 * (n + 1)
      next = omega arith

      room : 15 * n + 15 ≤ length image
      room = (good_within image n (15 * n) last a.passed g).room

      lies : more ≡ drop (15 * (n + 1)) image
      lies =
          let r : length rest ≡ length image - 15 * n = ap length a.lies ∙ length-drop (15 * n) image in
          let p : length part ≡ 15 = omega (arith, l, a.cuts, room) in
          sym (drop_at part more 15 p) ∙ ap (drop 15) (sym e ∙ a.lies) ∙ drop-drop 15 (15 * n) image ∙ ap (λ (x : ℕ). drop x image) next

  -- the records end here
  pub ended : (part more : Bytes) (m : ℕ) → rest ≡ part ++ more → length part ≡ min size (length rest) → 0 < length rest → m ≡ n → get_or part 0 0 ≡ 0 → length image ≤ 4194304 → sound image m ≡ true
  ended part more m e l z em k h =
      let p : 0 < length part = omega (arith, l, a.cuts, z) in
      let r : length rest ≡ length image - 15 * n = ap length a.lies ∙ length-drop (15 * n) image in
      ap (sound image) em ∙ counted image n (15 * n) last a.passed h (ends_from image (15 * n) (omega arith) (sym (kind_cut part more e p) ∙ k))

  -- they go on with no good one
  pub spoilt : (part more : Bytes) (m : ℕ) → rest ≡ part ++ more → length part ≡ min size (length rest) → 0 < length rest → (get_or part 0 0 ≡ 0 → ⊥) → length image ≤ 4194304 → good_at last image (15 * n) ≡ false → sound image m ≡ false
  spoilt part more m e l z k h g =
      let p : 0 < length part = omega (arith, l, a.cuts, z) in
      refused image n (15 * n) last a.passed h (off (kind_cut part more e p)) g m
    where
      off : get_or part 0 0 ≡ byte_at image (15 * n) → ends_at image (15 * n) ≡ false
      off q = by (cases_Bool (ends_at image (15 * n)))
        where
          by : (ends_at image (15 * n) ≡ true) ⊎ (ends_at image (15 * n) ≡ false) → ends_at image (15 * n) ≡ false
          by (inl t) = absurd (k (q ∙ (ends_parts image (15 * n) t).1))
          by (inr f) = f

  -- nothing is left to cut
  pub run_out : length rest ≡ 0 → (length image ≤ 4194304) → (m : ℕ) → sound image m ≡ false
  run_out z h = refused image n (15 * n) last a.passed h (not_ending image (15 * n) past) (not_good last image (15 * n) past)
    where
      past : length image ≤ 15 * n
      past = let r : length rest ≡ length image - 15 * n = ap length a.lies ∙ length-drop (15 * n) image in omega arith

-- ---- the records of a sound image by their number

pub sound-placed : (last image : Bytes) (at n i : ℕ) → sound_from last image at n ≡ true → i < n → Placed image (at + 15 * i)
sound-placed last image at zero i h l = absurd (omega arith)
sound-placed last image at (suc n) zero h l =
    let a = and_parts (good_at last image at) (sound_from (key_in image at) image (at + 15) n) h in
    let e : at ≡ at + 15 * 0 = omega arith in
    subst (λ (x : ℕ). Placed image x) e (placed image at (good_parts last image at a.0).0)
sound-placed last image at (suc n) (suc i) h l =
    let a = and_parts (good_at last image at) (sound_from (key_in image at) image (at + 15) n) h in
    let e : at + 15 + 15 * i ≡ at + 15 * suc i = omega arith in
    subst (λ (x : ℕ). Placed image x) e (sound-placed (key_in image at) image (at + 15) n i a.1 (omega arith))
