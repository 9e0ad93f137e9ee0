-- Bytes that pass the test spell lawful pairs.
-- Assumes nothing.
use Rattle.std.specs.Prelude.{◌≡◌, ℕ, zero, suc, ◌+◌, true, ◌&&◌, [], length, Some, None, Option, unwrap_or, nat_le}
use Rattle.std.proofs.Common.{lit≤}
use Rattle.std.proofs.lemmas.Bool.{and_parts}
use Rattle.text.specs.Bytes.{Bytes, before}
use Rattle.keys.specs.Keys.{is_key}
use Rattle.stores.specs.Pairs.{Pairs, AllAbove, Ascends, AllKeys, Lawful}
use Rattle.stores.proofs.Mounts.{above_trans}
use Rattle.images.specs.Layout.{key_in}
use Rattle.images.specs.Spells.{listed}
use Rattle.images.specs.Tests.{pair_at, good_at, sound_from, sound, upheld}

pub record Rises (last : Bytes) (ps : Pairs) : Type 0 where
  pub above : AllAbove last ps
  pub ascends : Ascends ps
  pub keys : AllKeys (λ k. is_key k ≡ true) ps

pub good_parts : (last image : Bytes) (at : ℕ) → good_at last image at ≡ true → (pair_at image at ≡ true) × (is_key (key_in image at) ≡ true) × (before last (key_in image at) ≡ true)
unfolding good_at
good_parts last image at h =
    let a = and_parts (pair_at image at) (is_key (key_in image at) && before last (key_in image at)) h in
    let b = and_parts (is_key (key_in image at)) (before last (key_in image at)) a.1 in
    (a.0, b.0, b.1)

pub sound_rises : (last image : Bytes) (at n : ℕ) → sound_from last image at n ≡ true → Rises last (listed image at n)
sound_rises last image at zero h = record { above = tt; ascends = tt; keys = tt }
sound_rises last image at (suc n) h =
    let a = and_parts (good_at last image at) (sound_from (key_in image at) image (at + 15) n) h in
    let g = good_parts last image at a.0 in
    let i = sound_rises (key_in image at) image (at + 15) n a.1 in
    record {
      above = (g.2, above_trans last (key_in image at) (listed image (at + 15) n) g.2 i.above);
      ascends = (i.above, i.ascends);
      keys = (g.1, i.keys);
    }

pub none_lawful : Lawful [] 400
none_lawful = record { ascends = tt; short = lit≤ tt; keys = tt }

pub sound_lawful : (image : Bytes) (n : ℕ) → sound image n ≡ true → Lawful (listed image 0 n) 400
unfolding sound
sound_lawful image n h =
    let a = and_parts (nat_le (length image) 4194304) (sound_from [] image 0 n) h in
    let r = sound_rises [] image 0 n a.1 in
    record { ascends = r.ascends; short = lit≤ tt; keys = r.keys }

pub image_lawful : (image : Bytes) (count : Option ℕ) → upheld image count ≡ true → Lawful (listed image 0 (unwrap_or count 0)) 400
unfolding upheld
image_lawful image None h = none_lawful
image_lawful image (Some n) h = sound_lawful image n h
