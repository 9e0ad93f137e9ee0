-- Whether bytes are an image, as a test record by record.
-- Assumes nothing.
use Rattle.std.specs.Prelude.{◌≡◌, ℕ, zero, suc, ◌+◌, ◌≤◌, Bool, true, false, ◌&&◌, [], length, Some, None, Option, ◌==◌, nat_le, nat_lt}
use Rattle.text.specs.Bytes.{Bytes, before}
use Rattle.keys.specs.Keys.{is_key}
use Rattle.images.specs.Layout.{byte_at, key_place, key_long, value_place, value_long, key_in}

-- the records end at a place
unfoldable pub ends_at : Bytes → ℕ → Bool
ends_at image at = nat_lt at (length image) && byte_at image at == 0

-- a record of kind 1 lies there, and its parts lie in the image
unfoldable pub pair_at : Bytes → ℕ → Bool
pair_at image at =
    (nat_le (at + 15) (length image) && byte_at image at == 1)
    && (nat_le (key_place image at + key_long image at) (length image) && nat_le (value_place image at + value_long image at) (length image))

-- what the code needs to read it
pub record Placed (image : Bytes) (at : ℕ) : Type 0 where
  pub room : at + 15 ≤ length image
  pub key : key_place image at + key_long image at ≤ length image
  pub value : value_place image at + value_long image at ≤ length image

-- its key is a key, and comes after the one before it
unfoldable pub good_at : Bytes → Bytes → ℕ → Bool
good_at last image at = pair_at image at && (is_key (key_in image at) && before last (key_in image at))

-- n such records, and the end
abbrev pub sound_from : Bytes → Bytes → ℕ → ℕ → Bool
sound_from last image at zero = ends_at image at
sound_from last image at (suc n) = good_at last image at && sound_from (key_in image at) image (at + 15) n

unfoldable pub sound : Bytes → ℕ → Bool
sound image n = nat_le (length image) 4194304 && sound_from [] image 0 n

-- what a pass over the records counts
abbrev pub Counted : Bytes → Option ℕ → Type 0
Counted image None = (n : ℕ) → sound image n ≡ false
Counted image (Some n) = sound image n ≡ true

-- what an image keeps: that its bytes spell so many pairs, where they are not refused
unfoldable pub upheld : Bytes → Option ℕ → Bool
upheld image None = true
upheld image (Some n) = sound image n
