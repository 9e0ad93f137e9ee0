-- Which pairs the bytes of an image spell.
-- Assumes nothing.
use Rattle.std.specs.Prelude.{◌≡◌, ℕ, zero, suc, ◌+◌, ◌<◌, ◌≤◌, true, [], ◌∷◌, length, Ok, Err, Result}
use Rattle.text.specs.Bytes.{Bytes}
use Rattle.keys.specs.Keys.{is_key}
use Rattle.keys.specs.declared.fault.StoreFault.{StoreFault}
use Rattle.keys.specs.declared.fault.StoreFault.TheVariants.{Image as NoImage}
use Rattle.stores.specs.Pairs.{Pairs, pair, Ascends, AllKeys}
use Rattle.images.specs.Layout.{byte_at, key_place, key_long, value_place, value_long, key_in, value_in}

-- the records from a place on, up to the one that ends them, and the pairs that they name; no record and no part goes past the end of the image
pub data Records : Bytes → ℕ → Pairs → Type 0 where
  end : {image : Bytes} {at : ℕ} → at < length image → byte_at image at ≡ 0 → Records image at []
  more : {image : Bytes} {at : ℕ} {ps : Pairs} → at + 15 ≤ length image → byte_at image at ≡ 1
      → key_place image at + key_long image at ≤ length image → value_place image at + value_long image at ≤ length image
      → Records image (at + 15) ps → Records image at (pair (key_in image at) (value_in image at) ∷ ps)

-- An image has at most 4,194,304 bytes, each key is a key, and keys strictly ascend.
pub record Spells (image : Bytes) (ps : Pairs) : Type 0 where
  pub short : length image ≤ 4194304
  pub records : Records image 0 ps
  pub keys : AllKeys (λ k. is_key k ≡ true) ps
  pub ascends : Ascends ps

-- the first n records from a place on as pairs
abbrev pub listed : Bytes → ℕ → ℕ → Pairs
listed image at zero = []
listed image at (suc n) = pair (key_in image at) (value_in image at) ∷ listed image (at + 15) n

-- what the check answers: how many pairs the bytes spell, or the refusal of bytes that spell none
abbrev pub Checked : Bytes → Result ℕ StoreFault → Type 0
Checked image (Ok n) = Spells image (listed image 0 n)
Checked image (Err e) = (e ≡ NoImage) × ((ps : Pairs) → Spells image ps → ⊥)

-- the pairs of an image, spelled or none
pub record Meant (image : Bytes) (ps : Pairs) : Type 0 where
  pub spelled : (qs : Pairs) → Spells image qs → ps ≡ qs
  pub none : ((qs : Pairs) → Spells image qs → ⊥) → ps ≡ []
