-- The bytes of an image. It is a list of records from its first byte on; a record begins with one byte of kind. Kind 1 is a pair of 15 bytes: place of the key (4 bytes), length of the key (2), place of the value (4), length of the value (4). Kind 0, alone, ends the records.
-- Numbers are little-endian, and places count from the first byte of the image. Parts may overlap each other and the records; bytes behind the end of the records need no meaning.
-- Assumes nothing.
use Rattle.std.specs.Prelude.{ℕ, ◌+◌, ◌*◌, take, drop, slice_index}
use Rattle.text.specs.Bytes.{Bytes}

abbrev pub byte_at : Bytes → ℕ → ℕ
byte_at image i = slice_index image i

unfoldable pub number2 : Bytes → ℕ → ℕ
number2 image at = byte_at image at + 256 * byte_at image (at + 1)

unfoldable pub number4 : Bytes → ℕ → ℕ
number4 image at = byte_at image at + 256 * byte_at image (at + 1) + 65536 * byte_at image (at + 2) + 16777216 * byte_at image (at + 3)

-- n bytes from a place on
abbrev pub part : Bytes → ℕ → ℕ → Bytes
part image place n = take n (drop place image)

-- the parts that a record of kind 1 names
abbrev pub key_place : Bytes → ℕ → ℕ
key_place image at = number4 image (at + 1)

abbrev pub key_long : Bytes → ℕ → ℕ
key_long image at = number2 image (at + 5)

abbrev pub value_place : Bytes → ℕ → ℕ
value_place image at = number4 image (at + 7)

abbrev pub value_long : Bytes → ℕ → ℕ
value_long image at = number4 image (at + 11)

unfoldable pub key_in : Bytes → ℕ → Bytes
key_in image at = part image (key_place image at) (key_long image at)

unfoldable pub value_in : Bytes → ℕ → Bytes
value_in image at = part image (value_place image at) (value_long image at)
