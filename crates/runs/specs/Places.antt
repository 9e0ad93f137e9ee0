-- Pairs by their place in the list.
-- Assumes nothing.
use Rattle.std.specs.Prelude.{ℕ, [], slice_index_or}
use Rattle.text.specs.Bytes.{Bytes}
use Rattle.stores.specs.Pairs.{Pairs, pair}

-- the key and the value at a place; past the last both are empty
abbrev pub key_at : Pairs → ℕ → Bytes
key_at ps i = (slice_index_or ps i (pair [] [])).key

abbrev pub value_at : Pairs → ℕ → Bytes
value_at ps i = (slice_index_or ps i (pair [] [])).value
