-- Which keys and prefixes a store grants: those of text and of the form that the rules for keys ask for, up to the store's longest key.
-- Assumes nothing.
use Rattle.std.specs.Prelude.{ℕ, ◌-◌, Bool, true, ◌&&◌, length, nat_le}
use Rattle.text.specs.Bytes.{Bytes}
use Rattle.text.specs.Utf8.{is_text}
use Rattle.keys.specs.Keys.{key_form, prefix_form}

-- A key: not empty, no `/` at either end and no `//`, at most as long as the longest key, and text.
abbrev pub well_key : ℕ → Bytes → Bool
well_key longest k = key_form true k && (nat_le (length k) longest && is_text k)

-- A prefix: empty, or such a key and `/`.
abbrev pub well_prefix : ℕ → Bytes → Bool
well_prefix longest p = prefix_form true p && (nat_le (length p - 1) longest && is_text p)
