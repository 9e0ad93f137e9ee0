-- What spelling amounts to, so that a contract can name it.
-- Assumes nothing.
use Rattle.std.specs.Prelude.{◌≡◌, ℕ, true, ◌↔◌}
use Rattle.text.specs.Bytes.{Bytes}
use Rattle.stores.specs.Pairs.{Pairs}
use Rattle.images.specs.Spells.{Spells, listed}
use Rattle.images.specs.Tests.{sound}

-- Bytes spell at most one list of pairs.
abbrev pub OneSpelling : Type 0
OneSpelling = (image : Bytes) (ps qs : Pairs) → Spells image ps → Spells image qs → ps ≡ qs

-- The test grants exactly the bytes that spell pairs, with as many records as there are pairs.
abbrev pub TestIsSpelling : Type 0
TestIsSpelling = (image : Bytes) (ps : Pairs) → Spells image ps ↔ ((n : ℕ) × (sound image n ≡ true) × (ps ≡ listed image 0 n))
