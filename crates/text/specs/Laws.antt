-- What the definitions of bytes and text amount to, in plain words, so that a contract can name it.
-- Assumes nothing.
use Rattle.std.specs.Prelude.{◌≡◌, true, false, ◌⊎◌, ◌↔◌, IsUtf8}
use Rattle.text.specs.Bytes.{Bytes, before}
use Rattle.text.specs.Utf8.{Text, is_text}

-- The order by bytes is a strict total order: no text comes before itself, what comes before what comes before a third comes before that, and of two different texts one comes first.
pub record ByteOrderIsTotal : Type 0 where
  pub alone : (x : Bytes) → before x x ≡ false
  pub chain : (x y z : Bytes) → before x y ≡ true → before y z ≡ true → before x z ≡ true
  pub either : (x y : Bytes) → (before x y ≡ true) ⊎ ((x ≡ y) ⊎ (before y x ≡ true))

-- The test grants exactly the sequences of the table's rows, one after the other.
abbrev pub TestIsTable : Type 0
TestIsTable = (t : Bytes) → (is_text t ≡ true) ↔ Text t

-- It grants exactly what the language's own library calls UTF-8: the encodings of some Unicode scalar values, one after the other.
abbrev pub TestIsLibrary : Type 0
TestIsLibrary = (t : Bytes) → (is_text t ≡ true) ↔ IsUtf8 t
