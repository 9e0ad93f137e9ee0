-- What a word of the code means: the bytes that it writes.
-- Assumes nothing.
use Rattle.std.specs.Prelude.{[], Some, None, Option}
use Rattle.text.specs.Bytes.{Bytes}
use Rattle.lines.specs.Words.{spelled}
use Rattle.lines.specs.declared.word.Word.{Word}

abbrev pub or_empty : Option Bytes → Bytes
or_empty (Some t) = t
or_empty None = []

abbrev pub bytes_of : Word → Bytes
bytes_of w = or_empty (spelled w.text.now)

abbrev pub spoken : Option Word → Option Bytes
spoken (Some w) = Some (bytes_of w)
spoken None = None
