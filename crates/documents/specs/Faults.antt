-- What is told of a refused document: number, layer and position.
-- Assumes nothing.
use Rattle.std.specs.Prelude.{ℕ, List}
use Rattle.text.specs.declared.fault.FaultReport.{FaultReport}
use Rattle.text.specs.declared.fault.Layer.TheVariants.{Document}
use Rattle.grammar.specs.Laws.{Refused}
use Rattle.documents.specs.declared.fault.DocumentFault.{DocumentFault}
use Rattle.documents.specs.declared.fault.DocumentFault.TheVariants.{Syntax, Form, Deep}

-- 31: no permitted text, with the length of the longest start that some permitted text continues; 32: another form than is asked for; 44: put together from others, and nested too deep
abbrev pub document_number : DocumentFault → ℕ
document_number (Syntax n) = 31
document_number Form = 32
document_number Deep = 44

abbrev pub document_position : DocumentFault → ℕ
document_position (Syntax n) = n
document_position Form = 0
document_position Deep = 0

abbrev pub told_of_document : DocumentFault → FaultReport
told_of_document e = record { number = document_number e; layer = Document; position = document_position e }

-- The fault of bytes that are no permitted text: its position is the length of their longest start that some permitted text continues.
abbrev pub FaultOf : List ℕ → DocumentFault → Type 0
FaultOf s (Syntax n) = Refused s n
FaultOf s Form = ⊥
FaultOf s Deep = ⊥
