-- The lines that a script's calls are answered with.
-- Assumes nothing.
use Rattle.std.specs.Prelude.{◌≡◌, ℕ, ◌<◌, true, [], ◌∷◌, ◌++◌, length, take, Some, None, Ok, Err, codes, decimal, Option, Result, is_some}
use Rattle.text.specs.Bytes.{Bytes}
use Rattle.text.specs.Faults.{fault_text}
use Rattle.text.specs.declared.fault.FaultReport.{FaultReport}
use Rattle.printing.specs.Shown.{quoted}

-- `ok`
abbrev pub ok_line : Bytes
ok_line = codes "ok" ++ (10 ∷ [])

-- `none`
abbrev pub none_line : Bytes
none_line = codes "none" ++ (10 ∷ [])

-- `ok "BYTES"`
abbrev pub bytes_line : Bytes → Bytes
bytes_line t = codes "ok " ++ (quoted t ++ (10 ∷ []))

-- `fault NUMBER LAYER POSITION`
abbrev pub fault_line : FaultReport → Bytes
fault_line f = fault_text f ++ (10 ∷ [])

-- `unknown` and the number of the line
abbrev pub unknown_line : ℕ → Bytes
unknown_line n = codes "unknown " ++ (decimal n ++ (10 ∷ []))

-- a call that answers nothing, or bytes, or none
abbrev pub done_line : {E : Type 0} → (E → FaultReport) → Result Unit E → Bytes
done_line told (Ok u) = ok_line
done_line told (Err e) = fault_line (told e)

abbrev pub found_line : {E : Type 0} → (E → FaultReport) → Bytes → Result (Option ℕ) E → Bytes
found_line told buffer (Ok None) = none_line
found_line told buffer (Ok (Some n)) = bytes_line (take n buffer)
found_line told buffer (Err e) = fault_line (told e)

-- where a line asks for something else, it is no longer left
abbrev pub FewerLeft : {A : Type 0} → Option A → Bytes → Bytes → Type 0
FewerLeft other before after = is_some other ≡ true → length after < length before
