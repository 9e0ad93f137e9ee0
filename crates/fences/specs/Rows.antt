-- The rows of a fence: each has a prefix and is raised or lowered. A key is fenced if it begins with the prefix of a raised row.
-- Assumes nothing.
use Rattle.std.specs.Prelude.{ℕ, Bool, true, false, cond, ◌&&◌, List, [], ◌∷◌, is_some, Ok, Err, Result, nat_lt, slice_index_or, slice_set}
use Rattle.std.specs.List.{list_any}
use Rattle.text.specs.Bytes.{Bytes, stripped}
use Rattle.keys.specs.declared.fault.StoreFault.{StoreFault}
use Rattle.keys.specs.declared.fault.StoreFault.TheVariants.{Row as NoRow}
use Rattle.keys.specs.Keys.{is_prefix}
use Rattle.keys.specs.Values.{prefix_text}
use Rattle.fences.specs.declared.table.Row.{Row}

-- a row by its meaning
pub record Stake : Type 0 where
  pub raised : Bool
  pub prefix : Bytes

abbrev pub stake : Bool → Bytes → Stake
stake b p = record { raised = b; prefix = p }

abbrev pub stake_of : Row → Stake
stake_of r = stake r.raised (prefix_text r.prefix)

abbrev pub stakes : List Row → List Stake
stakes [] = []
stakes (r ∷ rs) = stake_of r ∷ stakes rs

abbrev pub covers : Stake → Bytes → Bool
covers r k = r.raised && is_some (stripped r.prefix k)

abbrev pub fenced : List Row → Bytes → Bool
fenced rows k = list_any (λ r. covers (stake_of r) k) rows

-- Raising a row gives it the prefix and raises it, and lowering one leaves its prefix; no other row is changed. A row past the last, 15, and a malformed prefix are refused.
abbrev pub raised : List Stake → ℕ → Bytes → Result (List Stake) StoreFault
raised ss i p = cond (nat_lt i 16 && is_prefix p) (Ok (slice_set ss i (stake true p))) (Err NoRow)

abbrev pub lowered : List Stake → ℕ → Result (List Stake) StoreFault
lowered ss i = cond (nat_lt i 16) (Ok (slice_set ss i (stake false (slice_index_or ss i (stake false [])).prefix))) (Err NoRow)

-- the answer in the code, and the rows after it
abbrev pub answered : Result (List Stake) StoreFault → Result Unit StoreFault
answered (Ok ss) = Ok tt
answered (Err e) = Err e

abbrev pub rows_after : Result (List Stake) StoreFault → List Stake → List Stake
rows_after (Ok ss) old = ss
rows_after (Err e) old = old
