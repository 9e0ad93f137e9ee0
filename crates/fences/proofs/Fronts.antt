-- Rows one by one, and one of them changed.
-- Assumes nothing.
use Rattle.std.proofs.Common.{◌≡◌, ℕ, zero, suc, ◌<◌, Bool, true, false, cond, ltb, List, [], ◌∷◌, length, get_or, set, Ok, Err, Result, MatchResult, IsErrAnd, sym, refl, ap, ◌∙◌, arith}
use Rattle.text.specs.Bytes.{Bytes}
use Rattle.keys.specs.declared.fault.StoreFault.{StoreFault}
use Rattle.keys.specs.declared.fault.StoreFault.TheVariants.{Malformed, Row as NoRow}
use Rattle.keys.specs.declared.store_key.StorePrefix.{StorePrefix}
use Rattle.keys.specs.Keys.{is_prefix, prefix_or_fault}
use Rattle.keys.specs.Values.{prefix_text, prefix_in}
use Rattle.fences.specs.declared.table.Row.{Row}
use Rattle.fences.specs.Rows.{Stake, stake, stake_of, stakes, raised, lowered, answered, rows_after}

pub stakes-set : (rows : List Row) (i : ℕ) (r : Row) → stakes (set rows i r) ≡ set (stakes rows) i (stake_of r)
stakes-set [] i r = refl
stakes-set (x ∷ rows) zero r = refl
stakes-set (x ∷ rows) (suc i) r = ap (λ (t : List Stake). stake_of x ∷ t) (stakes-set rows i r)

pub stakes_at : (rows : List Row) (i : ℕ) (d : Row) (s : Stake) → i < length rows → get_or (stakes rows) i s ≡ stake_of (get_or rows i d)
stakes_at [] i d s h = absurd (omega arith)
stakes_at (x ∷ rows) zero d s h = refl
stakes_at (x ∷ rows) (suc i) d s h = stakes_at rows i d s (omega arith)

-- ---- one row changed

both_of : (t : Bool) (p : Bytes) (k : StorePrefix) → Ok (prefix_text k) ≡ cond t (Ok p) (Err Malformed) → (t ≡ true) × (prefix_text k ≡ p)
both_of true p k e = (refl, cc)
both_of false p k e = absurd (cc)

none_of : (t : Bool) (p : Bytes) (r : Result StorePrefix StoreFault) → ((k : StorePrefix) → r ≡ Ok k → ⊥) → prefix_in r ≡ cond t (Ok p) (Err Malformed) → t ≡ false
none_of t p (Ok k) n e = absurd (n k refl)
none_of true p (Err f) n e = absurd (cc)
none_of false p (Err f) n e = refl

-- a prefix whose refusal is told as another
abbrev result_ok : StorePrefix → Result StorePrefix StoreFault
result_ok k = Ok k

abbrev result_err : StoreFault → Result StorePrefix StoreFault
result_err f = Err f

pub passed_on : (r : Result StorePrefix StoreFault) (k : StorePrefix) (x : Result Bytes StoreFault) → MatchResult r (λ j. result_ok k ≡ result_ok j) (λ e. ⊥) → prefix_in r ≡ x → prefix_in (Ok k) ≡ x
passed_on (Ok j) k x m e = ap prefix_in m ∙ e
passed_on (Err f) k x m e = absurd m

pub not_ok : (r : Result StorePrefix StoreFault) (f : StoreFault) (Q : StoreFault → Type 0) → MatchResult r (λ j. result_err f ≡ result_ok j) Q → (k : StorePrefix) → r ≡ Ok k → ⊥
not_ok (Ok j) f Q m k e = absurd (cc)
not_ok (Err d) f Q m k e = absurd (cc)

pub told_by : (r : Result StorePrefix StoreFault) (f : StoreFault) (Q : StoreFault → Type 0) (G : Type 0) → MatchResult r (λ j. result_err f ≡ result_ok j) Q → ((e : StoreFault) → Q e → G) → G
told_by (Ok j) f Q G m h = absurd (cc)
told_by (Err d) f Q G m h = h d m

pub row_refused : (r : Result Unit StoreFault) (f : StoreFault) → IsErrAnd r (λ e. e ≡ f) → f ≡ NoRow → r ≡ Err NoRow
row_refused (Ok u) f m e = absurd m
row_refused (Err d) f m e = ap (λ (x : StoreFault). Err x) (m ∙ e)

pub raises : (rows : List Row) (i : ℕ) (p : Bytes) (k : StorePrefix) → ltb i 16 ≡ true → prefix_in (Ok k) ≡ prefix_or_fault p → (Ok tt ≡ answered (raised (stakes rows) i p)) × (stakes (set rows i (record { raised = true; prefix = k })) ≡ rows_after (raised (stakes rows) i p) (stakes rows))
raises rows i p k l e =
    let w = both_of (is_prefix p) p k e in
    rw (l, w.0) (refl, stakes-set rows i (record { raised = true; prefix = k }) ∙ ap (λ (t : Bytes). set (stakes rows) i (stake true t)) w.1)

pub raise_malformed : (rows : List Row) (i : ℕ) (p : Bytes) (r : Result StorePrefix StoreFault) → ltb i 16 ≡ true → ((k : StorePrefix) → r ≡ Ok k → ⊥) → prefix_in r ≡ prefix_or_fault p → (Err NoRow ≡ answered (raised (stakes rows) i p)) × (stakes rows ≡ rows_after (raised (stakes rows) i p) (stakes rows))
raise_malformed rows i p r l n e = let w : is_prefix p ≡ false = none_of (is_prefix p) p r n e in rw (l, w) (refl, refl)

pub lowers : (rows : List Row) (i : ℕ) (d : Row) → ltb i 16 ≡ true → i < length rows → (Ok tt ≡ answered (lowered (stakes rows) i)) × (stakes (set rows i (record { raised = false; prefix = (get_or rows i d).prefix })) ≡ rows_after (lowered (stakes rows) i) (stakes rows))
lowers rows i d l h =
    rw l (refl, stakes-set rows i (record { raised = false; prefix = (get_or rows i d).prefix }) ∙ ap (λ (t : Stake). set (stakes rows) i (stake false t.prefix)) (sym (stakes_at rows i d (stake false []) h)))
