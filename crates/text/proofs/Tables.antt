-- The test and the table: it grants sequences of the rows, one after the other, and nothing else.
-- Assumes nothing.
use Rattle.std.proofs.Common.{◌≡◌, ℕ, suc, Bool, true, false, cond, List, [], ◌∷◌, ◌++◌, length, take, refl, ap, ◌∙◌, subst, inl, inr, arith}
use borrow.Author.Tests.{both_ways, clash}
use Rattle.text.specs.Bytes.{Bytes}
use Rattle.text.specs.Utf8.{Range, inside, rows, of_row, In, Text, begins, behind, is_text_in, is_text, length_in, sequence_length}
use Rattle.text.specs.Utf8.Text.{nothing, sequence}
use Rattle.text.proofs.Rows.{rising, rises, none_begins}
use Rattle.text.proofs.Texts.{both, and, inside_low, text_append}

-- a row that some byte begins is the one that the test takes
the_row : (h : ℕ) (ms : List (List Range)) (r : Range) (p : List Range) (b : ℕ) → rising h ms ≡ true → In (r ∷ p) ms → inside r b ≡ true → (begins ms b ≡ true) × (behind ms b ≡ p)
the_row h [] r p b up i e = absurd i
the_row h ([] ∷ more) r p b up i e = absurd (clash up)
the_row h ((q ∷ w) ∷ more) r p b up (inl i) e =
    let same : q ≡ r = cc in
    let t : inside q b ≡ true = ap (λ x. inside x b) same ∙ e in
    let rest : w ≡ p = cc in
    (rw t, rw t rest)
the_row h ((q ∷ w) ∷ more) r p b up (inr i) e =
    let s = rises h q w more up in
    later s.2 (the_row (suc q.high) more r p b s.2 i e) (inside q b) refl
  where
    later : rising (suc q.high) more ≡ true → (begins more b ≡ true) × (behind more b ≡ p) → (x : Bool) → inside q b ≡ x → (begins ((q ∷ w) ∷ more) b ≡ true) × (behind ((q ∷ w) ∷ more) b ≡ p)
    later go found true t =
        let in' = inside_low q b t in
        absurd (both_ways (begins more b) (none_begins (suc q.high) b more go (omega arith)) found.0)
    later go found false t = (rw t found.0, rw t found.1)

run_of : (p : List Range) (s : Bytes) → of_row p s ≡ true → is_text_in p s ≡ true
run_of [] [] e = refl
run_of [] (b ∷ s) e = absurd (clash e)
run_of (r ∷ p) [] e = e
run_of (r ∷ p) (b ∷ s) e =
    let w = both (inside r b) (of_row p s) e in and (inside r b) (is_text_in p s) w.0 (run_of p s w.1)

-- a sequence of a row is text
pub row_text_lem : (row : List Range) (s : Bytes) → In row rows → of_row row s ≡ true → is_text s ≡ true
row_text_lem [] s i e = run_of [] s e
row_text_lem (r ∷ p) [] i e = absurd (clash e)
row_text_lem (r ∷ p) (b ∷ s) i e =
    let w = both (inside r b) (of_row p s) e in
    let f = the_row 0 rows r p b refl i w.0 in
    and (begins rows b) (is_text_in (behind rows b) s) f.0 (ap (λ x. is_text_in x s) f.1 ∙ run_of p s w.1)

pub from_text : (t : Bytes) → Text t → is_text t ≡ true
from_text _ nothing = refl
from_text _ (sequence row s t i e rest) = text_append s t (row_text_lem row s i e) ∙ from_text t rest

-- ---- and back
first_row : (ms : List (List Range)) (b : ℕ) → begins ms b ≡ true → (r : Range) × (In (r ∷ behind ms b) ms × (inside r b ≡ true))
first_row [] b e = absurd (clash e)
first_row ([] ∷ more) b e = let w = first_row more b e in (w.0, (inr w.1.0, w.1.1))
first_row ((r ∷ p) ∷ more) b e =
    (elim (inside r b) as (λ x. inside r b ≡ x → cond x true (begins more b) ≡ true → (q : Range) × (In (q ∷ cond x p (behind more b)) ((r ∷ p) ∷ more) × (inside q b ≡ true))) [
      | true ↦ λ i t. (r, (inl refl, i))
      | false ↦ λ i t. let w = first_row more b t in (w.0, (inr w.1.0, w.1.1))
    ]) refl e

-- what the pending ranges ask for, and text behind it
record Split (p : List Range) (t : Bytes) : Type 0 where
  front : Bytes
  back : Bytes
  whole : front ++ back ≡ t
  of : of_row p front ≡ true
  text : Text back

run-split : (p : List Range) (t : Bytes) → is_text_in p t ≡ true → Split p t
run-split [] [] e = record { front = []; back = []; whole = refl; of = refl; text = nothing }
run-split (r ∷ p) [] e = absurd (clash e)
run-split (r ∷ p) (b ∷ t) e =
    let s = both (inside r b) (is_text_in p t) e in
    let w = run-split p t s.1 in
    record { front = b ∷ w.front; back = w.back; whole = ap (λ l. b ∷ l) w.whole; of = and (inside r b) (of_row p w.front) s.0 w.of; text = w.text }
run-split [] (b ∷ t) e =
    let s = both (begins rows b) (is_text_in (behind rows b) t) e in
    let w = run-split (behind rows b) t s.1 in
    let f = first_row rows b s.0 in
    let here = sequence (f.0 ∷ behind rows b) (b ∷ w.front) w.back f.1.0 (and (inside f.0 b) (of_row (behind rows b) w.front) f.1.1 w.of) w.text in
    record { front = []; back = b ∷ t; whole = refl; of = refl; text = subst Text (ap (λ l. b ∷ l) w.whole) here }

pub to_text : (t : Bytes) → is_text t ≡ true → Text t
to_text t e = let w = run-split [] t e in by w.front w.back w.of w.whole w.text
  where
    by : (s u : Bytes) → of_row [] s ≡ true → s ++ u ≡ t → Text u → Text t
    by [] u o q x = subst Text q x
    by (b ∷ s) u o q x = absurd (clash o)

-- ---- the sequence in front is text
front_text : (ms : List (List Range)) (t : Bytes) → ((row : List Range) → In row ms → In row rows) → is_text (take (length_in ms t) t) ≡ true
front_text [] t f = refl
front_text (row ∷ more) t f =
    (elim (of_row row (take (length row) t)) as (λ x. of_row row (take (length row) t) ≡ x → is_text (take (cond x (length row) (length_in more t)) t) ≡ true) [
      | true ↦ λ e. row_text_lem row (take (length row) t) (f row (inl refl)) e
      | false ↦ λ e. front_text more t (λ w i. f w (inr i))
    ]) refl

pub sequence_text : (t : Bytes) → is_text (take (sequence_length t) t) ≡ true
unfolding sequence_length
sequence_text t = front_text rows t (λ row i. i)
