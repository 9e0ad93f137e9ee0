use Rattle.std.proofs.Common.{◌≡◌, ◌∙◌, ℕ, ◌-◌, ◌≤◌, List, length, drop, Bor, sym, ap, refl, length-drop, ltb-true, rules, tests, arith}
use Rattle.std.proofs.lemmas.Iterator.{YieldsList-from_slice}
use Rattle.std.proofs.lemmas.Iterator.Search.{find_from_yields_List}
use Rattle.std.proofs.lemmas.List.{take_all}
use Rattle.std.specs.Option.{option_map}
use Rattle.std.specs.List.{find, list_all, slice_range}
use Rattle.std.specs.Slice.Iter.{iter_rest}
use Rattle.text.specs.declared.utf8.ByteRange.{ByteRange}
use Rattle.text.specs.Bytes.{Bytes}
use Rattle.text.specs.Utf8.{rows, sequence_length, unless_zero}
use Rattle.text.proofs.Rows.{none_behind, no_row, a_row, row_asked, same_find_of, is_row, read, all_covered, wides}
use Rattle.text.proofs.utf8.sequence_len.Goals as goal

-- `get(at..)` gives all behind the place
all_behind : (s : Bytes) (at : ℕ) (t : Bytes) → t ≡ slice_range s at (length s) → t ≡ drop at s
all_behind s at t e = e ∙ take_all (length s - at) (drop at s) (simp length-drop (omega arith))

pub returns-in_err-bytes : goal.returns-in_err-bytes
returns-in_err-bytes c =
    let h : length c.args.s.now ≤ c.args.at = let l = c.in_err-bytes.ensures.lookup in grind arith in
    c.from_residual.ensures ∙ none_behind c.args.s.now c.args.at h

pub returns-in_err-first : goal.returns-in_err-first
returns-in_err-first c =
    let s = c.args.s.now in
    let t = c.in_ok-bytes.bytes.now in
    let empty : length t ≡ 0 = let l = c.in_err-first.ensures.item in grind arith in
    let whole : length t ≡ length (drop c.args.at s) = ap length (all_behind s c.args.at t c.in_ok-bytes.ensures.lookup.0.2) in
    let behind = length-drop c.args.at s in
    c.from_residual-in_err-first.ensures ∙ none_behind s c.args.at (omega arith)

pub returns-in_err-row : goal.returns-in_err-row
returns-in_err-row c =
    let t = c.in_ok-bytes.bytes.now in
    let n = c.width-n.result in
    let rest = iter_rest c.iter.result in
    let asked : option_map (λ (r : Bor (Bor (List ByteRange))). r.now) c.find.result ≡ find (row_asked n t) rest = find_from_yields_List (row_asked n t) c.find.new.self _ c.find.result c.find.ensures.ran (YieldsList-from_slice rest refl) (λ x b q k. search (rules, tests)) in
    let there = c.in_ok-first.ensures.item in
    let first = asked ∙ same_find_of n c.in_ok-first.field-0.now t rest (ltb-true 0 (length t) (sym there.0)) there.1 c.width-n.ensures (ap (λ r. wides (read r)) c.iter.ensures.rest) in
    c.from_residual-in_err-row.ensures
    ∙ no_row t rest (ap (λ r. all_covered rows (read r)) c.iter.ensures.rest) (sym first ∙ ap (option_map (λ (r : Bor (Bor (List ByteRange))). r.now)) c.in_err-row.was)
    ∙ ap (λ (u : Bytes). unless_zero (sequence_length u)) (all_behind c.args.s.now c.args.at t c.in_ok-bytes.ensures.lookup.0.2)

pub returns : goal.returns
returns c =
    let t = c.in_ok-bytes.bytes.now in
    let n = c.width-n.result in
    let rest = iter_rest c.iter.result in
    let asked : option_map (λ (r : Bor (Bor (List ByteRange))). r.now) c.find.result ≡ find (row_asked n t) rest = find_from_yields_List (row_asked n t) c.find.new.self _ c.find.result c.find.ensures.ran (YieldsList-from_slice rest refl) (λ x b q k. search (rules, tests)) in
    let there = c.in_ok-first.ensures.item in
    let first = asked ∙ same_find_of n c.in_ok-first.field-0.now t rest (ltb-true 0 (length t) (sym there.0)) there.1 c.width-n.ensures (ap (λ r. wides (read r)) c.iter.ensures.rest) in
    a_row t rest (ap read c.iter.ensures.rest) (ap (list_all is_row) c.iter.ensures.rest) c.in_ok-row.row.now (sym first ∙ ap (option_map (λ (r : Bor (Bor (List ByteRange))). r.now)) c.in_ok-row.was)
    ∙ ap (λ (u : Bytes). unless_zero (sequence_length u)) (all_behind c.args.s.now c.args.at t c.in_ok-bytes.ensures.lookup.0.2)
