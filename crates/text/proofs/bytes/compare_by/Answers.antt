use Rattle.std.proofs.Common.{◌≡◌, ◌∙◌, ℕ, Bor, not, cond, Bool, Less, Greater, sym, ap, lt-ltb, le-ltb, rules, tests, arith}
use Rattle.std.proofs.lemmas.Iterator.{YieldsList-from_slice, YieldsList-from_zip}
use Rattle.std.proofs.lemmas.Iterator.Search.{find_from_yields_List}
use Rattle.std.specs.List.{zip, find}
use Rattle.std.specs.Option.{option_map}
use Rattle.text.proofs.Shared.{alike, differs_at, differs_nowhere}
use Rattle.text.proofs.bytes.compare_by.Goals as goal

pub returns-in-None : goal.returns-in-None
returns-in-None g c =
    let f : option_map (λ (p : Bor ℕ × Bor ℕ). (p.0.now, p.1.now)) c.find.result ≡ find (λ p. not (alike p)) (zip c.args.a.now c.args.b.now) = find_from_yields_List (λ p. not (alike p)) c.find.new.self _ c.find.result c.find.ensures.ran (YieldsList-from_zip (YieldsList-from_slice c.args.a.now cc) (YieldsList-from_slice c.args.b.now cc)) (λ x b q k. search (rules, tests)) in
    c.cmp.ensures ∙ sym (differs_nowhere g.R.ByteRank.ranks c.args.a.now c.args.b.now (grind arith))

pub returns-then-rank : goal.returns-then-rank
returns-then-rank g c =
    let f : option_map (λ (p : Bor ℕ × Bor ℕ). (p.0.now, p.1.now)) c.find.result ≡ find (λ p. not (alike p)) (zip c.args.a.now c.args.b.now) = find_from_yields_List (λ p. not (alike p)) c.find.new.self _ c.find.result c.find.ensures.ran (YieldsList-from_zip (YieldsList-from_slice c.args.a.now cc) (YieldsList-from_slice c.args.b.now cc)) (λ x b q k. search (rules, tests)) in
    sym (differs_at g.R.ByteRank.ranks c.args.a.now c.args.b.now (c.in-Some.x.now, c.in-Some.y.now) (grind arith) ∙ ap (λ (z : Bool). cond z Less Greater) (lt-ltb (g.R.ByteRank.ranks c.in-Some.x.now) (g.R.ByteRank.ranks c.in-Some.y.now) (omega arith)))

pub returns-else-rank : goal.returns-else-rank
returns-else-rank g c =
    let f : option_map (λ (p : Bor ℕ × Bor ℕ). (p.0.now, p.1.now)) c.find.result ≡ find (λ p. not (alike p)) (zip c.args.a.now c.args.b.now) = find_from_yields_List (λ p. not (alike p)) c.find.new.self _ c.find.result c.find.ensures.ran (YieldsList-from_zip (YieldsList-from_slice c.args.a.now cc) (YieldsList-from_slice c.args.b.now cc)) (λ x b q k. search (rules, tests)) in
    sym (differs_at g.R.ByteRank.ranks c.args.a.now c.args.b.now (c.in-Some.x.now, c.in-Some.y.now) (grind arith) ∙ ap (λ (z : Bool). cond z Less Greater) (le-ltb (g.R.ByteRank.ranks c.in-Some.x.now) (g.R.ByteRank.ranks c.in-Some.y.now) (omega arith)))
