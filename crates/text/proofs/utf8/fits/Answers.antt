use Rattle.std.proofs.Common.{ℕ, ◌∙◌, rules, tests, arith}
use Rattle.std.proofs.lemmas.Iterator.{YieldsList-from_slice, YieldsList-from_zip}
use Rattle.std.proofs.lemmas.Iterator.Search.{all_from_yields_List}
use Rattle.std.proofs.lemmas.Bool.Decides.{nat_tests}
use Rattle.text.specs.Rows.{range_of}
use Rattle.text.specs.Utf8.{inside}
use Rattle.text.specs.declared.utf8.ByteRange.{ByteRange}
use Rattle.text.proofs.Rows.{too_short, all_inside}
use Rattle.text.proofs.utf8.fits.Goals as goal

pub returns-then-row-bytes : goal.returns-then-row-bytes
returns-then-row-bytes c =
    all_from_yields_List (λ (p : ByteRange × ℕ). inside (range_of p.0) p.1) c.all.new.self _ _ c.all.ensures.ran (YieldsList-from_zip (YieldsList-from_slice c.args.row.now cc) (YieldsList-from_slice c.args.bytes.now cc)) (λ x b q k. search (rules, tests))
    ∙ all_inside c.args.row.now c.args.bytes.now c.if-row-bytes.true

pub returns-else-row-bytes : goal.returns-else-row-bytes
returns-else-row-bytes c = let w = too_short c.args.row.now c.args.bytes.now (omega arith) in grind (arith, nat_tests)
