use Rattle.std.proofs.Common.{true, false, leb, length, ◌+◌, refl, sym, ◌∙◌, arith}
use Rattle.images.proofs.Reading.{pair_short, pair_other, pair_here}
use Rattle.images.proofs.records.has_pair.Goals.{then-saturating_sub-lt-RECORD-via-then-saturating_sub-lt-RECORD, then-saturating_sub-lt-RECORD-via-else-saturating_sub-lt-RECORD+then-image-at-ne1}
use Rattle.images.proofs.records.has_pair.Goals as goal

pub returns-then-saturating_sub-lt-RECORD : goal.returns-then-saturating_sub-lt-RECORD
returns-then-saturating_sub-lt-RECORD c =
    elim c.then-saturating_sub-lt-RECORD.branch [
      | then-saturating_sub-lt-RECORD-via-then-saturating_sub-lt-RECORD w ↦ sym (pair_short c.args.image.now c.args.at (omega arith))
      | then-saturating_sub-lt-RECORD-via-else-saturating_sub-lt-RECORD+then-image-at-ne1 w ↦ sym (pair_other c.args.image.now c.args.at w.if-image-at-ne1.true)
    ]

pub returns-then-inside : goal.returns-then-inside
returns-then-inside c =
    pair_here c.args.image.now c.args.at c.long-key_place.result c.short-key_len.result c.long-value_place.result c.long-value_len.result true c.inside-then-inside.result
    (omega arith) c.if-image-at-ne1.false
    c.long-key_place.ensures.is c.short-key_len.ensures.is c.long-value_place.ensures.is c.long-value_len.ensures.is c.if-inside.ensures c.inside-then-inside.ensures

pub returns-else-inside : goal.returns-else-inside
returns-else-inside c =
    c.if-inside.false
    ∙ pair_here c.args.image.now c.args.at c.long-key_place.result c.short-key_len.result c.long-value_place.result c.long-value_len.result false (leb (c.long-value_place.result + c.long-value_len.result) (length c.args.image.now))
    (omega arith) c.if-image-at-ne1.false
    c.long-key_place.ensures.is c.short-key_len.ensures.is c.long-value_place.ensures.is c.long-value_len.ensures.is c.if-inside.ensures refl
