use Rattle.std.proofs.Common.{◌∙◌}
use Rattle.text.proofs.Rows.{or_zero}
use Rattle.printing.proofs.Showing.{ends, one_more}
use Rattle.printing.proofs.shown.push_shown.Goals as goal

pub split_at-requires : goal.split_at-requires
split_at-requires c = ends _ _ _ c.in-len1-up.len_at_least (or_zero _ _ _ c.sequence_len-length.ensures c.unwrap_or.ensures) c.saturating_sub.ensures

pub loop-rest-preserved : goal.loop-rest-preserved
loop-rest-preserved c =
    one_more _ _ _ c.loop-rest.rest.now _ _ _ _ _ c.in-len1-up.len_at_least c.sequence_len-length.ensures (or_zero _ _ _ c.sequence_len-length.ensures c.unwrap_or.ensures) c.saturating_sub.ensures c.in_ok-push_first.ensures
    c.split_at.ensures.front c.split_at.ensures.back c.in_ok-extend_from_slice.ensures.items
    ∙ c.loop-rest.invariant
