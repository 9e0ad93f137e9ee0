use Rattle.std.proofs.Common.{length, inl, ap, arith}
use Rattle.compact.proofs.Copies.{squeezed_short}
use Rattle.compact.proofs.write.squeezed_len.Goals as goal

pub count-requires-clause-fits : goal.count-requires-clause-fits
count-requires-clause-fits c = inl (omega (arith, squeezed_short c.new.result.place c.new.result.rest.now, ap length c.new.ensures.rest))
