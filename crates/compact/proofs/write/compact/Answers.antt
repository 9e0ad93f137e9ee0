use Rattle.std.proofs.Common.{refl, arith}
use Rattle.compact.proofs.Copies.{too_long, written}
use Rattle.compact.proofs.write.compact.Goals as goal

pub returns-then-n-out : goal.returns-then-n-out
returns-then-n-out c = too_long c.args.doc.now c.args.out.now c.args.out.now c.squeezed_len-n.result c.in_ok-document.ensures c.squeezed_len-n.ensures (omega arith) refl

pub returns : goal.returns
returns c = written c.args.doc.now c.args.out.now _ c.squeezed_len-n.result c.in_ok-document.ensures c.squeezed_len-n.ensures (omega arith) c.squeeze.ensures
