use Rattle.std.proofs.Common.{sym}
use Rattle.keys.proofs.KeyTexts.{held_text}
use Rattle.keys.proofs.store_key.make.held.Goals as goal

pub returns : goal.returns
returns g c =
    held_text g.row.N c.args.trailing c.args.text.now (sym c.if-not-is_well_formed.ensures) c.of.result c.of.ensures c.ok_or.result c.ok_or.ensures.value
