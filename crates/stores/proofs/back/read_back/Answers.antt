use Rattle.std.proofs.Common.{length}
use Rattle.stores.proofs.Readback.{read_after, made_fitted, made_filled}
use Rattle.stores.proofs.back.read_back.Goals as goal

pub returns : goal.returns
returns g c =
    let v = c.args.value.now in
    let n = length c.args.buf.now in
    let e = read_after c.args.key.now v _ _ c.set.result n c.set.ensures.means c.in_ok-set.was in
    record {
      ties = c.set.ensures.ties;
      answers = rw c.get.ensures.answers (made_fitted n v _ e);
      fills = rw (c.get.ensures.answers, c.get.ensures.fills) (made_filled n v c.args.buf.now _ e);
    }
