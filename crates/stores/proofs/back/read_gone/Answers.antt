use Rattle.std.proofs.Common.{length, refl}
use Rattle.stores.proofs.Changes.{erase_then_get_lem}
use Rattle.stores.proofs.back.read_gone.Goals as goal

pub returns : goal.returns
returns g c =
    let n = length c.args.buf.now in
    let e = erase_then_get_lem c.args.key.now _ _ c.erase.result n (g.S.ReadStore.lawful c.args.store.now) c.erase.ensures.means c.in_ok-erase.was in
    record {
      ties = c.erase.ensures.ties;
      answers = rw (c.get.ensures.answers, e) refl;
      keeps = rw (c.get.ensures.answers, c.get.ensures.fills, e) refl;
    }
