use Rattle.std.proofs.Common.{◌≡◌, ◌-◌, ◌++◌, length, sym, ap, ◌∙◌}
use Rattle.text.specs.Bytes.{Bytes}
use Rattle.keys.specs.Values.{prefix_text}
use Rattle.stores.specs.Pairs.{mounted}
use Rattle.stores.specs.Answers.{Found, got, answer, filled}
use Rattle.stores.proofs.Mounts.{got-mounted, got_long}
use Rattle.mounts.specs.Fronts.{front_form, front_text}
use Rattle.mounts.proofs.Refused.{refused}
use Rattle.mounts.proofs.mount.MountReadStore.get.Goals as goal

pub returns : goal.returns
returns g c =
    let m = c.args.self.now in
    let p = prefix_text m.front.now in
    let longest = g.S.ReadStore.longest m.store.now in
    let ps = g.S.ReadStore.pairs m.store.now in
    let k = c.args.key.now in
    let n = length c.args.buf.now in
    let w : c.as_bytes.result.now ≡ p ++ k = c.as_bytes.ensures ∙ c.in_ok-whole.ensures in
    let e : got longest ps c.as_bytes.result.now n ≡ got (longest - length p) (mounted p ps) k n =
    ap (λ (t : Bytes). got longest ps t n) w ∙ sym (got-mounted longest p k ps n (front_form m.front.now) (front_text m.front.now)) in
    record { answers = c.get.ensures.answers ∙ ap answer e; fills = c.get.ensures.fills ∙ ap (λ (f : Found). filled f c.args.buf.now) e }

pub returns-in_err-whole : goal.returns-in_err-whole
returns-in_err-whole g c =
    let m = c.args.self.now in
    let p = prefix_text m.front.now in
    let longest = g.S.ReadStore.longest m.store.now in
    let w = c.in_err-whole.ensures in
    let e = got_long longest p c.args.key.now (mounted p (g.S.ReadStore.pairs m.store.now)) (length c.args.buf.now) (g.S.ReadStore.lawful m.store.now).short w.1 in
    record { answers = refused c.from_residual.result c.in_err-whole.field-0.0 c.from_residual.ensures.1 w.0 ∙ ap answer (sym e); fills = ap (λ (f : Found). filled f c.args.buf.now) (sym e) }
