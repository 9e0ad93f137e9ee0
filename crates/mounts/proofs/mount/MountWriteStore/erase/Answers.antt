use Rattle.std.proofs.Common.{◌≡◌, ◌++◌, Result, refl, sym, ◌∙◌, subst}
use Rattle.keys.specs.declared.fault.StoreFault.{StoreFault}
use Rattle.text.specs.Bytes.{Bytes}
use Rattle.keys.specs.Values.{prefix_text}
use Rattle.stores.specs.Meaning.{Meaning, means, view, Erase}
use Rattle.stores.proofs.Views.{erase_view, erase_long}
use Rattle.mounts.proofs.Outside.{outside_erase}
use Rattle.mounts.specs.Fronts.{front_form, front_text}
use Rattle.mounts.proofs.Refused.{refused}
use Rattle.mounts.proofs.mount.MountWriteStore.erase.Goals as goal

pub returns : goal.returns
returns g c =
    let m = c.args.self.now in
    let t = c.erase.new.self in
    let p = prefix_text m.front.now in
    let k = c.args.key.now in
    let before : Meaning = means (g.S.ReadStore.pairs m.store.now) (g.S.ReadStore.longest m.store.now) (g.S.WriteStore.takes m.store.now) (g.S.WriteStore.lets m.store.now) in
    let after : Meaning = means (g.S.ReadStore.pairs t) (g.S.ReadStore.longest t) (g.S.WriteStore.takes t) (g.S.WriteStore.lets t) in
    let w : c.as_bytes.result.now ≡ p ++ k = c.as_bytes.ensures ∙ c.in_ok-whole.ensures in
    let s : Erase (p ++ k) before after c.erase.result = subst (λ (x : Bytes). Erase x before after c.erase.result) w c.erase.ensures.means in
    record { ties = (refl, refl, c.erase.ensures.ties, outside_erase p k before after c.erase.result s); means = erase_view p k before after c.erase.result (front_form m.front.now) (front_text m.front.now) s }

pub returns-in_err-whole : goal.returns-in_err-whole
returns-in_err-whole g c =
    let m = c.args.self.now in
    let p = prefix_text m.front.now in
    let k = c.args.key.now in
    let below : Meaning = means (g.S.ReadStore.pairs m.store.now) (g.S.ReadStore.longest m.store.now) (g.S.WriteStore.takes m.store.now) (g.S.WriteStore.lets m.store.now) in
    let w = c.in_err-whole.ensures in
    let e = refused c.from_residual.result c.in_err-whole.field-0.0 c.from_residual.ensures.1 w.0 in
    record { ties = (refl, refl, g.S.WriteStore.still m.store.now, λ j h. refl); means = subst (λ (r : Result Unit StoreFault). Erase k (view p below) (view p below) r) (sym e) (erase_long p k below (g.S.ReadStore.lawful m.store.now).short w.1) }
