use Rattle.std.proofs.Common.{◌≡◌, ◌++◌, Result, refl, sym, ◌∙◌, subst}
use Rattle.keys.specs.declared.fault.StoreFault.{StoreFault}
use Rattle.text.specs.Bytes.{Bytes}
use Rattle.keys.specs.Values.{prefix_text}
use Rattle.stores.specs.Meaning.{Meaning, means, view, Set}
use Rattle.stores.proofs.Views.{set_view, set_long}
use Rattle.mounts.proofs.Outside.{outside_set}
use Rattle.mounts.specs.Fronts.{front_form, front_text}
use Rattle.mounts.proofs.Refused.{refused}
use Rattle.mounts.proofs.mount.MountWriteStore.set.Goals as goal

pub returns : goal.returns
returns g c =
    let m = c.args.self.now in
    let t = c.set.new.self in
    let p = prefix_text m.front.now in
    let k = c.args.key.now in
    let before : Meaning = means (g.S.ReadStore.pairs m.store.now) (g.S.ReadStore.longest m.store.now) (g.S.WriteStore.takes m.store.now) (g.S.WriteStore.lets m.store.now) in
    let after : Meaning = means (g.S.ReadStore.pairs t) (g.S.ReadStore.longest t) (g.S.WriteStore.takes t) (g.S.WriteStore.lets t) in
    let w : c.as_bytes.result.now ≡ p ++ k = c.as_bytes.ensures ∙ c.in_ok-whole.ensures in
    let s : Set (p ++ k) c.args.value.now before after c.set.result = subst (λ (x : Bytes). Set x c.args.value.now before after c.set.result) w c.set.ensures.means in
    record { ties = (refl, refl, c.set.ensures.ties, outside_set p k c.args.value.now before after c.set.result s); means = set_view p k c.args.value.now before after c.set.result (front_form m.front.now) (front_text m.front.now) (g.S.ReadStore.lawful m.store.now).ascends s }

pub returns-in_err-whole : goal.returns-in_err-whole
returns-in_err-whole g c =
    let m = c.args.self.now in
    let p = prefix_text m.front.now in
    let k = c.args.key.now in
    let below : Meaning = means (g.S.ReadStore.pairs m.store.now) (g.S.ReadStore.longest m.store.now) (g.S.WriteStore.takes m.store.now) (g.S.WriteStore.lets m.store.now) in
    let w = c.in_err-whole.ensures in
    let e = refused c.from_residual.result c.in_err-whole.field-0.0 c.from_residual.ensures.1 w.0 in
    record { ties = (refl, refl, g.S.WriteStore.still m.store.now, λ j h. refl); means = subst (λ (r : Result Unit StoreFault). Set k c.args.value.now (view p below) (view p below) r) (sym e) (set_long p k c.args.value.now below (g.S.ReadStore.lawful m.store.now).short w.1) }
