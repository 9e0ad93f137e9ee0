use Rattle.std.proofs.Common.{false, unwrap_or, sym, refl}
use Rattle.stores.specs.Meaning.{Meaning, means}
use Rattle.images.specs.Spells.{listed}
use Rattle.images.proofs.Refusing.{set_malformed, set_refused}
use Rattle.images.proofs.store.ImageWriteStore.set.Goals as goal

pub returns-then-not-is_key : goal.returns-then-not-is_key
returns-then-not-is_key c =
    let s = c.args.self.now in
    let m : Meaning = means (listed s.bytes.now 0 (unwrap_or s.count 0)) 400 (λ _ _. false) (λ _. false) in
    record { ties = refl; means = set_malformed c.args.key.now c.args.value.now m (sym c.if-not-is_key.ensures) }

pub returns : goal.returns
returns c =
    let s = c.args.self.now in
    let m : Meaning = means (listed s.bytes.now 0 (unwrap_or s.count 0)) 400 (λ _ _. false) (λ _. false) in
    record { ties = refl; means = set_refused c.args.key.now c.args.value.now m (sym c.if-not-is_key.ensures) refl }
