use Rattle.std.proofs.Common.{false, unwrap_or, sym, refl}
use Rattle.stores.specs.Meaning.{Meaning, means}
use Rattle.images.specs.Spells.{listed}
use Rattle.images.proofs.Refusing.{erase_malformed, erase_refused, erase_absent_lem}
use Rattle.images.proofs.store.ImageWriteStore.erase.Goals as goal

pub returns-then-not-is_key : goal.returns-then-not-is_key
returns-then-not-is_key c =
    let s = c.args.self.now in
    let m : Meaning = means (listed s.bytes.now 0 (unwrap_or s.count 0)) 400 (λ _ _. false) (λ _. false) in
    record { ties = refl; means = erase_malformed c.args.key.now m (sym c.if-not-is_key.ensures) }

pub returns-in-None : goal.returns-in-None
returns-in-None c =
    let s = c.args.self.now in
    let m : Meaning = means (listed s.bytes.now 0 (unwrap_or s.count 0)) 400 (λ _ _. false) (λ _. false) in
    record { ties = refl; means = erase_absent_lem c.args.key.now m (sym c.if-not-is_key.ensures) c.in-None.ensures }

pub returns-in-Some : goal.returns-in-Some
returns-in-Some c =
    let s = c.args.self.now in
    let m : Meaning = means (listed s.bytes.now 0 (unwrap_or s.count 0)) 400 (λ _ _. false) (λ _. false) in
    record { ties = refl; means = erase_refused c.args.key.now _ m (sym c.if-not-is_key.ensures) c.in-Some.ensures.2 refl }
