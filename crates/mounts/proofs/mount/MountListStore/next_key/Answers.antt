use Rattle.std.proofs.Common.{◌≡◌, ◌-◌, ◌<◌, ◌≤◌, Bool, ◌++◌, length, take, replicate, sym, refl, ap, ◌∙◌, arith}
use Rattle.text.specs.Bytes.{Bytes}
use Rattle.keys.specs.Values.{prefix_text}
use Rattle.stores.specs.Pairs.{mounted, next_key}
use Rattle.stores.specs.Answers.{Found, guarded, fitted, answer, filled}
use Rattle.stores.proofs.Listings.{prefix_long}
use Rattle.mounts.specs.Fronts.{front_form, front_text, lawful_under}
use Rattle.mounts.proofs.Shown.{none_there, none_shown, empty_fills, below_found, key_holds, key_shows}
use Rattle.mounts.proofs.Refused.{refused}
use Rattle.mounts.proofs.mount.MountListStore.next_key.Goals as goal

pub returns-then-longest_key-front : goal.returns-then-longest_key-front
returns-then-longest_key-front g c =
    let m = c.args.self.now in
    let p = prefix_text m.front.now in
    let longest = g.S.ReadStore.longest m.store.now in
    let q = c.args.prefix.now in
    let x = c.args.after.now in
    let shown = mounted p (g.S.ReadStore.pairs m.store.now) in
    let z : longest - length p ≡ 0 = let a = c.longest_key.ensures in let b = ap length c.as_bytes-front.ensures in omega arith in
    let l = lawful_under m.front.now (g.S.ReadStore.lawful m.store.now) in
    let e = none_shown (longest - length p) (length c.args.buf.now) q (next_key q x shown) z (ap (next_key q x) (none_there (longest - length p) shown z l.keys)) in
    record { answers = c.list_none.ensures ∙ ap answer (sym e); fills = sym (ap (λ (f : Found). filled f c.args.buf.now) e ∙ empty_fills q c.args.buf.now) }

pub hand_on-requires : goal.hand_on-requires
hand_on-requires g c =
    let m = c.args.self.now in
    let p = prefix_text m.front.now in
    let longest = g.S.ReadStore.longest m.store.now in
    let ps = g.S.ReadStore.pairs m.store.now in
    let q = c.args.prefix.now in
    let x = c.args.after.now in
    let front : c.as_bytes-front.result.now ≡ p = c.as_bytes-front.ensures in
    let r : length p < longest = let a = c.longest_key.ensures in let b = ap length front in omega arith in
    let whole : c.as_bytes.result.now ≡ p ++ q = c.as_bytes.ensures ∙ c.in_ok-whole.ensures in
    let from : c.as_bytes-2.result.now ≡ take 400 (p ++ x) = c.as_bytes-2.ensures ∙ c.joined_cut-from.ensures ∙ ap (λ (t : Bytes). take 400 (t ++ x)) front in
    let e = below_found (replicate 400 0) longest p q x ps 0 c.as_bytes.result.now c.as_bytes-2.result.now c.as_bytes-front.result.now c.next_key-seen.new.buf c.next_key-seen.result (front_form m.front.now) (front_text m.front.now) r (g.S.ReadStore.lawful m.store.now) whole from refl in
    key_holds (replicate 400 0) longest p q x ps 0 c.as_bytes.result.now c.as_bytes-2.result.now c.as_bytes-front.result.now c.next_key-seen.new.buf c.next_key-seen.result e front c.next_key-seen.ensures.answers c.next_key-seen.ensures.fills

pub returns : goal.returns
returns g c =
    let m = c.args.self.now in
    let p = prefix_text m.front.now in
    let longest = g.S.ReadStore.longest m.store.now in
    let ps = g.S.ReadStore.pairs m.store.now in
    let q = c.args.prefix.now in
    let x = c.args.after.now in
    let n = length c.args.buf.now in
    let front : c.as_bytes-front.result.now ≡ p = c.as_bytes-front.ensures in
    let r : length p < longest = let a = c.longest_key.ensures in let b = ap length front in omega arith in
    let whole : c.as_bytes.result.now ≡ p ++ q = c.as_bytes.ensures ∙ c.in_ok-whole.ensures in
    let from : c.as_bytes-2.result.now ≡ take 400 (p ++ x) = c.as_bytes-2.ensures ∙ c.joined_cut-from.ensures ∙ ap (λ (t : Bytes). take 400 (t ++ x)) front in
    let e = below_found (replicate 400 0) longest p q x ps n c.as_bytes.result.now c.as_bytes-2.result.now c.as_bytes-front.result.now c.next_key-seen.new.buf c.next_key-seen.result (front_form m.front.now) (front_text m.front.now) r (g.S.ReadStore.lawful m.store.now) whole from refl in
    let f = key_shows (replicate 400 0) longest p q x ps n c.as_bytes.result.now c.as_bytes-2.result.now c.as_bytes-front.result.now c.next_key-seen.new.buf c.next_key-seen.result e front c.next_key-seen.ensures.answers c.next_key-seen.ensures.fills in
    record { answers = c.hand_on.ensures.answers ∙ ap answer f; fills = c.hand_on.ensures.fills ∙ ap (λ (d : Found). filled d c.args.buf.now) f }

pub returns-in_err-whole : goal.returns-in_err-whole
returns-in_err-whole g c =
    let m = c.args.self.now in
    let p = prefix_text m.front.now in
    let longest = g.S.ReadStore.longest m.store.now in
    let ps = g.S.ReadStore.pairs m.store.now in
    let q = c.args.prefix.now in
    let x = c.args.after.now in
    let n = length c.args.buf.now in
    let s : longest ≤ 400 = (g.S.ReadStore.lawful m.store.now).short in
    let r : length p < longest = let a = c.longest_key.ensures in let b = ap length c.as_bytes-front.ensures in omega arith in
    let w = c.in_err-whole.ensures in
    let e = ap (λ (w : Bool). guarded w (fitted n (next_key q x (mounted p ps)))) (prefix_long longest p q s r w.1) in
    record { answers = refused c.from_residual.result c.in_err-whole.field-0.0 c.from_residual.ensures.1 w.0 ∙ ap answer (sym e); fills = ap (λ (f : Found). filled f c.args.buf.now) (sym e) }
