use Rattle.std.proofs.Common.{◌≡◌, ◌-◌, ◌<◌, ◌≤◌, Bool, ◌++◌, length, sym, ap, ◌∙◌, arith}
use Rattle.text.specs.Bytes.{Bytes}
use Rattle.keys.specs.Values.{prefix_text}
use Rattle.stores.specs.Pairs.{mounted, next_child}
use Rattle.stores.specs.Answers.{Found, guarded, fitted, child_after, answer, filled}
use Rattle.stores.proofs.Listings.{child_mounted, prefix_long}
use Rattle.mounts.specs.Fronts.{front_form, front_text, lawful_under}
use Rattle.mounts.proofs.Shown.{none_there, none_shown, empty_fills}
use Rattle.mounts.proofs.Refused.{refused}
use Rattle.mounts.proofs.mount.MountListStore.next_child.Goals as goal

pub returns-then-longest_key-as_bytes : goal.returns-then-longest_key-as_bytes
returns-then-longest_key-as_bytes g c =
    let m = c.args.self.now in
    let p = prefix_text m.front.now in
    let longest = g.S.ReadStore.longest m.store.now in
    let q = c.args.prefix.now in
    let x = c.args.after.now in
    let shown = mounted p (g.S.ReadStore.pairs m.store.now) in
    let z : longest - length p ≡ 0 = let a = c.longest_key.ensures in let b = ap length c.as_bytes.ensures in omega arith in
    let l = lawful_under m.front.now (g.S.ReadStore.lawful m.store.now) in
    let e = none_shown (longest - length p) (length c.args.buf.now) q (next_child q x shown) z (ap (next_child q x) (none_there (longest - length p) shown z l.keys)) in
    record { answers = c.list_none.ensures ∙ ap answer (sym e); fills = sym (ap (λ (f : Found). filled f c.args.buf.now) e ∙ empty_fills q c.args.buf.now) }

pub returns : goal.returns
returns g c =
    let m = c.args.self.now in
    let p = prefix_text m.front.now in
    let longest = g.S.ReadStore.longest m.store.now in
    let ps = g.S.ReadStore.pairs m.store.now in
    let q = c.args.prefix.now in
    let x = c.args.after.now in
    let n = length c.args.buf.now in
    let r : length p < longest = let a = c.longest_key.ensures in let b = ap length c.as_bytes.ensures in omega arith in
    let k : c.as_bytes-2.result.now ≡ p ++ q = c.as_bytes-2.ensures ∙ c.in_ok-whole.ensures in
    let e : child_after longest ps c.as_bytes-2.result.now x n ≡ child_after (longest - length p) (mounted p ps) q x n =
    ap (λ (t : Bytes). child_after longest ps t x n) k ∙ sym (child_mounted longest p q x ps n (front_form m.front.now) (front_text m.front.now) r) in
    record { answers = c.next_child.ensures.answers ∙ ap answer e; fills = c.next_child.ensures.fills ∙ ap (λ (f : Found). filled f c.args.buf.now) e }

pub returns-in_err-whole : goal.returns-in_err-whole
returns-in_err-whole g c =
    let m = c.args.self.now in
    let p = prefix_text m.front.now in
    let longest = g.S.ReadStore.longest m.store.now in
    let ps = g.S.ReadStore.pairs m.store.now in
    let q = c.args.prefix.now in
    let x = c.args.after.now in
    let n = length c.args.buf.now in
    let s : longest ≤ 400 = (g.S.ReadStore.lawful m.store.now).short in
    let r : length p < longest = let a = c.longest_key.ensures in let b = ap length c.as_bytes.ensures in omega arith in
    let w = c.in_err-whole.ensures in
    let e = ap (λ (w : Bool). guarded w (fitted n (next_child q x (mounted p ps)))) (prefix_long longest p q s r w.1) in
    record { answers = refused c.from_residual.result c.in_err-whole.field-0.0 c.from_residual.ensures.1 w.0 ∙ ap answer (sym e); fills = ap (λ (f : Found). filled f c.args.buf.now) (sym e) }
