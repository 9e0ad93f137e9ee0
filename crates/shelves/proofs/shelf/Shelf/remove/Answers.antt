use Rattle.std.proofs.Common.{◌≡◌, [], get_or, None, sym, ap, ◌∙◌, arith}
use Rattle.std.proofs.lemmas.Result.{err_from_is_err_and}
use Rattle.text.specs.Bytes.{Bytes}
use Rattle.keys.specs.Keys.{is_key}
use Rattle.keys.specs.Values.{key_text}
use Rattle.keys.specs.declared.store_key.StoreKey.{StoreKey}
use Rattle.stores.specs.Pairs.{lookup, inserted, removed}
use Rattle.stores.proofs.Absent.{removed-absent}
use Rattle.shelves.specs.Holds.{entries_lawful}
use Rattle.shelves.specs.Meant.{pairs_in}
use Rattle.shelves.proofs.Changed.{first_of, new_absent}
use Rattle.shelves.proofs.Sought.{removed-inserted}
use Rattle.shelves.proofs.Writing.{same_lent, lent_twice, erase_bad, erase_did, key_ok, key_bad, found_key}
use Rattle.shelves.proofs.shelf.Shelf.remove.Goals as goal

pub returns-in_err-key : goal.returns-in_err-key
returns-in_err-key c =
    let s = c.args.self.now in
    let k = c.args.key.now in
    let f = c.in_err-key.field-0.0 in
    let p = err_from_is_err_and c.from_residual.result c.from_residual.ensures.1 in
    record { lent = same_lent s; means = rw (p.1, p.2) (erase_bad s k f (key_bad (is_key k) f k c.in_err-key.ensures)) }

pub returns-in-Ok : goal.returns-in-Ok
returns-in-Ok c =
    let s = c.args.self.now in
    let k = c.args.key.now in
    let w = key_ok (is_key k) (key_text c.in_ok-key.key) k c.in_ok-key.ensures in
    let f = c.in-Ok.ensures in
    let i = c.in-Ok.i in
    let d = first_of s.rows.slots.now i (omega (arith, f.0, s.rows.within)) in
    let o = c.resize.new.self in
    let r = c.resize.ensures in
    let u = c.drop_slot.new.self in
    let g = c.drop_slot.ensures in
    let x = found_key s c.in_ok-key.key k w.1 [] i d f in
    let q : pairs_in u ≡ removed k (pairs_in s) =
    g.drops d ∙ ap (λ (y : StoreKey). removed (key_text y) (pairs_in o)) (r.here.1 d).0 ∙ ap (removed (key_text (get_or s.rows.slots.now i d).key)) (r.holds d) ∙ ap (λ (y : Bytes). removed y (inserted y [] (pairs_in s))) x ∙ removed-inserted k [] (pairs_in s) (entries_lawful s.rows.slots.now s.rows.len s.bytes.now s.rows.ascends).ascends
    in
    record { lent = lent_twice s o u r.lent g.lent; means = erase_did s k u w.0 q }

pub returns-in-Err : goal.returns-in-Err
returns-in-Err c =
    let s = c.args.self.now in
    let k = c.args.key.now in
    let w = key_ok (is_key k) (key_text c.in_ok-key.key) k c.in_ok-key.ensures in
    let a : lookup k (pairs_in s) ≡ None = ap (λ (y : Bytes). lookup y (pairs_in s)) (sym w.1) ∙ new_absent s c.in-Err.field-0 c.in_ok-key.key c.in-Err.ensures in
    record { lent = same_lent s; means = erase_did s k s w.0 (sym (removed-absent k (pairs_in s) a)) }
