use Rattle.std.proofs.Common.{◌≡◌, ◌+◌, ◌^◌, ◌<◌, ◌++◌, length, take, drop}
use Rattle.shelves.specs.Slots.{total, laid}
use Rattle.shelves.proofs.lay.lay.Given as goal

abbrev pub invariant-loop-i : goal.invariant-loop-i
invariant-loop-i l =
    let ys = take l.rows.len l.rows.slots.now in
    let xs = take l.initial.rows.len l.initial.rows.slots.now in
    (l.rows.len ≡ l.initial.rows.len) × (length l.rows.slots.now ≡ length l.initial.rows.slots.now) × (l.rows.slots.ghost_name ≡ l.initial.rows.slots.ghost_name)
    × (l.place + total (drop l.i ys) < 2 ^ 64)
    × (take l.i ys ++ laid l.place (drop l.i ys) ≡ take l.from xs ++ laid l.initial.place (drop l.from xs))
