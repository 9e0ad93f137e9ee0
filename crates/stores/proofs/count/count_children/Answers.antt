use Rattle.std.proofs.Common.{◌<◌, take, Ok, sym, ap, ◌∙◌, subst, append-nil, arith}
use Rattle.std.proofs.lemmas.Grind.{common_steps}
use Rattle.text.specs.Bytes.{Bytes}
use Rattle.stores.specs.Pairs.{children}
use Rattle.stores.proofs.Runs.{above, least_falls}
use Rattle.stores.proofs.Tallies.{Halfway, one_named, none_left, goes_on, stops, breaks, told, kept_name}
use Rattle.stores.proofs.count.count_children.Goals as goal

pub shape_of-name-in_err-n : goal.shape_of-name-in_err-n
shape_of-name-in_err-n g c = c.next_child.auto.buf ∙ c.loop-n.invariant.same

pub returns-in_err-n : goal.returns-in_err-n
returns-in_err-n g c =
    let longest = g.S.ReadStore.longest c.args.store.now in
    let ps = g.S.ReadStore.pairs c.args.store.now in
    let e = c.in_err-n.field-0.0 in
    told longest ps c.args.prefix.now c.args.name.now c.next_child.new.buf c.from_residual.result e c.from_residual.ensures.1
    (breaks longest ps c.args.prefix.now c.args.name.now c.loop-n.name c.as_bytes.result.now c.next_child.new.buf c.loop-n.count c.next_child.result e (subst (λ (x : Bytes). Halfway (children c.args.prefix.now ps) c.args.name.now c.loop-n.name x c.loop-n.count) (sym c.as_bytes.ensures) c.loop-n.invariant) c.in_err-n.was c.next_child.ensures.answers c.next_child.ensures.fills)

pub slice_bounds-of-end-in-Some : goal.slice_bounds-of-end-in-Some
slice_bounds-of-end-in-Some g c =
    let a = one_named (g.S.ReadStore.longest c.args.store.now) (g.S.ReadStore.pairs c.args.store.now) c.args.prefix.now c.as_bytes.result.now c.loop-n.name c.next_child.new.buf c.next_child.result c.in-Some.n (g.S.ReadStore.lawful c.args.store.now) (c.in_ok-n.was ∙ ap Ok c.in-Some.is) c.next_child.ensures.answers c.next_child.ensures.fills in
    let h = a.fits in
    let l = c.next_child.auto.buf in
    omega (arith, h, l)

pub slice_bounds-of-end-in-Some-2 : goal.slice_bounds-of-end-in-Some-2
slice_bounds-of-end-in-Some-2 g c =
    let a = one_named (g.S.ReadStore.longest c.args.store.now) (g.S.ReadStore.pairs c.args.store.now) c.args.prefix.now c.as_bytes.result.now c.loop-n.name c.next_child.new.buf c.next_child.result c.in-Some.n (g.S.ReadStore.lawful c.args.store.now) (c.in_ok-n.was ∙ ap Ok c.in-Some.is) c.next_child.ensures.answers c.next_child.ensures.fills in
    let h = a.fits in
    let l = c.next_child.auto.buf in
    grind (arith, common_steps)

pub unwrap-last-requires-in-Some : goal.unwrap-last-requires-in-Some
unwrap-last-requires-in-Some g c =
    let a = one_named (g.S.ReadStore.longest c.args.store.now) (g.S.ReadStore.pairs c.args.store.now) c.args.prefix.now c.as_bytes.result.now c.loop-n.name c.next_child.new.buf c.next_child.result c.in-Some.n (g.S.ReadStore.lawful c.args.store.now) (c.in_ok-n.was ∙ ap Ok c.in-Some.is) c.next_child.ensures.answers c.next_child.ensures.fills in
    let h = a.short in
    let k = a.fits in
    let l = c.next_child.auto.buf in
    grind (arith, common_steps)

pub loop-n-smaller : goal.loop-n-smaller
loop-n-smaller g c =
    let a = one_named (g.S.ReadStore.longest c.args.store.now) (g.S.ReadStore.pairs c.args.store.now) c.args.prefix.now c.as_bytes.result.now c.loop-n.name c.next_child.new.buf c.next_child.result c.in-Some.n (g.S.ReadStore.lawful c.args.store.now) (c.in_ok-n.was ∙ ap Ok c.in-Some.is) c.next_child.ensures.answers c.next_child.ensures.fills in
    let xs = children c.args.prefix.now (g.S.ReadStore.pairs c.args.store.now) in
    let f : above a.text xs < above c.as_bytes.result.now xs = least_falls c.as_bytes.result.now xs a.text a.is in
    let k = (rw c.unwrap-last-in-Some.ensures at c.of-in-Some.ensures) ∙ append-nil (take c.in-Some.n c.next_child.new.buf) ∙ kept_name c.next_child.new.buf a.text c.loop-n.name c.in-Some.n a.fills a.size in
    rw k (subst (λ (x : Bytes). above a.text xs < above x xs) c.as_bytes.ensures f)

pub loop-n-preserved : goal.loop-n-preserved
loop-n-preserved g c =
    let a = one_named (g.S.ReadStore.longest c.args.store.now) (g.S.ReadStore.pairs c.args.store.now) c.args.prefix.now c.as_bytes.result.now c.loop-n.name c.next_child.new.buf c.next_child.result c.in-Some.n (g.S.ReadStore.lawful c.args.store.now) (c.in_ok-n.was ∙ ap Ok c.in-Some.is) c.next_child.ensures.answers c.next_child.ensures.fills in
    let xs = children c.args.prefix.now (g.S.ReadStore.pairs c.args.store.now) in
    goes_on xs c.args.name.now c.loop-n.name c.as_bytes.result.now c.next_child.new.buf (take c.unwrap-last-in-Some.result.len c.unwrap-last-in-Some.result.bytes) c.loop-n.count c.in-Some.n c.saturating_add-count.result (subst (λ (x : Bytes). Halfway xs c.args.name.now c.loop-n.name x c.loop-n.count) (sym c.as_bytes.ensures) c.loop-n.invariant) a ((rw c.unwrap-last-in-Some.ensures at c.of-in-Some.ensures) ∙ append-nil (take c.in-Some.n c.next_child.new.buf)) c.saturating_add-count.ensures

pub shape_of-name : goal.shape_of-name
shape_of-name g c = c.next_child.auto.buf ∙ c.loop-n.invariant.same

pub returns : goal.returns
returns g c =
    let longest = g.S.ReadStore.longest c.args.store.now in
    let ps = g.S.ReadStore.pairs c.args.store.now in
    stops longest ps c.args.prefix.now c.args.name.now c.loop-n.name c.as_bytes.result.now c.next_child.new.buf c.loop-n.count (subst (λ (x : Bytes). Halfway (children c.args.prefix.now ps) c.args.name.now c.loop-n.name x c.loop-n.count) (sym c.as_bytes.ensures) c.loop-n.invariant)
    (none_left longest ps c.args.prefix.now c.as_bytes.result.now c.loop-n.name c.next_child.new.buf c.next_child.result (c.in_ok-n.was ∙ ap Ok c.in_default.is) c.next_child.ensures.answers c.next_child.ensures.fills)
