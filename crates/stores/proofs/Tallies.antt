-- A count of children, halfway.
-- Assumes nothing.
use Rattle.std.proofs.Common.{◌≡◌, ℕ, ◌+◌, ◌-◌, ◌^◌, ◌≤◌, min, Bool, true, false, cond, eqb, leb, List, [], ◌∷◌, ◌++◌, length, take, drop, IsErrAnd, Some, None, Ok, Err, Option, Result, sym, refl, ap, ◌∙◌, subst, arith, length-append, length-drop}
use Rattle.std.proofs.lemmas.List.{take_at}
use Rattle.std.proofs.lemmas.Bool.{leb-true}
use Rattle.keys.specs.declared.fault.StoreFault.{StoreFault}
use Rattle.keys.specs.declared.fault.StoreFault.TheVariants.{Longer}
use Rattle.text.specs.Bytes.{Bytes, stripped}
use Rattle.stores.specs.WellFormed.{well_key, well_prefix}
use Rattle.stores.specs.Pairs.{Pairs, AllKeys, Lawful, least, added, within, opened, segment, children, next_child}
use Rattle.stores.specs.Answers.{Found, guarded, fitted, answer, filled, child_after}
use Rattle.stores.specs.Runs.{Run, Steps, written}
use Rattle.stores.specs.Counts.{Counted, Stopped, Tally}
use Rattle.stores.proofs.Mounts.{strip_join}
use Rattle.stores.proofs.Listings.{Short, least_short, key_short}

-- the names so far, the last of which is kept
pub record Halfway (xs : List Bytes) (old buf last : Bytes) (count : ℕ) : Type 0 where
  pub names : List Bytes
  pub steps : Steps xs [] names last
  pub number : count ≡ min (length names) (2 ^ 64 - 1)
  pub buffer : buf ≡ written names old
  pub same : length buf ≡ length old

pub steps_end : (xs : List Bytes) (x : Bytes) (ts : List Bytes) (last : Bytes) → Steps xs x ts last → least last xs ≡ None → Run xs x ts
steps_end xs x [] last s e = subst (λ (y : Bytes). least y xs ≡ None) s e
steps_end xs x (t ∷ ts) last s e = (s.0, steps_end xs t ts last s.1 e)

pub steps_more : (xs : List Bytes) (x : Bytes) (ts : List Bytes) (last t : Bytes) → Steps xs x ts last → least last xs ≡ Some t → Steps xs x (ts ++ (t ∷ [])) t
steps_more xs x [] last t s e = (subst (λ (y : Bytes). least y xs ≡ Some t) s e, refl)
steps_more xs x (u ∷ ts) last t s e = (s.0, steps_more xs u ts last t s.1 e)

pub written_more : (ts : List Bytes) (t buf : Bytes) → written (ts ++ (t ∷ [])) buf ≡ t ++ drop (length t) (written ts buf)
written_more [] t buf = refl
written_more (u ∷ ts) t buf = written_more ts t (u ++ drop (length u) buf)

-- ---- one answer

segment_short : (m : ℕ) (t : Bytes) (xs : List Bytes) → length t ≤ m → Short m xs → Short m (added (segment t) xs)
segment_short m t xs h s = by (segment t) (part t)
  where
    opened_size : (b : ℕ) (t : Bytes) (o : Option Bytes) → ((u : Bytes) → o ≡ Some u → length u ≤ length t) → (u : Bytes) → opened o b ≡ Some u → length u ≤ length (b ∷ t)
    opened_size b t None f u e = absurd (cc)
    opened_size b t (Some v) f u e = let j : b ∷ v ≡ u = grind arith in let k : length v ≤ length t = f v refl in rw (sym j) (omega arith)

    part : (t u : Bytes) → segment t ≡ Some u → length u ≤ length t
    part [] u e = absurd (cc)
    part (b ∷ t) u e =
        (elim (eqb b 47) as (λ c. cond c (Some []) (opened (segment t) b) ≡ Some u → length u ≤ length (b ∷ t)) [
          | true ↦ λ q. let j : [] ≡ u = grind arith in rw (sym j) (omega arith)
          | false ↦ λ q. opened_size b t (segment t) (λ v. part t v) u q
        ]) e

    by : (o : Option Bytes) → ((u : Bytes) → o ≡ Some u → length u ≤ length t) → Short m (added o xs)
    by None f = s
    by (Some u) f = let k : length u ≤ length t = f u refl in (omega arith, s)

within_short : (m : ℕ) (p k : Bytes) (xs : List Bytes) (o : Option Bytes) → stripped p k ≡ o → length k ≤ m → Short m xs → Short m (added (within o) xs)
within_short m p k xs None e h s = s
within_short m p k xs (Some t) e h s =
    let j : length k ≡ length p + length t = ap length (strip_join p k t e) ∙ length-append p t in
    segment_short m t xs (omega arith) s

pub children_short : (longest : ℕ) (p : Bytes) (ps : Pairs) → longest ≤ 400 → AllKeys (λ k. well_key longest k ≡ true) ps → Short 400 (children p ps)
children_short longest p [] h w = tt
children_short longest p (a ∷ ps) h w = within_short 400 p a.key (children p ps) (stripped p a.key) refl (key_short longest a.key h w.0) (children_short longest p ps h w.1)

-- a name was found
pub record Named (xs : List Bytes) (x buf new : Bytes) (n : ℕ) : Type 0 where
  pub text : Bytes
  pub is : least x xs ≡ Some text
  pub size : length text ≡ n
  pub fits : n ≤ length buf
  pub short : n ≤ 400
  pub fills : new ≡ text ++ drop (length text) buf

found_one : (w : Bool) (xs : List Bytes) (x buf : Bytes) (o : Option Bytes) (n : ℕ) → Short 400 xs → least x xs ≡ o → Ok (Some n) ≡ answer (guarded w (fitted (length buf) o)) → Named xs x buf (filled (guarded w (fitted (length buf) o)) buf) n
found_one true xs x buf None n s e h = absurd (cc)
found_one true xs x buf (Some t) n s e h = by (leb (length t) (length buf)) refl h
  where
    by : (b : Bool) → leb (length t) (length buf) ≡ b → Ok (Some n) ≡ answer (cond b (Ok (Some t)) (Err Longer)) → Named xs x buf (filled (cond b (Ok (Some t)) (Err Longer)) buf) n
    by true l q =
        let j : n ≡ length t = grind arith in
        let f : length t ≤ length buf = leb-true (length t) (length buf) l in
        let k : length t ≤ 400 = least_short 400 x t xs s e in
        record { text = t; is = e; size = sym j; fits = omega arith; short = omega arith; fills = refl }
    by false l q = absurd (cc)
found_one false xs x buf o n s e h = absurd (cc)

pub one_named : (longest : ℕ) (ps : Pairs) (p x buf new : Bytes) (r : Result (Option ℕ) StoreFault) (n : ℕ) → Lawful ps longest → r ≡ Ok (Some n) → r ≡ answer (child_after longest ps p x (length buf)) → new ≡ filled (child_after longest ps p x (length buf)) buf → Named (children p ps) x buf new n
one_named longest ps p x buf new r n l o e f =
    rw f (found_one (well_prefix longest p) (children p ps) x buf (next_child p x ps) n (children_short longest p ps l.short l.keys) refl (sym o ∙ e))

-- none was found
pub record NoneLeft (longest : ℕ) (ps : Pairs) (p x buf new : Bytes) : Type 0 where
  pub well : well_prefix longest p ≡ true
  pub is : least x (children p ps) ≡ None
  pub keeps : new ≡ buf

found_none : (w : Bool) (n : ℕ) (o : Option Bytes) (buf : Bytes) → Ok None ≡ answer (guarded w (fitted n o)) → (w ≡ true) × (o ≡ None) × (filled (guarded w (fitted n o)) buf ≡ buf)
found_none true n None buf h = (refl, refl, refl)
found_none true n (Some t) buf h =
    (elim (leb (length t) n) as (λ b. Ok None ≡ answer (cond b (Ok (Some t)) (Err Longer)) → (true ≡ true) × (Some t ≡ None) × (filled (cond b (Ok (Some t)) (Err Longer)) buf ≡ buf)) [
      | true ↦ λ q. absurd (cc)
      | false ↦ λ q. absurd (cc)
    ]) h
found_none false n o buf h = absurd (cc)

pub none_left : (longest : ℕ) (ps : Pairs) (p x buf new : Bytes) (r : Result (Option ℕ) StoreFault) → r ≡ Ok None → r ≡ answer (child_after longest ps p x (length buf)) → new ≡ filled (child_after longest ps p x (length buf)) buf → NoneLeft longest ps p x buf new
none_left longest ps p x buf new r o e f =
    let q = found_none (well_prefix longest p) (length buf) (next_child p x ps) buf (sym o ∙ e) in
    record { well = q.0; is = q.1; keeps = f ∙ q.2 }

-- the question was refused
found_fault : (f : Found) (e : StoreFault) (buf : Bytes) → Err e ≡ answer f → (f ≡ Err e) × (filled f buf ≡ buf)
found_fault (Err d) e buf h = let j : e ≡ d = grind arith in (ap (λ (x : StoreFault). Err x) (sym j), refl)
found_fault (Ok None) e buf h = absurd (cc)
found_fault (Ok (Some t)) e buf h = absurd (cc)

-- ---- the count

-- the bytes kept are the name
pub kept_name : (new t buf : Bytes) (n : ℕ) → new ≡ t ++ drop (length t) buf → length t ≡ n → take n new ≡ t
kept_name new t buf n ew el = ap (take n) ew ∙ take_at t (drop (length t) buf) n el

pub goes_on : (xs : List Bytes) (old buf last new next : Bytes) (count n more : ℕ) → Halfway xs old buf last count → Named xs last buf new n → next ≡ take n new → more ≡ min (count + 1) (2 ^ 64 - 1) → Halfway xs old new next more
goes_on xs old buf last new next count n more h a ep em =
    let t = a.text in
    let ew : new ≡ t ++ drop (length t) buf = a.fills in
    let et : next ≡ t = ep ∙ kept_name new t buf n ew a.size in
    let ln : length new ≡ length t + length (drop (length t) buf) = ap length ew ∙ length-append t (drop (length t) buf) in
    let ld : length (drop (length t) buf) ≡ length buf - length t = length-drop (length t) buf in
    let lm : length (h.names ++ (t ∷ [])) ≡ length h.names + 1 = length-append h.names (t ∷ []) in
    record {
      names = h.names ++ (t ∷ []);
      steps = rw et (steps_more xs [] h.names last t h.steps a.is);
      number = rw lm (em ∙ next_min count (length h.names) h.number);
      buffer = ew ∙ ap (λ (b : Bytes). t ++ drop (length t) b) h.buffer ∙ sym (written_more h.names t old);
      same = omega (arith, a.fits, a.size, h.same);
    }
  where
    next_min : (a b : ℕ) → a ≡ min b (2 ^ 64 - 1) → min (a + 1) (2 ^ 64 - 1) ≡ min (b + 1) (2 ^ 64 - 1)
    next_min a b e = rw e (omega arith)

pub stops : (longest : ℕ) (ps : Pairs) (p old buf last new : Bytes) (count : ℕ) → Halfway (children p ps) old buf last count → NoneLeft longest ps p last buf new → Counted longest ps p old new count
stops longest ps p old buf last new count h a = record {
  names = h.names;
  well = a.well;
  run = steps_end (children p ps) [] h.names last h.steps a.is;
  number = h.number;
  buffer = a.keeps ∙ h.buffer;
}

pub breaks : (longest : ℕ) (ps : Pairs) (p old buf last new : Bytes) (count : ℕ) (r : Result (Option ℕ) StoreFault) (e : StoreFault) → Halfway (children p ps) old buf last count → r ≡ Err e → r ≡ answer (child_after longest ps p last (length buf)) → new ≡ filled (child_after longest ps p last (length buf)) buf → Stopped longest ps p old new e
breaks longest ps p old buf last new count r e h o a f =
    let q = found_fault (child_after longest ps p last (length buf)) e buf (sym o ∙ a) in
    record {
      names = h.names;
      last = last;
      steps = h.steps;
      refusal = ap (λ (n : ℕ). child_after longest ps p last n) (sym h.same) ∙ q.0;
      buffer = f ∙ q.1 ∙ h.buffer;
    }

pub told : (longest : ℕ) (ps : Pairs) (p old new : Bytes) (r : Result ℕ StoreFault) (e : StoreFault) → IsErrAnd r (λ d. d ≡ e) → Stopped longest ps p old new e → Tally longest ps p old new r
told longest ps p old new (Ok n) e h s = absurd h
told longest ps p old new (Err d) e h s = subst (λ (x : StoreFault). Stopped longest ps p old new x) (sym h) s
