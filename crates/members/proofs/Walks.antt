-- Members one by one, and the one that is looked for.
-- Assumes nothing.
use Rattle.std.proofs.Common.{◌≡◌, ℕ, suc, ◌+◌, ◌-◌, ◌<◌, ◌≤◌, Bool, true, false, cond, List, [], ◌∷◌, ◌++◌, length, take, drop, Some, None, Option, Err, sym, refl, ap, ◌∙◌, subst, append_assoc, arith, length-append, length-drop, take-append-drop}
use Rattle.std.specs.List.{slice_range}
use Rattle.std.specs.Option.{option_or, ok_or}
use Rattle.std.specs.Bool.{then_some}
use Rattle.text.specs.Bytes.{same}
use Rattle.grammar.specs.Ast.{Json, Members, obj, mnone, malso}
use Rattle.grammar.specs.Grammar.{Ws, w_none as nothing, w_more, Shows, s_obj0, s_obj, Padded, padded}
use Rattle.grammar.specs.Machine.{val, members}
use Rattle.grammar.proofs.Complete.{ws_val}
use Rattle.grammar.proofs.Fronts.{objects_end}
use Rattle.grammar.proofs.Places.{left_over, place_of}
use Rattle.documents.specs.Reading.{Part, Refuses, NoBlank, Unlike, AnyValue, AnyObject, GotValue, GotName, ReadyPair}
use Rattle.documents.specs.declared.fault.DocumentFault.{DocumentFault}
use Rattle.documents.specs.declared.fault.DocumentFault.TheVariants.{Syntax}
use Rattle.documents.proofs.Parts.{skip, go_at, to_end}
use Rattle.documents.proofs.Words.{SameByte, not_is}
use Rattle.documents.proofs.Objects.{AtName, PastPair, o_none, o_begin, o_name, o_pair, o_close, o_next}
use Rattle.names.specs.Undone.{undone}
use Rattle.names.specs.declared.undone.Undoing.TheVariants.{Plain}
use Rattle.members.specs.LookUp.{is_name, or_else, Between, Seen, Looked, bare, LookedUp, FaultAt}
use Rattle.members.specs.Laws.{LookUpsTell}
use Rattle.members.specs.declared.cursor.Cursor.{Cursor}
use Rattle.members.specs.declared.walk.ValuePlace.{ValuePlace}

-- ---- places counted from the front
-- r is what s leaves behind its first bytes
abbrev pub Rest : List ℕ → List ℕ → Type 0
Rest s r = (p : List ℕ) × (s ≡ p ++ r)

pub rest_len : (s r : List ℕ) → Rest s r → length r ≤ length s
rest_len s r x = omega (arith, ap length x.1, length-append x.0 r)

pub rest_drop : (s : List ℕ) (a : ℕ) → Rest s (drop a s)
rest_drop s a = (take a s, sym (take-append-drop a s))

pub rest_part : {P : List ℕ → Type 0} (s r q : List ℕ) → Rest s r → Part P r q → Rest s q
rest_part s r q x p = (x.0 ++ p.text, x.1 ∙ (ap (λ (y : List ℕ). x.0 ++ y) p.splits ∙ sym (append_assoc x.0 p.text q)))

part_len : {P : List ℕ → Type 0} (r q : List ℕ) → Part P r q → length q ≤ length r
part_len r q p = omega (arith, ap length p.splits, length-append p.text q)

-- a part, by its places
between_at : {P : List ℕ → Type 0} (s r q : List ℕ) → Rest s r → Part P r q → Between P s (length s - length r) (length s - length q)
between_at {P} s r q x p =
    let y = rest_part s r q x p in
    let f = place_of s x.0 r x.1 in
    let g = place_of s y.0 q y.1 in
    record {
      part = subst (λ (u : List ℕ). Part P u (drop (length s - length q) s)) (sym f.1) (subst (λ (u : List ℕ). Part P r u) (sym g.1) p);
      low = omega (arith, part_len r q p);
      high = g.0;
    }

between_from : {P : List ℕ → Type 0} (s : List ℕ) (a : ℕ) (q : List ℕ) → a ≤ length s → Part P (drop a s) q → Between P s a (length s - length q)
between_from {P} s a q h p =
    let same : length s - length (drop a s) ≡ a = omega (arith, length-drop a s, h) in
    subst (λ (i : ℕ). Between P s i (length s - length q)) same (between_at s (drop a s) q (rest_drop s a) p)

-- a slice from a place on
pub from_place : {P : List ℕ → Type 0} (s : List ℕ) (a : ℕ) (r : List ℕ) → Part P (take (length s - a) (drop a s)) r → Part P (drop a s) r
from_place {P} s a r p = subst (λ (x : List ℕ). Part P x r) (to_end s a) p

pub from_get : {P : List ℕ → Type 0} (s : List ℕ) (a : ℕ) (b r : List ℕ) → b ≡ slice_range s a (length s) → Part P b r → Part P (drop a s) r
from_get {P} s a b r e p = from_place s a r (subst (λ (x : List ℕ). Part P x r) e p)

-- the error given for what is missing
pub error_is : {T E : Type 0} (o : Option T) (e f : E) → o ≡ None → Err f ≡ ok_or o e → f ≡ e
error_is None e f n h = cc
error_is (Some x) e f n h = grind arith

-- where a name is to come, with what was found before it
pub record Walking (s : List ℕ) (d a : ℕ) (r want : List ℕ) (o : Option ValuePlace) : Type 0 where
  pub at_name : AtName d (drop a s) r
  pub seen : Seen s d a want at_name.before o

-- behind a member, with what was found up to it
pub record Past (s : List ℕ) (d a : ℕ) (r want : List ℕ) (o : Option ValuePlace) : Type 0 where
  pub pair : PastPair d (drop a s) r
  pub seen : Seen s d a want (malso pair.before pair.named pair.last) o

-- one member more
see : (s : List ℕ) (d a : ℕ) (want : List ℕ) (ms : Members) (n : List ℕ) (j : Json) (p : ValuePlace) → Between (ReadyPair d ms n) s a p.from → Between (Shows d j) s p.from p.to → (o : Option ValuePlace) → Seen s d a want ms o → (z : Bool) → is_name want n ≡ z → Seen s d a want (malso ms n j) (option_or o (then_some z p))
see s d a want ms n j p l v (Some q) f z e =
    record { json = f.json; first = ap (λ (x : Option Json). or_else x (is_name want n) j) f.first; before = f.before; name = f.name; leads = f.leads; fresh = f.fresh; is = f.is; shown = f.shown }
see s d a want ms n j p l v None f true e =
    record { json = j; first = ap (λ (x : Option Json). or_else x (is_name want n) j) f ∙ ap (λ (y : Bool). cond y (Some j) None) e; before = ms; name = n; leads = l; fresh = f; is = e; shown = v }
see s d a want ms n j p l v None f false e = ap (λ (x : Option Json). or_else x (is_name want n) j) f ∙ ap (λ (y : Bool). cond y (Some j) None) e

pub w_none : (s : List ℕ) (d a : ℕ) (r q want : List ℕ) → a ≤ length s → Part Ws (drop a s) r → r ≡ 125 ∷ q → Looked s d a want None
unfolding o_none
w_none s d a r q want h p e = record { members = mnone; end = length s - length q; object = between_from s a q h (o_none d (drop a s) r p q e).part; seen = refl }

pub w_begin : (s : List ℕ) (d a : ℕ) (r want : List ℕ) → Part Ws (drop a s) r → NoBlank r → Unlike ℕ SameByte 125 r → Walking s d a r want None
unfolding o_begin
w_begin s d a r want p n u = record { at_name = o_begin d (drop a s) r p n u; seen = refl }

pub w_pair : (s : List ℕ) (d a : ℕ) (r n v q e want : List ℕ) (o : Option ValuePlace) (p : ValuePlace) (z : Bool) (u : Option ValuePlace) → a ≤ length s → Walking s d a r want o → GotName r n v → GotValue d v q → Part Ws q e → p ≡ record { from = length s - length v; to = length s - length q } → z ≡ same (undone Plain n) want → u ≡ option_or o (then_some z p) → Past s d a e want u
unfolding o_name o_pair
w_pair s d a r n v q e want o p z u h w g x sp pl f k =
    let at = o_name d (drop a s) r n v w.at_name g in
    let i : ValuePlace = record { from = length s - length v; to = length s - length q } in
    record {
      pair = o_pair d (drop a s) v q e at x sp;
      seen = subst (λ (y : Option ValuePlace). Seen s d a want (malso w.at_name.before n x.json) y) (sym (k ∙ ap (λ (y : ValuePlace). option_or o (then_some z y)) pl))
          (see s d a want w.at_name.before n x.json i (between_from s a v h at.part) (between_at s v q (rest_part s (drop a s) v (rest_drop s a) at.part) x.part) o w.seen z (sym f));
    }

pub w_close : (s : List ℕ) (d a : ℕ) (r q want : List ℕ) (o : Option ValuePlace) → a ≤ length s → Past s d a r want o → r ≡ 125 ∷ q → Looked s d a want o
unfolding o_close
w_close s d a r q want o h p e =
    record { members = malso p.pair.before p.pair.named p.pair.last; end = length s - length q; object = between_from s a q h (o_close d (drop a s) r p.pair q e).part; seen = p.seen }

pub w_next : (s : List ℕ) (d a : ℕ) (r q i want : List ℕ) (o : Option ValuePlace) → Past s d a r want o → r ≡ 44 ∷ q → Part Ws q i → Walking s d a i want o
unfolding o_next
w_next s d a r q i want o p e w = record { at_name = o_next d (drop a s) r p.pair q i e w; seen = p.seen }

-- ---- the object at the cursor
bare_plain : (u : List ℕ) → NoBlank u → bare u ≡ u
bare_plain [] n = refl
bare_plain (b ∷ u) n = ap (λ (z : Bool). cond z (bare u) (b ∷ u)) n

bare_ws : {w : List ℕ} → Ws w → (u : List ℕ) → bare (w ++ u) ≡ bare u
bare_ws nothing u = refl
bare_ws (w_more b ws e) u = rw append_assoc (bare_ws ws (b ∷ u) ∙ ap (λ (z : Bool). cond z (bare u) (b ∷ u)) e)

bare_at : (s r : List ℕ) → Part Ws s r → NoBlank r → bare s ≡ r
bare_at s r p n = ap bare p.splits ∙ (bare_ws p.holds r ∙ bare_plain r n)

other : (r t : List ℕ) → Unlike ℕ SameByte 123 r → r ≡ 123 ∷ t → ⊥
other [] t u e = grind arith
other (b ∷ r) t u e = let h : b ≡ 123 = cc in not_is b 123 u h

pub l_other : (s : List ℕ) (a : ℕ) (r : List ℕ) → Part Ws (drop a s) r → NoBlank r → Unlike ℕ SameByte 123 r → (t : List ℕ) → bare (drop a s) ≡ 123 ∷ t → ⊥
l_other s a r p n u t e = other r t u (sym (bare_at (drop a s) r p n) ∙ e)

-- what is left behind the brace
behind_brace : (s : List ℕ) (a : ℕ) (r q : List ℕ) → Part Ws (drop a s) r → r ≡ 123 ∷ q → Rest s q
behind_brace s a r q p e =
    let x = rest_part s (drop a s) r (rest_drop s a) p in
    (x.0 ++ (123 ∷ []), x.1 ∙ (ap (λ (y : List ℕ). x.0 ++ y) e ∙ sym (append_assoc x.0 (123 ∷ []) q)))

pub l_within : (s : List ℕ) (a : ℕ) (r q : List ℕ) → Part Ws (drop a s) r → r ≡ 123 ∷ q → length q < length s
l_within s a r q p e = let h = rest_len s r (rest_part s (drop a s) r (rest_drop s a) p) in omega (arith, h, ap length e)

pub l_looked : (s : List ℕ) (c : Cursor) (want r q : List ℕ) (o : Option ValuePlace) (i d : ℕ) → Part Ws (drop c.offset s) r → NoBlank r → r ≡ 123 ∷ q → i ≡ length s - length q → c.depth ≡ suc d → Looked s d i want o → LookedUp s c want o
l_looked s c want r q o i d p n e f g l =
    let w = l_within s c.offset r q p e in
    let y = behind_brace s c.offset r q p e in
    let h : length s - length q - 1 + 1 ≡ i = omega (arith, w, f) in
    record {
      start = length s - length q - 1;
      left = d;
      opens = bare_at (drop c.offset s) r p n ∙ (e ∙ ap (λ (x : List ℕ). 123 ∷ x) (sym (place_of s y.0 q y.1).1 ∙ ap (λ (k : ℕ). drop k s) (sym f ∙ sym h)));
      deep = g;
      looked = subst (λ (k : ℕ). Looked s d k want o) (sym h) l;
    }

pub l_refused : (s : List ℕ) (c : Cursor) (r q z : List ℕ) (f : DocumentFault) (i d : ℕ) → Part Ws (drop c.offset s) r → r ≡ 123 ∷ q → i ≡ length s - length q → c.depth ≡ suc d → Refuses (AnyObject d) (drop i s) z → f ≡ Syntax (length s - length z) → FaultAt s c f
l_refused s c r q z f i d p e k g n h =
    let y = behind_brace s c.offset r q p e in
    let at : drop i s ≡ q = ap (λ (x : ℕ). drop x s) k ∙ (place_of s y.0 q y.1).1 in
    let m : Refuses (AnyObject d) q z = subst (λ (x : List ℕ). Refuses (AnyObject d) x z) at n in
    let v : Refuses (AnyValue (suc d)) (drop c.offset s) z = λ st. skip (val (suc d) st) (ws_val (suc d) st) p ∙ (go_at (val (suc d) st) (members d st) r q 123 e refl ∙ m st) in
    let o = left_over q (members d []) z (m []) in
    let u : Rest s z = (y.0 ++ o.0, y.1 ∙ (ap (λ (x : List ℕ). y.0 ++ x) o.1 ∙ sym (append_assoc y.0 o.0 z))) in
    let w = place_of s u.0 z u.1 in
    subst (λ x. FaultAt s c x) (sym h)
    (w.0, subst (λ (x : List ℕ). Refuses (AnyValue c.depth) (drop c.offset s) x) (sym w.1) (subst (λ (x : ℕ). Refuses (AnyValue x) (drop c.offset s) z) (sym g) v))

-- ---- in a permitted text
object_plain : {d : ℕ} {ms : Members} {t : List ℕ} → Shows d (obj ms) t → (v : List ℕ) → NoBlank (t ++ v)
object_plain (s_obj0 ws) v = refl
object_plain (s_obj is) v = refl

same_members : {d : ℕ} {ms : Members} {s : List ℕ} → Padded d (obj ms) s → (ns : Members) (text rest : List ℕ) → Shows d (obj ns) (123 ∷ text) → bare s ≡ 123 ∷ (text ++ rest) → ns ≡ ms
same_members {d} {ms} (padded {w = w} {t = t} {v = v} ws sh vs) ns text rest so h =
    let e : t ++ v ≡ (123 ∷ text) ++ rest = sym (bare_ws ws (t ++ v) ∙ bare_plain (t ++ v) (object_plain sh v)) ∙ h in
    sym (objects_end d ms ns t (123 ∷ text) v rest sh so e).0

pub look_ups_tell_lem : LookUpsTell
look_ups_tell_lem s c want o ms e f p l =
    let x = l.looked.object.part in
    let ns : Members = l.looked.members in
    same_members p ns x.text (drop l.looked.end s)
    (subst (λ (k : ℕ). Shows k (obj ns) (123 ∷ x.text)) (sym l.deep ∙ f) x.holds)
    (sym (ap (λ (k : ℕ). bare (drop k s)) e) ∙ (l.opens ∙ ap (λ (y : List ℕ). 123 ∷ y) x.splits))
