-- Bytes that are expected one by one: the letters of a literal, and the bytes of a longer character.
-- Assumes nothing.
use Rattle.std.proofs.Common.{◌≡◌, ℕ, suc, ◌+◌, ◌<◌, Bool, true, false, eqb, List, [], ◌∷◌, ◌++◌, length, get_or, take, drop, sym, refl, ap, ◌∙◌, subst, append_assoc, append-nil, add-one, arith, take-suc, take_all, ◌≤◌, length-append, nat_eq, eq-eqb, ◌&&◌}
use lib.Pointwise.{pointwise}
use borrow.Author.Tests.{both_ways, clash}
use lib.Seq.{split_at}
use Rattle.std.proofs.lemmas.Bool.Decides.{nat_tests}
use Rattle.grammar.specs.Ast.{Json}
use Rattle.grammar.specs.Grammar.{Seq, q_none, q_more}
use Rattle.grammar.specs.Machine.{Stack, Role, lit, seq, seq_go, step_seq, go, lit_end, lit_next, run, stopped}
use Rattle.grammar.specs.Terminals.{fits}
use Rattle.grammar.specs.declared.kinds.Class.{Class}
use Rattle.grammar.proofs.Numbers.{eqb_is}
use Rattle.grammar.proofs.Complete.{run_go}
use Rattle.documents.specs.Reading.{Part, Refuses, AnyWord, AnySeq, Each, e_none, e_more, Unlike, Differs}
use Rattle.documents.proofs.Parts.{part_none, part_then, part_as, part_byte, Byte, empty, bad_at}

-- ---- one by one
each_last : (E : Type 0) (f : E → ℕ → Bool) {es : List E} {t : List ℕ} → Each E f es t → (e : E) (b : ℕ) → f e b ≡ true → Each E f (es ++ (e ∷ [])) (t ++ (b ∷ []))
each_last E f e_none e b h = e_more e b h e_none
each_last E f (e_more x y g q) e b h = e_more x y g (each_last E f q e b h)

pub each_begin : (E : Type 0) (f : E → ℕ → Bool) (es : List E) (s : List ℕ) → Part (Each E f (take 0 es)) s s
each_begin E f es s = part_none (Each E f []) s e_none

pub each_more : (E : Type 0) (f : E → ℕ → Bool) (es : List E) (s r q : List ℕ) (n b : ℕ) (e : E) → n < length es → e ≡ get_or es n e → Part (Each E f (take n es)) s r → r ≡ b ∷ q → f e b ≡ true → Part (Each E f (take (n + 1) es)) s q
each_more E f es s r q n b e h i p z g =
    part_then (Each E f (take n es)) (Byte b) (Each E f (take (n + 1) es)) s r q
    (λ t u x y. rw (y, add-one, take-suc es n e h) (each_last E f x (get_or es n e) b (subst (λ (w : E). f w b ≡ true) i g))) p (part_byte b r q z)

pub each_all : (E : Type 0) (f : E → ℕ → Bool) (es : List E) (s r : List ℕ) (n : ℕ) → length es ≤ n → Part (Each E f (take n es)) s r → Part (Each E f es) s r
each_all E f es s r n h p = subst (λ (x : List E). Part (Each E f x) s r) (take_all n es h) p

each_differs : (E : Type 0) (f : E → ℕ → Bool) (es : List E) (s r : List ℕ) (n : ℕ) (e : E) → n < length es → e ≡ get_or es n e → Part (Each E f (take n es)) s r → Unlike E f e r → Differs E f es s r
each_differs E f es s r n e h i p u =
    record { before = take n es; next = get_or es n e; behind = drop (suc n) es; is = split_at es n e h; part = p; unlike = subst (λ (x : E). Unlike E f x r) i u }

module _ (E : Type 0) (f : E → ℕ → Bool) (es : List E) (s r : List ℕ) (n : ℕ) (e : E) (h : n < length es) (i : e ≡ get_or es n e) (p : Part (Each E f (take n es)) s r) where
  pub each_end : length r ≡ 0 → Differs E f es s r
  each_end z = each_differs E f es s r n e h i p (subst (λ (x : List ℕ). Unlike E f e x) (sym (empty r z)) tt)

  pub each_bad : (q : List ℕ) (b : ℕ) → r ≡ b ∷ q → f e b ≡ false → Differs E f es s r
  each_bad q b z g = each_differs E f es s r n e h i p (subst (λ (x : List ℕ). Unlike E f e x) (sym z) g)

-- ---- words
abbrev pub SameByte : ℕ → ℕ → Bool
SameByte c b = eqb b c

same : (x : ℕ) → eqb x x ≡ true
same x = grind (arith, nat_tests)

pub word_is : {w t : List ℕ} → Each ℕ SameByte w t → t ≡ w
word_is e_none = refl
word_is (e_more c b h q) = rw (eqb_is b c h, word_is q) refl

pub word_part : {w s r : List ℕ} → Part (Each ℕ SameByte w) s r → Part (λ t. t ≡ w) s r
word_part p = part_as p (λ t x. word_is x)

-- ---- one byte that is expected
pub one_is : (b : ℕ) (s r : List ℕ) → Part (Each ℕ SameByte (b ∷ [])) s r → s ≡ b ∷ r
one_is b s r p = p.splits ∙ ap (λ (x : List ℕ). x ++ r) (word_is p.holds)

differs_from : (b : ℕ) (s r : List ℕ) (a : List ℕ) (n : ℕ) (c : List ℕ) → b ∷ [] ≡ a ++ (n ∷ c) → Part (Each ℕ SameByte a) s r → Unlike ℕ SameByte n r → (s ≡ r) × Unlike ℕ SameByte b s
differs_from b s r [] n c e p u =
    let same : s ≡ r = p.splits ∙ ap (λ (x : List ℕ). x ++ r) (word_is p.holds) in
    let is : n ≡ b = cc in
    (same, rw same (subst (λ (x : ℕ). Unlike ℕ SameByte x r) is u))
differs_from b s r (x ∷ a) n c e p u = absurd (omega (arith, ap length e, length-append a (n ∷ c)))

-- the byte does not come
pub one_differs : (b : ℕ) (s r : List ℕ) → Differs ℕ SameByte (b ∷ []) s r → (s ≡ r) × Unlike ℕ SameByte b s
one_differs b s r f = differs_from b s r f.before f.next f.behind f.is f.part f.unlike

pub not_is : (b c : ℕ) → eqb b c ≡ false → b ≡ c → ⊥
not_is b c h e = absurd (both_ways (eqb b c) h (eq-eqb b c e))

-- no byte comes, or another
pub unlike_end : (b : ℕ) (s : List ℕ) → length s ≡ 0 → Unlike ℕ SameByte b s
unlike_end b s h = subst (λ (x : List ℕ). Unlike ℕ SameByte b x) (sym (empty s h)) tt

pub unlike_at : (b c : ℕ) (s r : List ℕ) → s ≡ c ∷ r → eqb c b ≡ false → Unlike ℕ SameByte b s
unlike_at b c s r h e = subst (λ (x : List ℕ). Unlike ℕ SameByte b x) (sym h) e

-- what a slice's prefix of one byte tells
and_true : (z y : Bool) → (z && true) ≡ y → z ≡ y
and_true true y h = h
and_true false y h = h

pub starts : (b : ℕ) (s r : List ℕ) → pointwise nat_eq (take 1 s) (b ∷ []) ≡ true → r ≡ drop 1 s → s ≡ b ∷ r
starts b [] r h e = absurd (clash h)
starts b (x ∷ s) r h e = rw (eqb_is x b (and_true (eqb x b) true h), e) refl

pub starts_not : (b : ℕ) (s : List ℕ) → pointwise nat_eq (take 1 s) (b ∷ []) ≡ false → Unlike ℕ SameByte b s
starts_not b [] h = tt
starts_not b (x ∷ s) h = and_true (eqb x b) false h

pub begins : (b : ℕ) (s : List ℕ) → pointwise nat_eq (b ∷ []) (take 1 s) ≡ true → s ≡ b ∷ drop 1 s
begins b [] h = absurd (clash h)
begins b (x ∷ s) h = rw (eqb_is b x (and_true (eqb b x) true h)) refl

pub begins_not : (b : ℕ) (s : List ℕ) → pointwise nat_eq (b ∷ []) (take 1 s) ≡ false → Unlike ℕ SameByte b s
begins_not b [] h = tt
begins_not b (x ∷ s) h = turned b x (and_true (eqb b x) false h)
  where
    turned : (b x : ℕ) → eqb b x ≡ false → eqb x b ≡ false
    turned b x h = grind (arith, nat_tests)

still : (d : ℕ) (a : List ℕ) (c : ℕ) (l : List ℕ) (j : Json) (k : Stack) → lit_end d (a ++ (c ∷ l)) j k ≡ lit d (a ++ (c ∷ l)) j k
still d [] c l j k = refl
still d (x ∷ a) c l j k = refl

lit_run : (d : ℕ) (j : Json) (k : Stack) (a : List ℕ) (c : ℕ) (l u : List ℕ) → run (lit d (a ++ (c ∷ l)) j k) (a ++ u) ≡ run (lit d (c ∷ l) j k) u
lit_run d j k [] c l u = refl
lit_run d j k (x ∷ a) c l u =
    run_go (lit d (x ∷ (a ++ (c ∷ l))) j k) x (a ++ u) (lit d (a ++ (c ∷ l)) j k) (ap (λ z. lit_next z d (a ++ (c ∷ l)) j k) (same x) ∙ ap go (still d a c l j k))
    ∙ lit_run d j k a c l u

lit_stops : (r : List ℕ) (c : ℕ) (l : List ℕ) → Unlike ℕ SameByte c r → (d : ℕ) (j : Json) (k : Stack) → run (lit d (c ∷ l) j k) r ≡ stopped r
lit_stops [] c l h d j k = refl
lit_stops (b ∷ r) c l h d j k = bad_at (lit d (c ∷ l) j k) (b ∷ r) r b refl (ap (λ z. lit_next z d l j k) h)

pub word_stops : (w s r : List ℕ) → Differs ℕ SameByte w s r → Refuses (AnyWord w) s r
word_stops w s r f d j k =
    rw (f.part.splits, word_is f.part.holds, f.is) (lit_run d j k f.before f.next f.behind r ∙ lit_stops r f.next f.behind f.unlike d j k)

-- ---- classes
seq_is : {cs : List Class} {t : List ℕ} → Each Class fits cs t → Seq cs t
seq_is e_none = q_none
seq_is (e_more c b h q) = q_more b h (seq_is q)

pub seq_part : {cs : List Class} {s r : List ℕ} → Part (Each Class fits cs) s r → Part (Seq cs) s r
seq_part p = part_as p (λ t x. seq_is x)

seq_run : {cs : List Class} {v : List ℕ} → Seq cs v → (rest : List Class) (d : ℕ) (g : Role) (r a : List ℕ) (k : Stack) (u : List ℕ) → run (seq_go (cs ++ rest) d g r a k) (v ++ u) ≡ run (seq_go rest d g r (a ++ v) k) u
seq_run q_none rest d g r a k u = rw append-nil refl
seq_run (q_more {c} {cs} {v} b h q) rest d g r a k u =
    run_go (seq d g r a c (cs ++ rest) k) b (v ++ u) (seq_go (cs ++ rest) d g r (a ++ (b ∷ [])) k) (ap (λ x. step_seq x b d g r a (cs ++ rest) k) h)
    ∙ (seq_run q rest d g r (a ++ (b ∷ [])) k u ∙ ap (λ (x : List ℕ). run (seq_go rest d g r x k) u) (append_assoc a (b ∷ []) v))

seq_stop : (r : List ℕ) (c : Class) (cs : List Class) → Unlike Class fits c r → (d : ℕ) (g : Role) (x a : List ℕ) (k : Stack) → run (seq d g x a c cs k) r ≡ stopped r
seq_stop [] c cs h d g x a k = refl
seq_stop (b ∷ r) c cs h d g x a k = bad_at (seq d g x a c cs k) (b ∷ r) r b refl (ap (λ z. step_seq z b d g x a cs k) h)

pub seq_stops : (cs : List Class) (s r : List ℕ) → Differs Class fits cs s r → Refuses (AnySeq cs) s r
seq_stops cs s r f d g x a k =
    rw (f.part.splits, f.is)
    (seq_run (seq_is f.part.holds) (f.next ∷ f.behind) d g x a k r ∙ seq_stop r f.next f.behind f.unlike d g x (a ++ f.part.text) k)
