-- The automaton's answers in the grammar's words.
-- Assumes nothing.
use Rattle.std.proofs.Common.{◌≡◌, ℕ, suc, ◌≤◌, Bool, true, false, List, [], ◌∷◌, ◌++◌, length, sym, refl, ap, ◌∙◌, subst, append_assoc, append-nil, arith, length-append}
use Rattle.grammar.specs.Ast.{Json}
use Rattle.grammar.specs.Grammar.{Ws, w_none, Padded, padded, Shows, s_num, Text, Viable}
use Rattle.grammar.specs.Machine.{Stack, St, val, first, members, member, colon, aft, nums, chars, esc, uni, uni_d, seq, lit, Next, bad, go, Out, done, open_end, stuck, step, finish_nums, finish, run, parse}
use Rattle.grammar.specs.Numbers.{may_end, At}
use Rattle.grammar.specs.declared.kinds.Phase.{Phase}
use Rattle.grammar.specs.Laws.{Says, ParseSays, ParseReads, OneTree}
use Rattle.grammar.proofs.Numbers.{ends}
use Rattle.grammar.proofs.Complete.{turn, c_padded}
use Rattle.grammar.proofs.Sound.{Open, o_top, Mean, at_val, at_first, at_members, at_member, at_colon, at_aft, at_nums, at_chars, at_esc, at_uni, at_uni_d, at_seq, at_lit, Good, keep, can_end}

pub reads : ParseReads
reads s j p = (rw append-nil at (c_padded p [] [] tt))

-- what is left over where the automaton stops is an end of the input
rest_turn : (n : Next) (b : ℕ) (t r : List ℕ) → ((m : St) → run m t ≡ stuck r → length r ≤ length t) → turn n b t ≡ stuck r → length r ≤ suc (length t)
rest_turn bad b t r f e = let h : b ∷ t ≡ r = cc in omega (arith, ap length h)
rest_turn (go m) b t r f e = omega (arith, f m e)

rest_nums : (z : Bool) (n : List ℕ) (k : Stack) (r : List ℕ) → finish_nums z n k ≡ stuck r → length r ≤ 0
rest_nums true n [] r e = grind arith
rest_nums true n (f ∷ k) r e = grind arith
rest_nums false n k r e = grind arith

rest_end : (s : St) (r : List ℕ) → finish s ≡ stuck r → length r ≤ 0
rest_end (val d k) r e = grind arith
rest_end (first d k) r e = grind arith
rest_end (members d k) r e = grind arith
rest_end (member d ms k) r e = grind arith
rest_end (colon d ms n k) r e = grind arith
rest_end (aft d j []) r e = grind arith
rest_end (aft d j (f ∷ k)) r e = grind arith
rest_end (nums d p n k) r e = rest_nums (may_end p) n k r e
rest_end (chars d g n k) r e = grind arith
rest_end (esc d g n k) r e = grind arith
rest_end (uni d g n k) r e = grind arith
rest_end (uni_d d g n b k) r e = grind arith
rest_end (seq d g n a c cs k) r e = grind arith
rest_end (lit d l j k) r e = grind arith

pub rest_run : (t : List ℕ) (s : St) (r : List ℕ) → run s t ≡ stuck r → length r ≤ length t
rest_run [] s r e = rest_end s r e
rest_run (b ∷ t) s r e = rest_turn (step s b) b t r (λ m h. rest_run t m r h) e

-- where it stops, it has looked at no byte past the one that it stops at
local_here : (n : Next) (b : ℕ) (r t : List ℕ) → turn n b r ≡ stuck (b ∷ r) → turn n b t ≡ stuck (b ∷ t)
local_here bad b r t e = refl
local_here (go m) b r t e = let h : length (b ∷ r) ≤ length r = rest_run r m (b ∷ r) e in absurd (omega arith)

local_turn : (n : Next) (c b : ℕ) (p r t : List ℕ) → ((m : St) → run m (p ++ (b ∷ r)) ≡ stuck (b ∷ r) → run m (p ++ (b ∷ t)) ≡ stuck (b ∷ t))
    → turn n c (p ++ (b ∷ r)) ≡ stuck (b ∷ r) → turn n c (p ++ (b ∷ t)) ≡ stuck (b ∷ t)
local_turn bad c b p r t f e =
    let h : c ∷ (p ++ (b ∷ r)) ≡ b ∷ r = cc in
    absurd (omega (arith, ap length h, length-append p (b ∷ r)))
local_turn (go m) c b p r t f e = f m e

pub local : (p : List ℕ) (s : St) (b : ℕ) (r t : List ℕ) → run s (p ++ (b ∷ r)) ≡ stuck (b ∷ r) → run s (p ++ (b ∷ t)) ≡ stuck (b ∷ t)
local [] s b r t e = local_here (step s b) b r t e
local (c ∷ p) s b r t e = local_turn (step s c) c b p r t (λ m h. local p m b r t h) e

pub no_more : (p : List ℕ) (b : ℕ) (r : List ℕ) → parse (p ++ (b ∷ r)) ≡ stuck (b ∷ r) → Viable (p ++ (b ∷ [])) → ⊥
no_more p b r e v =
    let h : parse (p ++ (b ∷ v.0)) ≡ done v.1.0 = reads _ _ (rw append_assoc at v.1.1) in
    let g : parse (p ++ (b ∷ v.0)) ≡ stuck (b ∷ v.0) = local p (val 64 []) b r v.0 e in
    grind arith

-- what the automaton has read, and where it stops
abbrev Read : List ℕ → List ℕ → Out → Type 0
Read p t (done j) = Padded 64 j (p ++ t)
Read p t open_end = Viable (p ++ t)
Read p t (stuck r) = (m : List ℕ) × (t ≡ m ++ r) × Viable (p ++ m)

top_shows : {d : ℕ} {p : List ℕ} → Open d [] p → {j : Json} {t w : List ℕ} → Shows d j t → Ws w → Padded 64 j (p ++ (t ++ w))
top_shows (o_top vs) sh ws = padded vs sh ws

read_nums : {d : ℕ} {f : Phase} {p r : List ℕ} (k : Stack) → Open d k p → At f r → (z : Bool) → may_end f ≡ z → Read (p ++ r) [] (finish_nums z r k)
read_nums [] o a true e = rw append-nil (rw append-nil at (top_shows o (s_num (ends a e)) w_none))
read_nums (x ∷ k) o a true e = rw append-nil (can_end (at_nums o a))
read_nums k o a false e = rw append-nil (can_end (at_nums o a))

read_end : {s : St} {p : List ℕ} → Mean s p → Read p [] (finish s)
read_end (at_val o) = rw append-nil (can_end (at_val o))
read_end (at_first o ws) = rw append-nil (can_end (at_first o ws))
read_end (at_members o ws) = rw append-nil (can_end (at_members o ws))
read_end (at_member o ws) = rw append-nil (can_end (at_member o ws))
read_end (at_colon o nm) = rw append-nil (can_end (at_colon o nm))
read_end (at_aft {k = []} o sh ws) = rw append-nil (top_shows o sh ws)
read_end (at_aft {k = x ∷ k} o sh ws) = rw append-nil (can_end (at_aft o sh ws))
read_end (at_nums {k = k} {f = f} o a) = read_nums k o a (may_end f) refl
read_end (at_chars o cs) = rw append-nil (can_end (at_chars o cs))
read_end (at_esc o cs) = rw append-nil (can_end (at_esc o cs))
read_end (at_uni o cs) = rw append-nil (can_end (at_uni o cs))
read_end (at_uni_d b o cs h) = rw append-nil (can_end (at_uni_d b o cs h))
read_end (at_seq {r = r} {a = a} o s f) = rw append-nil (can_end (at_seq {r = r} {a = a} o s f))
read_end (at_lit a o sh) = rw append-nil (can_end (at_lit a o sh))

read_on : (p : List ℕ) (b : ℕ) (t : List ℕ) (o : Out) → Read (p ++ (b ∷ [])) t o → Read p (b ∷ t) o
read_on p b t (done j) h = rw append_assoc at h
read_on p b t open_end h = rw append_assoc at h
read_on p b t (stuck r) h = (b ∷ h.0, ap (λ (x : List ℕ). b ∷ x) h.1, rw append_assoc at h.2)

read_turn : (p : List ℕ) (n : Next) (b : ℕ) (t : List ℕ) → Viable p → Good n (p ++ (b ∷ [])) → ((m : St) → Mean m (p ++ (b ∷ [])) → Read (p ++ (b ∷ [])) t (run m t)) → Read p (b ∷ t) (turn n b t)
read_turn p bad b t v g f = ([], refl, rw append-nil v)
read_turn p (go m) b t v g f = read_on p b t (run m t) (f m g)

read : (t : List ℕ) {s : St} {p : List ℕ} → Mean s p → Read p t (run s t)
read [] m = read_end m
read (b ∷ t) {s} {p} m = read_turn p (step s b) b t (can_end m) (keep m b) (λ n g. read t g)

says_of : (s : List ℕ) (o : Out) → parse s ≡ o → Read [] s o → Says s o
says_of s (done j) e h = h
says_of s open_end e h = (h, λ x. never s x e)
  where
    never : (s : List ℕ) → Text s → parse s ≡ open_end → ⊥
    never s x e = let g : parse s ≡ done x.0 = reads s x.0 x.1 in grind arith
says_of s (stuck r) e h = (h.0, record { splits = h.1; starts = h.2; ends = λ b t q v. no_more h.0 b t (subst (λ (x : List ℕ). parse (h.0 ++ x) ≡ stuck x) q (subst (λ (x : List ℕ). parse x ≡ stuck r) h.1 e)) v })

pub says : ParseSays
says s = says_of s (parse s) refl (read s (at_val (o_top w_none)))

pub one_tree_lem : OneTree
one_tree_lem s i j p q = let e : done i ≡ done j = sym (reads s i p) ∙ reads s j q in cc
