-- Parts of bytes, put together, and the automaton's steps.
-- Assumes nothing.
use Rattle.std.proofs.Common.{◌≡◌, ℕ, ◌-◌, true, List, [], ◌∷◌, ◌++◌, length, take, drop, sym, refl, ap, ◌∙◌, append_assoc, arith, length-drop, take_all}
use Rattle.grammar.specs.Grammar.{Ws}
use Rattle.grammar.specs.Machine.{St, bad, go, open_end, stuck, step, finish, run, stopped}
use Rattle.grammar.specs.Terminals.{is_blank}
use Rattle.grammar.proofs.Complete.{turn, run_go, run-same, r_ws}
use Rattle.documents.specs.Reading.{Part}

pub part_none : (P : List ℕ → Type 0) (s : List ℕ) → P [] → Part P s s
part_none P s p = record { text = []; splits = refl; holds = p }

pub part_one : (P : List ℕ → Type 0) (s r : List ℕ) (b : ℕ) → s ≡ b ∷ r → P (b ∷ []) → Part P s r
part_one P s r b e p = record { text = b ∷ []; splits = e; holds = p }

pub part_then : (P Q R : List ℕ → Type 0) (s r q : List ℕ) → ((t u : List ℕ) → P t → Q u → R (t ++ u)) → Part P s r → Part Q r q → Part R s q
part_then P Q R s r q f p o = record { text = p.text ++ o.text; splits = p.splits ∙ (ap (λ (x : List ℕ). p.text ++ x) o.splits ∙ sym (append_assoc p.text o.text q)); holds = f p.text o.text p.holds o.holds }

abbrev pub Byte : ℕ → List ℕ → Type 0
Byte b t = t ≡ b ∷ []

pub part_byte : (b : ℕ) (s r : List ℕ) → s ≡ b ∷ r → Part (Byte b) s r
part_byte b s r e = part_one (Byte b) s r b e refl

-- one byte more
pub part_more : (P : List ℕ → Type 0) (s r q : List ℕ) (b : ℕ) → ((t : List ℕ) → P t → P (t ++ (b ∷ []))) → Part P s r → r ≡ b ∷ q → Part P s q
part_more P s r q b f p e = part_then P (Byte b) P s r q (λ t u x y. rw y (f t x)) p (part_byte b r q e)

-- one byte in front
pub part_front : (P Q : List ℕ → Type 0) (s r q : List ℕ) (b : ℕ) → s ≡ b ∷ r → ((t : List ℕ) → P t → Q (b ∷ t)) → Part P r q → Part Q s q
part_front P Q s r q b e f p = record { text = b ∷ p.text; splits = e ∙ ap (λ (x : List ℕ). b ∷ x) p.splits; holds = f p.text p.holds }

pub part_as : {P Q : List ℕ → Type 0} {s r : List ℕ} → Part P s r → ((t : List ℕ) → P t → Q t) → Part Q s r
part_as p f = record { text = p.text; splits = p.splits; holds = f p.text p.holds }

pub empty : (s : List ℕ) → length s ≡ 0 → s ≡ []
empty [] h = refl
empty (b ∷ s) h = absurd (omega arith)

-- a slice up to its end
pub to_end : (s : List ℕ) (n : ℕ) → take (length s - n) (drop n s) ≡ drop n s
to_end s n = take_all (length s - n) (drop n s) (omega (arith, length-drop n s))

-- ---- white space

pub skip : {s r : List ℕ} (m : St) → ((b : ℕ) → is_blank b ≡ true → step m b ≡ go m) → Part Ws s r → run m s ≡ run m r
skip {s} {r} m f p = rw p.splits (r_ws m f p.holds r)

-- ---- a step
run_bad : (s : St) (b : ℕ) (t : List ℕ) → step s b ≡ bad → run s (b ∷ t) ≡ stuck (b ∷ t)
run_bad s b t e = ap (λ x. turn x b t) e

pub go_at : (m n : St) (s r : List ℕ) (b : ℕ) → s ≡ b ∷ r → step m b ≡ go n → run m s ≡ run n r
go_at m n s r b h e = rw h (run_go m b r n e)

pub bad_at : (m : St) (s r : List ℕ) (b : ℕ) → s ≡ b ∷ r → step m b ≡ bad → run m s ≡ stopped s
bad_at m s r b h e = rw h (run_bad m b r e)

pub end_at : (m : St) (s : List ℕ) → length s ≡ 0 → finish m ≡ open_end → run m s ≡ stopped s
end_at m s h e = rw (empty s h) e

pub same_at : (m n : St) (s r : List ℕ) (b : ℕ) → s ≡ b ∷ r → step m b ≡ step n b → run m s ≡ run n s
same_at m n s r b h e = rw h (run-same m n b r e)
