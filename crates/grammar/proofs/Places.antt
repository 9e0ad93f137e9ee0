-- Where the bytes stop being a start of a text, as a place in them.
-- Assumes nothing.
use Rattle.std.proofs.Common.{◌≡◌, ℕ, ◌-◌, ◌≤◌, ◌⊎◌, List, [], ◌∷◌, ◌++◌, length, take, drop, sym, refl, ap, ◌∙◌, subst, inl, inr, append-nil, arith, length-append, length-drop, take-append-drop, take_at, drop_at}
use Rattle.grammar.specs.Ast.{Json}
use Rattle.grammar.specs.Grammar.{Text, Viable}
use Rattle.grammar.specs.Machine.{St, val, Next, bad, go, step, Out, done, open_end, stuck, run, parse, stopped}
use Rattle.grammar.proofs.Complete.{turn}
use Rattle.grammar.specs.Laws.{Longest, Says, Refused, TextOrLongest}
use Rattle.grammar.proofs.Answered.{reads, says, rest_run}

no_text_if : (s : List ℕ) (o : Out) → parse s ≡ o → ((j : Json) → o ≡ done j → ⊥) → Text s → ⊥
no_text_if s o e f x = f x.0 (sym e ∙ reads s x.0 x.1)

refused_at : (s : List ℕ) (q : ℕ) (r : List ℕ) → q ≤ length s → drop q s ≡ r → parse s ≡ stopped r → Refused s q
refused_at s q [] h e g =
    let x : Says s open_end = subst (Says s) g (says s) in
    let all : s ≡ take q s = sym (take-append-drop q s) ∙ (ap (λ (y : List ℕ). take q s ++ y) e ∙ append-nil (take q s)) in
    record {
      within = h;
      longest = record {
        splits = sym (take-append-drop q s);
        starts = subst Viable all x.0;
        ends = λ b t z v. (grind arith);
      };
      no_text = x.1;
    }
refused_at s q (b ∷ r) h e g =
    let x : Says s (stuck (b ∷ r)) = subst (Says s) g (says s) in
    let p : List ℕ = x.0 in
    let lp : length p ≡ q = omega (arith, ap length x.1.splits, length-append p (b ∷ r), ap length e, length-drop q s) in
    let same : p ≡ take q s = sym (ap (λ (y : List ℕ). take q y) x.1.splits ∙ take_at p (b ∷ r) q lp) in
    record {
      within = h;
      longest = subst (λ (y : List ℕ). Longest s (take q s) y) (sym e) (subst (λ (y : List ℕ). Longest s y (b ∷ r)) same x.1);
      no_text = no_text_if s (stuck (b ∷ r)) g (λ j z. (grind arith));
    }

-- where the automaton stops before what is left, that place is refused
pub refused : (s : List ℕ) (q : ℕ) → q ≤ length s → parse s ≡ stopped (drop q s) → Refused s q
refused s q h g = refused_at s q (drop q s) h refl g

-- what the automaton leaves is an end of the bytes
left_turn : (n : Next) (c b : ℕ) (t r : List ℕ) → ((m : St) → run m t ≡ stuck (b ∷ r) → (p : List ℕ) × (t ≡ p ++ (b ∷ r))) → turn n c t ≡ stuck (b ∷ r) → (p : List ℕ) × (c ∷ t ≡ p ++ (b ∷ r))
left_turn bad c b t r f e = let h : c ∷ t ≡ b ∷ r = cc in ([], h)
left_turn (go m) c b t r f e = let x = f m e in (c ∷ x.0, ap (λ (y : List ℕ). c ∷ y) x.1)

left_stuck : (s : List ℕ) (m : St) (b : ℕ) (r : List ℕ) → run m s ≡ stuck (b ∷ r) → (p : List ℕ) × (s ≡ p ++ (b ∷ r))
left_stuck [] m b r e = let h : length (b ∷ r) ≤ 0 = rest_run [] m (b ∷ r) e in absurd (omega arith)
left_stuck (c ∷ t) m b r e = left_turn (step m c) c b t r (λ n h. left_stuck t n b r h) e

pub left_over : (s : List ℕ) (m : St) (r : List ℕ) → run m s ≡ stopped r → (p : List ℕ) × (s ≡ p ++ r)
left_over s m [] e = (s, sym (append-nil s))
left_over s m (b ∷ r) e = left_stuck s m b r e

-- its place, counted from the front
pub place_of : (s p r : List ℕ) → s ≡ p ++ r → (length s - length r ≤ length s) × (drop (length s - length r) s ≡ r)
place_of s p r e =
    let n : length p ≡ length s - length r = omega (arith, ap length e, length-append p r) in
    (omega (arith, ap length e, length-append p r), ap (λ (x : List ℕ). drop (length s - length r) x) e ∙ drop_at p r (length s - length r) n)

pub refused_before : (s r : List ℕ) → parse s ≡ stopped r → Refused s (length s - length r)
refused_before s r e =
    let x = left_over s (val 64 []) r e in
    let y = place_of s x.0 r x.1 in
    refused s (length s - length r) y.0 (e ∙ ap stopped (sym y.1))

split_refused : (s p r : List ℕ) → Longest s p r → (Text s → ⊥) → Refused s (length p)
split_refused s p r l n =
    let same : take (length p) s ≡ p = ap (λ (y : List ℕ). take (length p) y) l.splits ∙ take_at p r (length p) refl in
    let rest : drop (length p) s ≡ r = ap (λ (y : List ℕ). drop (length p) y) l.splits ∙ drop_at p r (length p) refl in
    record {
      within = omega (arith, ap length l.splits, length-append p r);
      longest = subst (λ (y : List ℕ). Longest s (take (length p) s) y) (sym rest) (subst (λ (y : List ℕ). Longest s y r) (sym same) l);
      no_text = n;
    }

either : (s : List ℕ) (o : Out) → parse s ≡ o → Says s o → Text s ⊎ ((n : ℕ) × Refused s n)
either s (done j) e x = inl (j, x)
either s open_end e x =
    inr (length s, split_refused s s [] (record { splits = sym (append-nil s); starts = x.0; ends = λ b t z v. (grind arith) }) x.1)
either s (stuck r) e x = inr (length x.0, split_refused s x.0 r x.1 (no_text_if s (stuck r) e (λ j z. (grind arith))))

pub text_or_longest : TextOrLongest
text_or_longest s = either s (parse s) refl (says s)
