-- Turns of the loop over a key's bytes, and what its answer says.
-- Assumes nothing.
use Rattle.std.proofs.Common.{◌≡◌, ℕ, ◌+◌, ◌<◌, ◌≤◌, Bool, true, false, cond, not, eqb, [], ◌∷◌, length, get_or, drop, Some, None, Option, sym, refl, ap, ◌∙◌}
use Rattle.std.proofs.lemmas.List.{drop_more, drop_all}
use mathlib.Core.Bool.{beq}
use Rattle.std.specs.Option.{option_eq}
use Rattle.text.specs.Bytes.{Bytes}
use Rattle.keys.specs.Keys.{key_form, prefix_form, ends_fresh, form}

-- what the flag and the byte at i say
ends_here : (f : Bool) (t : Bytes) (i : ℕ) (s : Bool) → i < length t → eqb (get_or t i 0) 47 ≡ s → ends_fresh f (drop i t) ≡ cond s (cond f None (ends_fresh true (drop (i + 1) t))) (ends_fresh false (drop (i + 1) t))
ends_here f t i s h e = ap (ends_fresh f) (drop_more t i 0 h) ∙ ap (λ (b : Bool). cond b (cond f None (ends_fresh true (drop (i + 1) t))) (ends_fresh false (drop (i + 1) t))) e

pub refused_here : (t : Bytes) (i : ℕ) → i < length t → eqb (get_or t i 0) 47 ≡ true → ends_fresh true (drop i t) ≡ None
refused_here t i h e = ends_here true t i true h e

pub one_on : (f : Bool) (t : Bytes) (i : ℕ) → i < length t → (f ≡ true → eqb (get_or t i 0) 47 ≡ true → ⊥) → ends_fresh f (drop i t) ≡ ends_fresh (eqb (get_or t i 0) 47) (drop (i + 1) t)
one_on f t i h n =
    (elim (eqb (get_or t i 0) 47) as (λ s. eqb (get_or t i 0) 47 ≡ s → ends_fresh f (drop i t) ≡ ends_fresh s (drop (i + 1) t)) [
      | true ↦ λ e. ends_here f t i true h e ∙ by f (λ g. n g e)
      | false ↦ λ e. ends_here f t i false h e
    ]) refl
  where
    by : (g : Bool) → (g ≡ true → ⊥) → cond g None (ends_fresh true (drop (i + 1) t)) ≡ ends_fresh true (drop (i + 1) t)
    by true k = absurd (k refl)
    by false k = refl

pub at_end : (f : Bool) (t : Bytes) (i : ℕ) → length t ≤ i → ends_fresh f (drop i t) ≡ Some f
at_end f t i h = ap (ends_fresh f) (drop_all i t h)

-- ---- the forms

abbrev key_answer : Option Bool → Bool
key_answer (Some x) = not x
key_answer None = false

abbrev prefix_answer : Option Bool → Bool
prefix_answer (Some x) = x
prefix_answer None = false

key_answer_lem : (f : Bool) (t : Bytes) → key_form f t ≡ key_answer (ends_fresh f t)
key_answer_lem f [] = refl
key_answer_lem f (b ∷ t) =
    (elim (eqb b 47) as (λ s. cond s (cond f false (key_form true t)) (key_form false t) ≡ key_answer (cond s (cond f None (ends_fresh true t)) (ends_fresh false t))) [
      | true ↦ (elim f as (λ g. cond g false (key_form true t) ≡ key_answer (cond g None (ends_fresh true t))) [ true ↦ refl | false ↦ key_answer_lem true t ])
      | false ↦ key_answer_lem false t
    ])

prefix_answer_lem : (f : Bool) (t : Bytes) → prefix_form f t ≡ prefix_answer (ends_fresh f t)
prefix_answer_lem f [] = refl
prefix_answer_lem f (b ∷ t) =
    (elim (eqb b 47) as (λ s. cond s (cond f false (prefix_form true t)) (prefix_form false t) ≡ prefix_answer (cond s (cond f None (ends_fresh true t)) (ends_fresh false t))) [
      | true ↦ (elim f as (λ g. cond g false (prefix_form true t) ≡ prefix_answer (cond g None (ends_fresh true t))) [ true ↦ refl | false ↦ prefix_answer_lem true t ])
      | false ↦ prefix_answer_lem false t
    ])

key_of : (f : Bool) (t : Bytes) (o : Option Bool) → o ≡ ends_fresh f t → key_answer o ≡ key_form f t
key_of f t o e = ap key_answer e ∙ sym (key_answer_lem f t)

prefix_of_lem : (f : Bool) (t : Bytes) (o : Option Bool) → o ≡ ends_fresh f t → prefix_answer o ≡ prefix_form f t
prefix_of_lem f t o e = ap prefix_answer e ∙ sym (prefix_answer_lem f t)

-- the answer that is asked for, of either form
pub form_answer : (trailing : Bool) (t : Bytes) (o : Option Bool) → o ≡ ends_fresh true t → option_eq beq o (Some trailing) ≡ form trailing t
form_answer true t o e = as_trailing o ∙ prefix_of_lem true t o e
  where
    as_trailing : (q : Option Bool) → option_eq beq q (Some true) ≡ prefix_answer q
    as_trailing None = refl
    as_trailing (Some true) = refl
    as_trailing (Some false) = refl
form_answer false t o e = as_key o ∙ key_of true t o e
  where
    as_key : (q : Option Bool) → option_eq beq q (Some false) ≡ key_answer q
    as_key None = refl
    as_key (Some true) = refl
    as_key (Some false) = refl
