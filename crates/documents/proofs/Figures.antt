-- Numbers.
-- Assumes nothing.
use Rattle.std.proofs.Common.{◌≡◌, ℕ, true, List, [], ◌∷◌, ◌++◌, length, Some, None, Option, sym, refl, ap, ◌∙◌, subst, append_assoc, append-nil}
use Rattle.grammar.specs.Ast.{num}
use Rattle.grammar.specs.Machine.{Stack, aft, nums, end_nums, step_nums, finish_nums, run}
use Rattle.grammar.specs.Numbers.{next, may_end, At}
use Rattle.grammar.specs.declared.kinds.Phase.{Phase}
use Rattle.grammar.proofs.Complete.{hop}
use Rattle.grammar.proofs.Numbers.{Goes, goes_on, ends}
use Rattle.documents.specs.Reading.{Part, GotNumber}
use Rattle.documents.proofs.Parts.{empty, same_at}

-- a number that had come to one phase has come to another
pub record NumberAt (p : Phase) (s : List ℕ) (q : Phase) (r : List ℕ) : Type 0 where
  pub part : Part (λ t. (x : List ℕ) → At p x → At q (x ++ t)) s r
  pub goes : (d : ℕ) (x : List ℕ) (k : Stack) → run (nums d p x k) s ≡ run (nums d q (x ++ part.text) k) r

pub n_begin : (p : Phase) (s : List ℕ) → NumberAt p s p s
n_begin p s =
    record {
      part = record { text = []; splits = refl; holds = λ x a. rw append-nil a };
      goes = λ d x k. rw append-nil refl;
    }

pub n_more : (p q o : Phase) (s r u : List ℕ) (b : ℕ) → NumberAt p s q r → r ≡ b ∷ u → next q b ≡ Some o → NumberAt p s o u
n_more p q o s r u b n h e =
    let t : List ℕ = n.part.text in
    record {
      part = record {
        text = t ++ (b ∷ []);
        splits = n.part.splits ∙ (ap (λ (x : List ℕ). t ++ x) h ∙ sym (append_assoc t (b ∷ []) u));
        holds = λ x z. rw (← append_assoc x t (b ∷ [])) (subst (λ (w : Option Phase). Goes w ((x ++ t) ++ (b ∷ []))) e (goes_on (n.part.holds x z) b));
      };
      goes = λ d x k.
          n.goes d x k ∙ (rw h (hop d q o (x ++ t) k b u e) ∙ ap (λ (y : List ℕ). run (nums d o y k) u) (append_assoc x t (b ∷ [])));
    }

-- no more of the number comes
abbrev pub Over : Phase → List ℕ → Type 0
Over q [] = Unit {0}
Over q (b ∷ u) = next q b ≡ None

pub over_end : (q : Phase) (r : List ℕ) → length r ≡ 0 → Over q r
over_end q r h = subst (λ (x : List ℕ). Over q x) (sym (empty r h)) tt

pub over_at : (q : Phase) (r u : List ℕ) (b : ℕ) → r ≡ b ∷ u → next q b ≡ None → Over q r
over_at q r u b h e = subst (λ (x : List ℕ). Over q x) (sym h) e

over_ends : (q : Phase) (r : List ℕ) → Over q r → may_end q ≡ true → (d : ℕ) (x : List ℕ) (k : Stack) → run (nums d q x k) r ≡ run (aft d (num x) k) r
over_ends q [] o ok d x k = ap (λ z. finish_nums z x k) ok
over_ends q (b ∷ u) o ok d x k =
    same_at (nums d q x k) (aft d (num x) k) (b ∷ u) u b refl (ap (λ y. step_nums y b d q x k) o ∙ ap (λ z. end_nums z b d x k) ok)

pub n_ends : (p q : Phase) (s r : List ℕ) → NumberAt p s q r → Over q r → may_end q ≡ true → GotNumber p s r
n_ends p q s r n o ok =
    let t : List ℕ = n.part.text in
    record {
      part = record { text = t; splits = n.part.splits; holds = λ x a. ends (n.part.holds x a) ok };
      goes = λ d x k. n.goes d x k ∙ over_ends q r o ok d (x ++ t) k;
    }
