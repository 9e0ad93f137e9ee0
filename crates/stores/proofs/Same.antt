-- Equal stores answer alike, and pairs are told by their look-ups.
-- Assumes nothing.
use Rattle.std.proofs.Common.{◌≡◌, ℕ, Bool, true, false, [], ◌∷◌, Some, None, sym, refl, ap, ◌∙◌, subst, inl, inr}
use Rattle.text.specs.Bytes.{Bytes, same, before}
use Rattle.stores.specs.Pairs.{Pair, Pairs, pair, lookup, AllAbove, Ascends}
use Rattle.stores.specs.Answers.{got, key_after, child_after}
use Rattle.stores.specs.Laws.{EqualStoresAnswerAlike, LookUpsTellPairs}
use Rattle.text.proofs.Order.{Either, same_refl, same_eq, before_either}
use Rattle.stores.proofs.Mounts.{above_trans}
use Rattle.stores.proofs.Changes.{above_absent}

pub equal_stores_answer_alike_lem : EqualStoresAnswerAlike
equal_stores_answer_alike_lem longest other ps qs l e = record {
  gets = λ k size. ap (λ (x : ℕ). got x ps k size) l ∙ ap (λ (y : Pairs). got other y k size) e;
  keys = λ p after size. ap (λ (x : ℕ). key_after x ps p after size) l ∙ ap (λ (y : Pairs). key_after other y p after size) e;
  children = λ p after size. ap (λ (x : ℕ). child_after x ps p after size) l ∙ ap (λ (y : Pairs). child_after other y p after size) e;
}

first : (a : Pair) (ps : Pairs) → lookup a.key (a ∷ ps) ≡ Some a.value
first a ps = simp (same_refl a.key)

apart : {A : Type 0} (v : Bytes) → Some v ≡ None → A
apart v e = absurd (cc)

-- the least key of one list is not in the other if it comes before all of that
less : (a b : Pair) (ps qs : Pairs) → Ascends (b ∷ qs) → before a.key b.key ≡ true → lookup a.key (a ∷ ps) ≡ lookup a.key (b ∷ qs) → Some a.value ≡ None
less a b ps qs h l e = sym (first a ps) ∙ e ∙ above_absent a.key (b ∷ qs) (l, above_trans a.key b.key qs l h.0)

tails : (a b : Pair) (ps qs : Pairs) (k : Bytes) (s : Bool) → same k a.key ≡ s → a.key ≡ b.key → Ascends (a ∷ ps) → Ascends (b ∷ qs) → lookup k (a ∷ ps) ≡ lookup k (b ∷ qs) → lookup k ps ≡ lookup k qs
tails a b ps qs k true es j h g e =
    let i : k ≡ a.key = same_eq k a.key es in
    above_absent k ps (subst (λ (x : Bytes). AllAbove x ps) (sym i) h.0) ∙ sym (above_absent k qs (subst (λ (x : Bytes). AllAbove x qs) (sym (i ∙ j)) g.0))
tails a b ps qs k false es j h g e =
    let f : same k b.key ≡ false = ap (same k) (sym j) ∙ es in
    let l : lookup k (a ∷ ps) ≡ lookup k ps = simp es in
    let r : lookup k (b ∷ qs) ≡ lookup k qs = simp f in
    sym l ∙ e ∙ r

pub look_ups_tell_pairs_lem : LookUpsTellPairs
look_ups_tell_pairs_lem [] [] h g e = refl
look_ups_tell_pairs_lem [] (b ∷ qs) h g e = apart b.value (sym (e b.key ∙ first b qs))
look_ups_tell_pairs_lem (a ∷ ps) [] h g e = apart a.value (sym (first a ps) ∙ e a.key)
look_ups_tell_pairs_lem (a ∷ ps) (b ∷ qs) h g e = by a b ps qs h g e (before_either a.key b.key) (look_ups_tell_pairs_lem ps qs h.1 g.1)
  where
    by : (a b : Pair) (ps qs : Pairs) → Ascends (a ∷ ps) → Ascends (b ∷ qs) → ((k : Bytes) → lookup k (a ∷ ps) ≡ lookup k (b ∷ qs)) → Either a.key b.key → (((k : Bytes) → lookup k ps ≡ lookup k qs) → ps ≡ qs) → ◌≡◌ {A = Pairs} (a ∷ ps) (b ∷ qs)
    by a b ps qs h g e (inl l) ih = apart a.value (less a b ps qs g l (e a.key))
    by a b ps qs h g e (inr (inr l)) ih = apart b.value (less b a qs ps h l (sym (e b.key)))
    by a b ps qs h g e (inr (inl j)) ih =
        let t : ps ≡ qs = ih (λ k. tails a b ps qs k (same k a.key) refl j h g (e k)) in
        let v : Some a.value ≡ Some b.value = sym (first a ps) ∙ e a.key ∙ ap (λ (x : Bytes). lookup x (b ∷ qs)) j ∙ first b qs in
        let w : a.value ≡ b.value = cc in
        let p : a ≡ b = ap (λ (x : Bytes). pair x a.value) j ∙ ap (λ (x : Bytes). pair b.key x) w in
        ap (λ (x : Pair). x ∷ ps) p ∙ ap (λ (x : Pairs). b ∷ x) t
