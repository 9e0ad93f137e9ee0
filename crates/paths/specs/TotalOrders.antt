-- Path order is a strict total order, and as an order of the library it is total and says equal exactly where the test of equality does.
-- The proofs stand here because the code's comparisons cite them.
-- Assumes nothing.
use Rattle.std.proofs.Common.{◌≡◌, Bool, true, false, cond, ◌&&◌, ◌⊎◌, [], ◌∷◌, sym, refl, ap, ◌∙◌, subst, inl, inr}
use borrow.Author.Tests.{clash}
use Rattle.std.proofs.lemmas.Bool.{and_parts}
use Rattle.std.specs.Cmp.{IsTotalOrder, IsEquivalence}
use Rattle.std.specs.Ordering.{eq_by_cmp}
use Rattle.text.specs.Bytes.{same, before}
use Rattle.text.proofs.Order.{same_refl, same_eq, before_trans, before-alone, before_either}
use Rattle.text.proofs.TotalOrders.{total, equivalence, ties}
use Rattle.paths.specs.Paths.{Name, Path, same_path, path_before, path_order}

longer : (n m : Name) (p q : Path) → n ≡ m → p ≡ q → (n ∷ p) ≡ (m ∷ q)
longer n m p q e i = ap (λ (x : Name). x ∷ p) e ∙ ap (λ (r : Path). m ∷ r) i

never : {A : Type 0} → true ≡ false → A
never h = absurd (clash (sym h))

-- ---- a strict total order

pub path_head : (n : Name) (p q : Path) → path_before (n ∷ p) (n ∷ q) ≡ path_before p q
path_head n p q = ap (λ (b : Bool). cond b (path_before p q) (before n n)) (same_refl n)

pub path_alone : (p : Path) → path_before p p ≡ false
path_alone [] = refl
path_alone (n ∷ p) = path_head n p p ∙ path_alone p

not_same : (n m : Name) → before n m ≡ true → same n m ≡ false
not_same n m h =
    (elim (same n m) as (λ b. same n m ≡ b → b ≡ false) [
      | true ↦ λ e. never (sym h ∙ (ap (λ (x : Name). before x m) (same_eq n m e) ∙ before-alone m))
      | false ↦ λ e. refl
    ]) refl

pub path_names : (n m : Name) (p q : Path) → before n m ≡ true → path_before (n ∷ p) (m ∷ q) ≡ true
path_names n m p q h = ap (λ (b : Bool). cond b (path_before p q) (before n m)) (not_same n m h) ∙ h

-- two paths of which the first comes first: their first names are equal, or differ so
abbrev First : Name → Path → Name → Path → Type 0
First n p m q = ((n ≡ m) × (path_before p q ≡ true)) ⊎ (before n m ≡ true)

first_names : (n m : Name) (p q : Path) → path_before (n ∷ p) (m ∷ q) ≡ true → First n p m q
first_names n m p q h =
    (elim (same n m) as (λ b. same n m ≡ b → cond b (path_before p q) (before n m) ≡ true → First n p m q)
    [ true ↦ λ e t. inl (same_eq n m e, t) | false ↦ λ e t. inr t ]) refl h

pub path_chain : (p q r : Path) → path_before p q ≡ true → path_before q r ≡ true → path_before p r ≡ true
path_chain [] [] r h k = k
path_chain [] (m ∷ q) [] h k = k
path_chain [] (m ∷ q) (l ∷ r) h k = refl
path_chain (n ∷ p) [] r h k = never (sym h)
path_chain (n ∷ p) (m ∷ q) [] h k = k
path_chain (n ∷ p) (m ∷ q) (l ∷ r) h k = by (first_names n m p q h) (first_names m l q r k) (path_chain p q r)
  where
    by : First n p m q → First m q l r → (path_before p q ≡ true → path_before q r ≡ true → path_before p r ≡ true) → path_before (n ∷ p) (l ∷ r) ≡ true
    by (inl a) (inl b) i = subst (λ (x : Name). path_before (n ∷ p) (x ∷ r) ≡ true) (a.0 ∙ b.0) (path_head n p r ∙ i a.1 b.1)
    by (inl a) (inr b) i = path_names n l p r (ap (λ (x : Name). before x l) a.0 ∙ b)
    by (inr a) (inl b) i = path_names n l p r (ap (before n) (sym b.0) ∙ a)
    by (inr a) (inr b) i = path_names n l p r (before_trans n m l a b)

pub path_either : (p q : Path) → (path_before p q ≡ true) ⊎ ((p ≡ q) ⊎ (path_before q p ≡ true))
path_either [] [] = inr (inl refl)
path_either [] (m ∷ q) = inl refl
path_either (n ∷ p) [] = inr (inr refl)
path_either (n ∷ p) (m ∷ q) = by (before_either n m) (path_either p q)
  where
    by : (before n m ≡ true) ⊎ ((n ≡ m) ⊎ (before m n ≡ true)) → (path_before p q ≡ true) ⊎ ((p ≡ q) ⊎ (path_before q p ≡ true))
        → (path_before (n ∷ p) (m ∷ q) ≡ true) ⊎ (((n ∷ p) ≡ (m ∷ q)) ⊎ (path_before (m ∷ q) (n ∷ p) ≡ true))
    by (inl a) i = inl (path_names n m p q a)
    by (inr (inr a)) i = inr (inr (path_names m n q p a))
    by (inr (inl e)) (inl i) = inl (subst (λ (x : Name). path_before (n ∷ p) (x ∷ q) ≡ true) e (path_head n p q ∙ i))
    by (inr (inl e)) (inr (inl i)) = inr (inl (longer n m p q e i))
    by (inr (inl e)) (inr (inr i)) = inr (inr (subst (λ (x : Name). path_before (x ∷ q) (n ∷ p) ≡ true) e (path_head n q p ∙ i)))

-- ---- the same path

pub same_path_refl : (p : Path) → same_path p p ≡ true
same_path_refl [] = refl
same_path_refl (n ∷ p) = ap (λ (b : Bool). b && same_path p p) (same_refl n) ∙ same_path_refl p

pub same_path_eq : (p q : Path) → same_path p q ≡ true → p ≡ q
same_path_eq [] [] h = refl
same_path_eq [] (m ∷ q) h = never (sym h)
same_path_eq (n ∷ p) [] h = never (sym h)
same_path_eq (n ∷ p) (m ∷ q) h =
    let a = and_parts (same n m) (same_path p q) h in
    longer n m p q (same_eq n m a.0) (same_path_eq p q a.1)

-- ---- as an order of the library

pub path_order_total : IsTotalOrder path_order
path_order_total = total same_path path_before same_path_refl same_path_eq path_alone path_chain path_either

pub same_path_equivalence : IsEquivalence same_path
same_path_equivalence = equivalence same_path path_before same_path_refl same_path_eq path_alone path_chain path_either

pub same_path_ties : (p q : Path) → same_path p q ≡ eq_by_cmp path_order p q
same_path_ties p q = ties (same_path p q) (path_before p q)
