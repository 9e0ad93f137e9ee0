-- The smallest of some texts that is greater than given bytes.
-- Assumes nothing.
use Rattle.std.proofs.Common.{◌≡◌, Bool, true, false, cond, ◌⊎◌, List, [], ◌∷◌, Some, None, Option, refl, ap, ◌∙◌, inl, inr}
use Rattle.std.proofs.lemmas.Bool.{both_ways, cases_Bool}
use Rattle.text.specs.Bytes.{Bytes, before}
use Rattle.text.specs.Utf8.{In}
use Rattle.text.proofs.Order.{before-alone, before_asym}
use Rattle.stores.specs.Pairs.{lower, least}
use Rattle.runs.proofs.Parted.{not_before_is, before_upto}

abbrev pub Least : Bytes → List Bytes → Option Bytes → Type 0
Least after xs None = (y : Bytes) → In y xs → before after y ≡ false
Least after xs (Some x) = In x xs × (before after x ≡ true) × ((y : Bytes) → In y xs → before after y ≡ true → before y x ≡ false)

-- y is not before x, and x not behind z: y is not before z
not_before_trans : (x y z : Bytes) → before y x ≡ false → before x z ≡ false → before y z ≡ false
not_before_trans x y z h k = by (cases_Bool (before y z))
  where
    by : (before y z ≡ true) ⊎ (before y z ≡ false) → before y z ≡ false
    by (inl e) = absurd (both_ways (before y x) h (before_upto y z x e k))
    by (inr e) = e

over : (after x : Bytes) (xs : List Bytes) → before after x ≡ false → (o : Option Bytes) → Least after xs o → Least after (x ∷ xs) o
over after x xs h None l = λ y i. elim i [ inl e ↦ ap (before after) e ∙ h | inr j ↦ l y j ]
over after x xs h (Some z) l = (inr l.0, l.1, λ y i g. elim i [ inl e ↦ absurd (both_ways (before after y) (ap (before after) e ∙ h) g) | inr j ↦ l.2 y j g ])

both : (after x z : Bytes) (xs : List Bytes) (b : Bool) → before x z ≡ b → before after x ≡ true → Least after xs (Some z) → Least after (x ∷ xs) (Some (cond b x z))
both after x z xs true e h l = (inl refl, h, λ y i g. elim i [ inl q ↦ ap (λ (w : Bytes). before w x) q ∙ before-alone x | inr j ↦ not_before_trans z y x (l.2 y j g) (before_asym x z e) ])
both after x z xs false e h l = (inr l.0, l.1, λ y i g. elim i [ inl q ↦ ap (λ (w : Bytes). before w z) q ∙ e | inr j ↦ l.2 y j g ])

onto : (after x : Bytes) (xs : List Bytes) → before after x ≡ true → (o : Option Bytes) → Least after xs o → Least after (x ∷ xs) (lower x o)
onto after x xs h None l = (inl refl, h, λ y i g. elim i [ inl q ↦ ap (λ (w : Bytes). before w x) q ∙ before-alone x | inr j ↦ absurd (both_ways (before after y) (l y j) g) ])
onto after x xs h (Some z) l = both after x z xs (before x z) refl h l

step : (after x : Bytes) (xs : List Bytes) (b : Bool) → before after x ≡ b → Least after xs (least after xs) → Least after (x ∷ xs) (cond b (lower x (least after xs)) (least after xs))
step after x xs true e l = onto after x xs e (least after xs) l
step after x xs false e l = over after x xs e (least after xs) l

pub least_is : (after : Bytes) (xs : List Bytes) → Least after xs (least after xs)
least_is after [] = λ y i. absurd i
least_is after (x ∷ xs) = step after x xs (before after x) refl (least_is after xs)

only : (after : Bytes) (xs : List Bytes) (o q : Option Bytes) → Least after xs o → Least after xs q → o ≡ q
only after xs None None l m = refl
only after xs None (Some x) l m = absurd (both_ways (before after x) (l x m.0) m.1)
only after xs (Some x) None l m = absurd (both_ways (before after x) (m x l.0) l.1)
only after xs (Some x) (Some y) l m = ap Some (not_before_is x y (m.2 x l.0 l.1) (l.2 y m.0 m.1))

pub least_by : (after : Bytes) (xs : List Bytes) (o : Option Bytes) → Least after xs o → least after xs ≡ o
least_by after xs o l = only after xs (least after xs) o (least_is after xs) l
