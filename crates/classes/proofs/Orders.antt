-- What a sort by path order leaves, and one by the bytes of the paths. Assumes nothing.
use Rattle.std.proofs.Common.{◌≡◌, ℕ, ◌+◌, ◌<◌, Bool, true, false, cond, ◌⊎◌, List, [], ◌∷◌, map, length, get_or, Some, None, vec_items, Option, sym, refl, ◌∙◌, subst, inl, inr, add-one, arith}
use borrow.Author.Tests.{clash}
use Rattle.std.specs.Ordering.{is_lt}
use Rattle.text.specs.Bytes.{Bytes, same, before, byte_order}
use Rattle.text.proofs.Order.{same_refl, same_eq, before-alone, before_trans, before_either}
use Rattle.text.proofs.TotalOrders.{not_before, unlike}
use Rattle.paths.specs.Paths.{Path, same_path, path_before, path_order}
use Rattle.paths.specs.Values.{names_of}
use Rattle.paths.specs.TotalOrders.{path_alone, path_chain, path_either, same_path_refl, same_path_eq}
use Rattle.classes.specs.declared.listing.Node.{Node}
use Rattle.classes.specs.declared.listing.Passed.{Passed}
use Rattle.classes.specs.Classes.{Entry, entry, told, kept_after, StrictAfter, ByBytes}

-- ---- the keys of the two orders

abbrev pub key : Node → Path
key n = names_of n.path

abbrev pub name : Passed → Bytes
name p = vec_items p.path

not_before_path : (p q : Path) → is_lt (path_order p q) ≡ false → path_before p q ≡ false
not_before_path = not_before same_path path_before same_path_refl same_path_eq path_alone path_chain path_either

unlike_path : (p q : Path) → same_path p q ≡ false → p ≡ q → ⊥
unlike_path = unlike same_path path_before same_path_refl same_path_eq path_alone path_chain path_either

not_before_bytes : (s t : Bytes) → is_lt (byte_order s t) ≡ false → before s t ≡ false
not_before_bytes = not_before same before same_refl same_eq before-alone before_trans before_either

-- ---- what a sort leaves

-- none comes before the one in front of it
abbrev pub WeakAfter : Option Path → List Entry → Type 0
WeakAfter o [] = Unit {0}
WeakAfter None (e ∷ es) = WeakAfter (Some e.path) es
WeakAfter (Some p) (e ∷ es) = (path_before e.path p ≡ false) × WeakAfter (Some e.path) es

-- no element is less than the one before it
abbrev pub Up : {X : Type 0} → (X → X → Bool) → List X → Type 0
Up {X} less xs = (k : ℕ) (d : X) → k + 1 < length xs → less (get_or xs (k + 1) d) (get_or xs k d) ≡ false

up_tail : {X : Type 0} (less : X → X → Bool) (x : X) (xs : List X) → Up less (x ∷ xs) → Up less xs
up_tail less x xs up k d h =
    subst (λ i. less (get_or (x ∷ xs) i d) (get_or xs k d) ≡ false) (add-one (k + 1))
    (subst (λ i. less (get_or (x ∷ xs) (k + 1 + 1) d) (get_or (x ∷ xs) i d) ≡ false) (add-one k) (up (k + 1) d (omega arith)))

abbrev pub less_node : Node → Node → Bool
less_node a b = is_lt (path_order (key a) (key b))

abbrev pub less_passed : Passed → Passed → Bool
less_passed a b = is_lt (byte_order (name a) (name b))

weak_from : (n : Node) (ns : List Node) → Up less_node (n ∷ ns) → WeakAfter (Some (key n)) (map entry ns)
weak_from n [] up = tt
weak_from n (m ∷ ns) up = (not_before_path (key m) (key n) (up 0 n (omega arith)), weak_from m ns (up_tail less_node n (m ∷ ns) up))

pub bytes_sorted : (ps : List Passed) → Up less_passed ps → ByBytes (map told ps)
bytes_sorted [] up = tt
bytes_sorted (p ∷ []) up = tt
bytes_sorted (p ∷ q ∷ ps) up = (not_before_bytes (name q) (name p) (up 0 p (omega arith)), bytes_sorted (q ∷ ps) (up_tail less_passed p (q ∷ ps) up))

pub weak_sorted : (ns : List Node) → Up less_node ns → WeakAfter None (map entry ns)
weak_sorted [] up = tt
weak_sorted (n ∷ ns) up = weak_from n ns up

-- leaving out those that have the path of the one before makes them ascend
weak_at : (p q : Path) (es : List Entry) → q ≡ p → WeakAfter (Some q) es → WeakAfter (Some p) es
weak_at p q es e h = subst (λ r. WeakAfter (Some r) es) e h

pub kept_ascends : (o : Option Path) (es : List Entry) → WeakAfter o es → StrictAfter o (kept_after o es)
kept_ascends None [] h = tt
kept_ascends (Some p) [] h = tt
kept_ascends None (e ∷ es) h = (tt, kept_ascends (Some e.path) es h)
kept_ascends (Some p) (e ∷ es) h = by (same_path p e.path) refl (kept_ascends (Some p) es) (kept_ascends (Some e.path) es)
  where
    by : (b : Bool) → same_path p e.path ≡ b → (WeakAfter (Some p) es → StrictAfter (Some p) (kept_after (Some p) es)) → (WeakAfter (Some e.path) es → StrictAfter (Some e.path) (kept_after (Some e.path) es)) → StrictAfter (Some p) (cond b (kept_after (Some p) es) (e ∷ kept_after (Some e.path) es))
    by true f i j = i (weak_at p e.path es (sym (same_path_eq p e.path f)) h.1)
    by false f i j = (first f, j h.1)
      where
        first : same_path p e.path ≡ false → path_before p e.path ≡ true
        first g = half (path_either p e.path)
          where
            half : (path_before p e.path ≡ true) ⊎ ((p ≡ e.path) ⊎ (path_before e.path p ≡ true)) → path_before p e.path ≡ true
            half (inl x) = x
            half (inr (inl x)) = absurd (unlike_path p e.path g x)
            half (inr (inr x)) = absurd (clash (sym h.0 ∙ x))
