-- Joining, and the parent and the last name of what was joined.
-- Assumes nothing.
use Rattle.std.proofs.Common.{◌≡◌, ℕ, Bool, true, false, cond, eqb, [], ◌∷◌, ◌++◌, Some, Ok, Err, sym, refl, ap, ◌∙◌, append_assoc, append-nil}
use Rattle.std.proofs.lemmas.Bool.{and_parts}
use Rattle.text.specs.Bytes.{Bytes}
use Rattle.paths.specs.declared.fault.PathFault.TheVariants.{Invalid, OverLimits}
use Rattle.paths.specs.Names.{no_slash, only_periods}
use Rattle.paths.specs.Paths.{Name, Path, are_names, slashed, in_limits, is_path, split, checked, extended, path_of, joined, relative, behind, parent_of, leading, final, name_of}
use Rattle.paths.specs.Laws.{JoinUndoesRelative, JoinReadsOneText, ParentUndoesJoin}
use Rattle.paths.proofs.Splits.{name_plain, name_not_periods, names_head, names_back, names_both, plain_head, split_name, split-append, split-relative}
use Rattle.paths.proofs.Readings.{never, checked_ok, checked_is}

-- ---- a relative path

pub joined_not_slash : (base : Path) (b : ℕ) (t : Bytes) → eqb b 47 ≡ false → joined base (b ∷ t) ≡ checked (split (b ∷ t)) (base ++ split (b ∷ t))
joined_not_slash base b t e = ap (λ (x : Bool). extended base (cond x t (b ∷ t))) e

pub joined_plain : (base : Path) (n u : Bytes) (r : Path) → no_slash n ≡ true → only_periods n ≡ false → split (n ++ u) ≡ r → joined base (n ++ u) ≡ checked r (base ++ r)
joined_plain base [] u r p d e = never d
joined_plain base (b ∷ n) u r p d e = joined_not_slash base b (n ++ u) (plain_head b n p) ∙ ap (λ (x : Path). checked x (base ++ x)) e

pub joined-relative : (base : Path) (n : Name) (p : Path) → are_names (n ∷ p) ≡ true → joined base (relative (n ∷ p)) ≡ checked (n ∷ p) (base ++ (n ∷ p))
joined-relative base n p h = let k = names_head n p h in joined_plain base n (slashed p) (n ∷ p) (name_plain n k) (name_not_periods n k) (split-relative n p h)

pub behind-append : (g r : Path) → behind g (g ++ r) ≡ r
behind-append [] r = refl
behind-append (n ∷ g) r = behind-append g r

joined_back : (base r : Path) → is_path (base ++ r) ≡ true → joined base (relative r) ≡ Ok (base ++ r)
joined_back base [] h = ap (λ (x : Path). Ok x) (sym (append-nil base))
joined_back base (n ∷ r) h =
    let a = and_parts (are_names (base ++ (n ∷ r))) (in_limits (base ++ (n ∷ r))) h in
    let k = names_back base (n ∷ r) a.0 in
    joined-relative base n r k ∙ checked_is (n ∷ r) (base ++ (n ∷ r)) k a.1

pub join_undoes_relative_lem : JoinUndoesRelative
join_undoes_relative_lem base p h s =
    let d : p ≡ base ++ s.0 = s.1 in
    ap (λ (x : Path). joined base (relative x)) (ap (behind base) d ∙ behind-append base s.0) ∙ joined_back base s.0 (ap is_path (sym d) ∙ h) ∙ ap (λ (x : Path). Ok x) (sym d)

-- ---- one text

together : (base s : Path) → are_names base ≡ true → checked (base ++ s) (base ++ s) ≡ checked s (base ++ s)
together base s h = ap (λ (x : Bool). cond x (cond (in_limits (base ++ s)) (Ok (base ++ s)) (Err OverLimits)) (Err Invalid)) (names_both base s h)

one_text : (n u : Bytes) (r : Path) → only_periods n ≡ false → split (n ++ u) ≡ r → path_of (47 ∷ (n ++ u)) ≡ checked r r
one_text [] u r d e = never d
one_text (b ∷ n) u r d e = ap (λ (x : Path). checked x x) e

pub join_reads_one_text_lem : JoinReadsOneText
join_reads_one_text_lem [] b t h e = joined_not_slash [] b t e
join_reads_one_text_lem (n ∷ p) b t h e =
    let r : Path = split (b ∷ t) in
    let s : split ((n ++ slashed p) ++ (47 ∷ (b ∷ t))) ≡ (n ∷ p) ++ r = split-append (n ++ slashed p) (b ∷ t) ∙ ap (λ (x : Path). x ++ r) (split-relative n p h) in
    let w : path_of (47 ∷ ((n ++ slashed p) ++ (47 ∷ (b ∷ t)))) ≡ checked ((n ∷ p) ++ r) ((n ∷ p) ++ r) =
    ap (λ (x : Bytes). path_of (47 ∷ x)) (append_assoc n (slashed p) (47 ∷ (b ∷ t)))
    ∙ one_text n (slashed p ++ (47 ∷ (b ∷ t))) ((n ∷ p) ++ r) (name_not_periods n (names_head n p h)) (ap split (sym (append_assoc n (slashed p) (47 ∷ (b ∷ t)))) ∙ s) in
    joined_not_slash (n ∷ p) b t e ∙ sym (together (n ∷ p) r h) ∙ sym w

-- ---- one name

pub leading_last : (n m : Name) (p : Path) → leading n (p ++ (m ∷ [])) ≡ n ∷ p
leading_last n m [] = refl
leading_last n m (k ∷ p) = ap (λ (x : Path). n ∷ x) (leading_last k m p)

pub final_last : (n m : Name) (p : Path) → final n (p ++ (m ∷ [])) ≡ m
final_last n m [] = refl
final_last n m (k ∷ p) = final_last k m p

pub parent_last : (p : Path) (m : Name) → parent_of (p ++ (m ∷ [])) ≡ Some p
parent_last [] m = refl
parent_last (n ∷ p) m = ap (λ (x : Path). Some x) (leading_last n m p)

pub name_last : (p : Path) (m : Name) → name_of (p ++ (m ∷ [])) ≡ m
name_last [] m = refl
name_last (n ∷ p) m = final_last n m p

pub parent_undoes_join_lem : ParentUndoesJoin
parent_undoes_join_lem base p n h e =
    let k = name_plain n h in
    let j : joined base n ≡ checked (n ∷ []) (base ++ (n ∷ [])) =
    ap (joined base) (sym (append-nil n)) ∙ joined_plain base n [] (n ∷ []) k (name_not_periods n h) (ap split (append-nil n) ∙ split_name n k) in
    let q : base ++ (n ∷ []) ≡ p = (checked_ok (n ∷ []) (base ++ (n ∷ [])) p (sym j ∙ e)).2 in
    (ap parent_of (sym q) ∙ parent_last base n, ap name_of (sym q) ∙ name_last base n)
