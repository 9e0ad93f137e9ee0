-- What a mount answers, from what the store below answers.
-- Assumes nothing.
use Rattle.std.proofs.Common.{◌≡◌, ℕ, ◌-◌, ◌<◌, Bool, true, false, [], ◌∷◌, ◌++◌, length, take, drop, Some, None, Ok, Option, Result, refl, ap, ◌∙◌, append_assoc, arith, length-append}
use Rattle.std.proofs.lemmas.List.{take_at, drop_at}
use Rattle.keys.specs.declared.fault.StoreFault.{StoreFault}
use Rattle.text.specs.Bytes.{Bytes}
use Rattle.text.specs.Utf8.{is_text}
use Rattle.keys.specs.Keys.{prefix_form}
use Rattle.stores.specs.WellFormed.{well_key, well_prefix}
use Rattle.stores.specs.Pairs.{Pairs, AllKeys, Lawful, mounted, next_key}
use Rattle.stores.specs.Answers.{Found, guarded, fitted, answer, filled, key_after}
use Rattle.stores.specs.Laws.{behind}
use Rattle.stores.proofs.Listings.{key_below, no_pairs, only_empty}
use Rattle.mounts.specs.Fronts.{empty_under, Holds, shown_part}

-- ---- no room for a key

pub none_there : (longest : ℕ) (ps : Pairs) → longest ≡ 0 → AllKeys (λ k. well_key longest k ≡ true) ps → ps ≡ []
none_there longest ps z h = no_pairs ps (rw z at h)

pub none_shown : (longest n : ℕ) (q : Bytes) (o : Option Bytes) → longest ≡ 0 → o ≡ None → guarded (well_prefix longest q) (fitted n o) ≡ empty_under q
none_shown longest n q o z e = ap (λ (l : ℕ). guarded (well_prefix l q) (fitted n o)) z ∙ ap (λ (x : Option Bytes). guarded (well_prefix 0 q) (fitted n x)) e ∙ by q
  where
    by : (q : Bytes) → guarded (well_prefix 0 q) (fitted n None) ≡ empty_under q
    by [] = refl
    by (b ∷ q) = ap (λ (w : Bool). guarded w (Ok None)) (only_empty b q)

pub empty_fills : (q buf : Bytes) → filled (empty_under q) buf ≡ buf
empty_fills [] buf = refl
empty_fills (b ∷ q) buf = refl

-- ---- the next key, by what is answered below

part_of : (p k r : Bytes) → take (length (p ++ k) - length p) (drop (length p) ((p ++ k) ++ r)) ≡ k
part_of p k r =
    let n : length (p ++ k) - length p ≡ length k = rw (length-append p k) (omega arith) in
    let d : drop (length p) ((p ++ k) ++ r) ≡ k ++ r = ap (drop (length p)) (append_assoc p k r) ∙ drop_at p (k ++ r) (length p) refl in
    rw (n, d) (take_at k r (length k) refl)

pub hand_holds : (p arr : Bytes) (w : Bool) (o : Option Bytes) → Holds (answer (guarded w (Ok (behind p o)))) (length p) (length (filled (guarded w (Ok (behind p o))) arr))
hand_holds p arr true None = tt
hand_holds p arr true (Some k) = (rw (length-append p k) (omega arith), rw (length-append (p ++ k) (drop (length (p ++ k)) arr)) (omega arith))
hand_holds p arr false o = tt

pub hand_shows : (p arr : Bytes) (n : ℕ) (w : Bool) (o : Option Bytes) → shown_part (answer (guarded w (Ok (behind p o)))) (filled (guarded w (Ok (behind p o))) arr) (length p) n ≡ guarded w (fitted n o)
hand_shows p arr n true None = refl
hand_shows p arr n true (Some k) = ap (λ (x : Bytes). fitted n (Some x)) (part_of p k (drop (length (p ++ k)) arr))
hand_shows p arr n false o = refl

-- the call below, with the prefix in front of what it is asked for
module _ (arr : Bytes) (longest : ℕ) (p q x : Bytes) (ps : Pairs) (n : ℕ) (whole from front key : Bytes) (seen : Result (Option ℕ) StoreFault) where
  pub below_found : prefix_form true p ≡ true → is_text p ≡ true → length p < longest → Lawful ps longest → whole ≡ p ++ q → from ≡ take 400 (p ++ x) → length arr ≡ 400
      → key_after longest ps whole from (length arr) ≡ guarded (well_prefix (longest - length p) q) (Ok (behind p (next_key q x (mounted p ps))))
  below_found h t l w ew ef ea = rw (ew, ef, ea) (key_below longest p q x ps h t l w)

  pub key_holds : key_after longest ps whole from (length arr) ≡ guarded (well_prefix (longest - length p) q) (Ok (behind p (next_key q x (mounted p ps))))
      → front ≡ p → seen ≡ answer (key_after longest ps whole from (length arr)) → key ≡ filled (key_after longest ps whole from (length arr)) arr → Holds seen (length front) (length key)
  key_holds e ep es ek =
      let f : seen ≡ answer (guarded (well_prefix (longest - length p) q) (Ok (behind p (next_key q x (mounted p ps))))) = es ∙ ap answer e in
      let b : key ≡ filled (guarded (well_prefix (longest - length p) q) (Ok (behind p (next_key q x (mounted p ps))))) arr = ek ∙ ap (λ (d : Found). filled d arr) e in
      rw (f, b, ep) (hand_holds p arr (well_prefix (longest - length p) q) (next_key q x (mounted p ps)))

  pub key_shows : key_after longest ps whole from (length arr) ≡ guarded (well_prefix (longest - length p) q) (Ok (behind p (next_key q x (mounted p ps))))
      → front ≡ p → seen ≡ answer (key_after longest ps whole from (length arr)) → key ≡ filled (key_after longest ps whole from (length arr)) arr → shown_part seen key (length front) n ≡ key_after (longest - length p) (mounted p ps) q x n
  key_shows e ep es ek =
      let f : seen ≡ answer (guarded (well_prefix (longest - length p) q) (Ok (behind p (next_key q x (mounted p ps))))) = es ∙ ap answer e in
      let b : key ≡ filled (guarded (well_prefix (longest - length p) q) (Ok (behind p (next_key q x (mounted p ps))))) arr = ek ∙ ap (λ (d : Found). filled d arr) e in
      rw (f, b, ep) (hand_shows p arr n (well_prefix (longest - length p) q) (next_key q x (mounted p ps)))
