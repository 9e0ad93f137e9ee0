-- What is left of a text, copied byte by byte.
-- Assumes nothing.
use Rattle.std.proofs.Common.{◌≡◌, ℕ, suc, ◌<◌, ◌≤◌, Bool, true, false, cond, List, [], ◌∷◌, ◌++◌, length, take, drop, sym, ap, ◌∙◌, arith}
use Rattle.grammar.specs.Compact.{moved, dropped, squeezed}
use Rattle.grammar.specs.Compact.{print}
use Rattle.grammar.specs.Grammar.{Text}
use Rattle.grammar.specs.declared.kinds.Place.{Place}
use Rattle.grammar.specs.declared.kinds.Place.TheVariants.{Between}
use Rattle.grammar.proofs.Squeeze.{compact_drops}
use Rattle.compact.specs.Compacted.{Written, TooLong}

short_step : (z : Bool) (b : ℕ) (t u : List ℕ) → length t ≤ length u → length (cond z t (b ∷ t)) ≤ suc (length u)
short_step true b t u h = omega arith
short_step false b t u h = omega arith

-- no bytes are added
pub squeezed_short : (p : Place) (s : List ℕ) → length (squeezed p s) ≤ length s
squeezed_short p [] = omega arith
squeezed_short p (b ∷ s) = short_step (dropped p b) b (squeezed (moved p b) s) s (squeezed_short (moved p b) s)

-- n bytes are written, and left are still to come
pub record Copied (all before left out : List ℕ) (n : ℕ) : Type 0 where
  pub whole : take n out ++ left ≡ all
  pub rest : drop n out ≡ drop n before
  pub fits : n ≤ length out

-- ---- the whole call
pub too_long : (s before after : List ℕ) (n : ℕ) → Text s → n ≡ length (squeezed Between s) → length before < n → after ≡ before → TooLong s before after
too_long s before after n t e h g =
    let c = ap length (compact_drops 64 t.0 s t.1) in
    record { json = t.0; shown = t.1; longer = omega (arith, c, e, h); same = g }

pub written : (s before after : List ℕ) (n : ℕ) → Text s → n ≡ length (squeezed Between s) → n ≤ length before → after ≡ squeezed Between s ++ drop (length (squeezed Between s)) before → Written s before after n
written s before after n t e h g =
    let c = compact_drops 64 t.0 s t.1 in
    record {
      json = t.0;
      shown = t.1;
      len = e ∙ ap length c;
      fits = h;
      out = g ∙ (ap (λ (x : List ℕ). x ++ drop (length (squeezed Between s)) before) c ∙ ap (λ (k : ℕ). print t.0 ++ drop k before) (sym e));
    }
