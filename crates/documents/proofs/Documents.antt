-- A whole document.
-- Assumes nothing.
use Rattle.std.proofs.Common.{◌≡◌, ℕ, ◌-◌, Bool, true, false, cond, eqb, List, [], ◌∷◌, ◌++◌, length, Some, None, Ok, Err, Result, MatchResult, sym, refl, ap, ◌∙◌, subst, append-nil, arith}
use Rattle.std.specs.Result.{IsErrAnd}
use Rattle.grammar.specs.Ast.{Json}
use Rattle.grammar.specs.Grammar.{Ws, Padded, padded, Text}
use Rattle.grammar.specs.Machine.{val, aft, bad, step_top, run, stopped}
use Rattle.grammar.specs.Laws.{Refused}
use Rattle.grammar.specs.Terminals.{is_blank, punct_of}
use Rattle.grammar.specs.declared.kinds.Punct.TheVariants.{Space, One, Two}
use Rattle.grammar.proofs.Complete.{ws_val, ws_aft}
use Rattle.grammar.proofs.Places.{refused_before}
use Rattle.documents.specs.Reading.{Part, Refuses, NoBlank, AnyValue, GotValue}
use Rattle.documents.specs.Faults.{FaultOf}
use Rattle.documents.specs.declared.fault.DocumentFault.{DocumentFault}
use Rattle.documents.specs.declared.fault.DocumentFault.TheVariants.{Syntax}
use Rattle.documents.proofs.Parts.{empty, skip, bad_at}

-- what a result tells of the one that its error was mapped from
module _ {T E D : Type 0} (G : T → Type 0) (R : E → Type 0) (P : E → D → Type 0) where
  pub mapped_ok : (r : Result T E) (o : Result T D) (x : T) → MatchResult r G R → MatchResult r (λ y. o ≡ Ok y) (λ e. IsErrAnd o (P e)) → o ≡ Ok x → G x
  mapped_ok (Ok y) o x g m e = let h : y ≡ x = cc in subst G h g
  mapped_ok (Err e) o x g m z = absurd (rw z at m)

  pub mapped_err : (r : Result T E) (o : Result T D) (f : D) → MatchResult r G R → MatchResult r (λ y. o ≡ Ok y) (λ e. IsErrAnd o (P e)) → o ≡ Err f → (e : E) × R e × P e f
  mapped_err (Ok y) o f g m z = let h : Ok y ≡ Err f = sym m ∙ z in grind arith
  mapped_err (Err e) o f g m z = (e, g, rw z at m)

  pub mapped : (G' : T → Type 0) (F : D → Type 0) (r : Result T E) (o : Result T D) → MatchResult r G R → MatchResult r (λ y. o ≡ Ok y) (λ e. IsErrAnd o (P e)) → ((x : T) → G x → G' x) → ((e : E) (f : D) → R e → P e f → F f) → MatchResult o G' F
  mapped G' F (Ok y) o g m f h = subst (λ w. MatchResult w G' F) (sym m) (f y g)
  mapped G' F (Err e) (Ok y) g m f h = absurd m
  mapped G' F (Err e) (Err z) g m f h = h e z g m

refused_as : (s r : List ℕ) (f : DocumentFault) → Refused s (length s - length r) → f ≡ Syntax (length s - length r) → FaultOf s f
refused_as s r f n e = subst (λ x. FaultOf s x) (sym e) n

pub doc_fail : (s i r : List ℕ) (f : DocumentFault) → Part Ws s i → Refuses (AnyValue 64) i r → f ≡ Syntax (length s - length r) → FaultOf s f
doc_fail s i r f p n e = refused_as s r f (refused_before s r (skip (val 64 []) (ws_val 64 []) p ∙ n [])) e

either : (z : Bool) (d : ℕ) (j : Json) → step_top (cond z (Some One) (cond z (Some Two) None)) d j ≡ bad
either true d j = refl
either false d j = refl

top_bad : (b d : ℕ) (j : Json) → is_blank b ≡ false → step_top (punct_of 256 256 b) d j ≡ bad
top_bad b d j h = ap (λ (x : Bool). step_top (cond x (Some Space) (cond (eqb b 256) (Some One) (cond (eqb b 256) (Some Two) None))) d j) h ∙ either (eqb b 256) d j

top_stops : (s : List ℕ) → NoBlank s → (length s ≡ 0 → ⊥) → (d : ℕ) (j : Json) → run (aft d j []) s ≡ stopped s
top_stops [] n h d j = absurd (h refl)
top_stops (b ∷ t) n h d j = bad_at (aft d j []) (b ∷ t) t b refl (top_bad b d j n)

pub doc_rest : (s i e r : List ℕ) (f : DocumentFault) → Part Ws s i → GotValue 64 i e → Part Ws e r → NoBlank r → (length r ≡ 0 → ⊥) → f ≡ Syntax (length s - length r) → FaultOf s f
doc_rest s i e r f p g w n h z =
    refused_as s r f
    (refused_before s r
    (skip (val 64 []) (ws_val 64 []) p
    ∙ (g.goes [] ∙ (skip (aft 64 g.json []) (ws_aft 64 g.json []) w ∙ top_stops r n h 64 g.json)))) z

pub doc_ok : (s i e r : List ℕ) → Part Ws s i → GotValue 64 i e → Part Ws e r → length r ≡ 0 → Text s
doc_ok s i e r p g w h =
    let j : Json = g.json in
    let whole = p.splits ∙ ap (λ (x : List ℕ). p.text ++ x) (g.part.splits ∙ ap (λ (x : List ℕ). g.part.text ++ x) (w.splits ∙ (ap (λ (x : List ℕ). w.text ++ x) (empty r h) ∙ append-nil w.text))) in
    (j, subst (λ (x : List ℕ). Padded 64 j x) (sym whole) (padded p.holds g.part.holds w.holds))
