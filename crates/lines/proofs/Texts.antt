-- Bytes that are not text are none of the words of a script. Assumes nothing.
use Rattle.std.proofs.Common.{◌≡◌, ℕ, Bool, true, false, List, [], ◌∷◌, Some, None, Ok, Err, Result, Bor, ap, ◌∙◌, codes, sym, refl, subst, arith, rules}
use Rattle.std.specs.Result.{MatchResult, is_ok, result_ok}
use Rattle.std.specs.Str.{IsUtf8, IsAscii, bytes_eq}
use Rattle.std.proofs.lemmas.Str.{IsUtf8-from_ascii}
use Rattle.std.proofs.lemmas.Slice.Eq.{bytes_eq-Decides}
use Rattle.text.specs.Bytes.{Bytes}
use Rattle.lines.specs.Calls.{side_of, file_of, asked}

none_such : (n k : Bytes) → IsAscii k → (IsUtf8 n → ⊥) → bytes_eq n k ≡ false
none_such n k a u = by (bytes_eq n k) refl
  where
    by : (b : Bool) → bytes_eq n k ≡ b → b ≡ false
    by true e = absurd (u (subst IsUtf8 (sym ((bytes_eq-Decides n k).0 e)) (IsUtf8-from_ascii k a)))
    by false e = refl

pub no_side : (n : Bytes) → (IsUtf8 n → ⊥) → side_of n ≡ None
no_side n u = rw (none_such n (codes "outer") (search rules) u, none_such n (codes "inner") (search rules) u) refl

pub no_file : (n : Bytes) → (IsUtf8 n → ⊥) → file_of n ≡ None
no_file n u = rw (none_such n (codes "v3") (search rules) u, none_such n (codes "array") (search rules) u, none_such n (codes "group") (search rules) u, none_such n (codes "attributes") (search rules) u) refl

pub no_call : (n : Bytes) (ws : List Bytes) → (IsUtf8 n → ⊥) → asked (n ∷ ws) ≡ None
no_call n [] u = rw (none_such n (codes "dump") (search rules) u) refl
no_call n (a ∷ []) u = rw (none_such n (codes "image") (search rules) u, none_such n (codes "mount") (search rules) u, none_such n (codes "erase") (search rules) u, none_such n (codes "name") (search rules) u, none_such n (codes "path") (search rules) u, none_such n (codes "parent") (search rules) u) refl
no_call n (a ∷ b ∷ []) u = rw (none_such n (codes "shelf") (search rules) u, none_such n (codes "lower") (search rules) u, none_such n (codes "get") (search rules) u, none_such n (codes "set") (search rules) u, none_such n (codes "join") (search rules) u, none_such n (codes "compare") (search rules) u, none_such n (codes "key") (search rules) u, none_such n (codes "data-key") (search rules) u) refl
no_call n (a ∷ b ∷ c ∷ []) u = rw (none_such n (codes "raise") (search rules) u, none_such n (codes "next-key") (search rules) u, none_such n (codes "next-child") (search rules) u) refl
no_call n (a ∷ b ∷ c ∷ d ∷ ws) u = refl

-- the bytes were refused as text
pub refused : {A E : Type 0} (r : Result A E) (P : A → Type 0) (U : Type 0) (Q : E → Type 0) → MatchResult r P (λ e. (U → ⊥) × Q e) → false ≡ is_ok r → U → ⊥
refused (Ok s) P U Q m e = let z : ◌≡◌ {A = ℕ} 0 1 = cc in absurd (omega arith)
refused (Err e) P U Q m h = m.0

-- the text that was read is the bytes
pub read_as : {E : Type 0} (r : Result (Bor Bytes) E) (n : Bor Bytes) (t : Bytes) (U : Type 0) (Q : E → Type 0) → MatchResult r (λ s. (s.now ≡ t) × U) Q → Some n ≡ result_ok r → n.now ≡ t
read_as (Ok s) n t U Q m e = let same : n ≡ s = cc in ap (λ x. x.now) same ∙ m.0
read_as (Err e) n t U Q m h = let z : ◌≡◌ {A = ℕ} 0 1 = cc in absurd (omega arith)
