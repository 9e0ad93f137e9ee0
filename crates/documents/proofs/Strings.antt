-- Strings and their escapes.
-- Assumes nothing.
use Rattle.std.proofs.Common.{◌≡◌, ℕ, List, [], ◌∷◌, ◌++◌, length, inl, inr, Some, None, sym, refl, ap, ◌∙◌, subst, arith}
use Rattle.std.proofs.lemmas.Bool.Decides.{nat_tests}
use Rattle.grammar.specs.Grammar.{Chars, c_none, c_plain, c_long, c_escape, c_unit, c_unit_d, c_pair, Seq}
use Rattle.grammar.specs.Machine.{Stack, Role, go, chars, esc, uni, uni_d, seq_go, step_chars, step_esc, step_uni, step_uni_d, run}
use Rattle.grammar.specs.Terminals.{fits, char_of, behind, escape_of, first_of, second_of, pair_tail}
use Rattle.grammar.specs.declared.kinds.Class.{Class}
use Rattle.grammar.specs.declared.kinds.Class.TheVariants.{Hex}
use Rattle.grammar.specs.declared.kinds.Lead.{Lead}
use Rattle.grammar.specs.declared.kinds.Char.TheVariants.{Plain, Back, Long}
use Rattle.grammar.specs.declared.kinds.Escape.TheVariants.{Simple, CodeUnit}
use Rattle.grammar.specs.declared.kinds.FirstHex.TheVariants.{FirstD, OtherHex}
use Rattle.grammar.specs.declared.kinds.SecondHex.TheVariants.{Whole, High}
use Rattle.grammar.proofs.Complete.{c_chars}
use Rattle.documents.specs.Reading.{Part, BeginsNot, Refuses, AnyString, AnyEscape, AnyUnit, AnyUnitD, Each, Differs, AfterBack, AfterU, AfterD}
use Rattle.documents.proofs.Parts.{part_none, part_one, part_more, part_then, part_front, go_at, bad_at, end_at}
use Rattle.documents.proofs.Words.{seq_part, seq_stops}

-- ---- the digits of a code unit

module _ (s r : List ℕ) (c : ℕ) (h : s ≡ c ∷ r) where
  pub d_whole : second_of c ≡ Some Whole → (q : List ℕ) → Part (Each Class fits (Hex ∷ Hex ∷ [])) r q → Part AfterD s q
  d_whole e q p = part_front (Seq (Hex ∷ Hex ∷ [])) AfterD s r q c h (λ t y x b f cs. c_unit_d b c cs f e y) (seq_part p)

  pub d_whole_bad : second_of c ≡ Some Whole → (q : List ℕ) → Differs Class fits (Hex ∷ Hex ∷ []) r q → Refuses AnyUnitD s q
  d_whole_bad e q f d g x b k =
      go_at (uni_d d g x b k) (seq_go (Hex ∷ Hex ∷ []) d g x (92 ∷ 117 ∷ b ∷ c ∷ []) k) s r c h (ap (λ y. step_uni_d y c d g x b k) e)
      ∙ seq_stops (Hex ∷ Hex ∷ []) r q f d g x (92 ∷ 117 ∷ b ∷ c ∷ []) k

  pub d_pair : second_of c ≡ Some High → (q : List ℕ) → Part (Each Class fits pair_tail) r q → Part AfterD s q
  d_pair e q p = part_front (Seq pair_tail) AfterD s r q c h (λ t y x b f cs. c_pair b c cs f e y) (seq_part p)

  pub d_pair_bad : second_of c ≡ Some High → (q : List ℕ) → Differs Class fits pair_tail r q → Refuses AnyUnitD s q
  d_pair_bad e q f d g x b k =
      go_at (uni_d d g x b k) (seq_go pair_tail d g x (92 ∷ 117 ∷ b ∷ c ∷ []) k) s r c h (ap (λ y. step_uni_d y c d g x b k) e)
      ∙ seq_stops pair_tail r q f d g x (92 ∷ 117 ∷ b ∷ c ∷ []) k

module _ (s r : List ℕ) (b : ℕ) (h : s ≡ b ∷ r) where
  pub u_other : first_of b ≡ Some OtherHex → (q : List ℕ) → Part (Each Class fits (Hex ∷ Hex ∷ Hex ∷ [])) r q → Part AfterU s q
  u_other e q p = part_front (Seq (Hex ∷ Hex ∷ Hex ∷ [])) AfterU s r q b h (λ t y x cs. c_unit b cs e y) (seq_part p)

  pub u_other_bad : first_of b ≡ Some OtherHex → (q : List ℕ) → Differs Class fits (Hex ∷ Hex ∷ Hex ∷ []) r q → Refuses AnyUnit s q
  u_other_bad e q f d g x k =
      go_at (uni d g x k) (seq_go (Hex ∷ Hex ∷ Hex ∷ []) d g x (92 ∷ 117 ∷ b ∷ []) k) s r b h (ap (λ y. step_uni y b d g x k) e)
      ∙ seq_stops (Hex ∷ Hex ∷ Hex ∷ []) r q f d g x (92 ∷ 117 ∷ b ∷ []) k

  pub u_d : first_of b ≡ Some FirstD → (q : List ℕ) → Part AfterD r q → Part AfterU s q
  u_d e q p = part_front AfterD AfterU s r q b h (λ t y x cs. y x b e cs) p

  pub u_d_bad : first_of b ≡ Some FirstD → (q : List ℕ) → Refuses AnyUnitD r q → Refuses AnyUnit s q
  u_d_bad e q n d g x k = go_at (uni d g x k) (uni_d d g x b k) s r b h (ap (λ y. step_uni y b d g x k) e) ∙ n d g x b k

-- ---- escapes
unit_is : (b : ℕ) → escape_of b ≡ Some CodeUnit → b ≡ 117
unit_is b h = grind (arith, nat_tests)

module _ (s r : List ℕ) (b : ℕ) (h : s ≡ b ∷ r) where
  pub e_simple : escape_of b ≡ Some Simple → Part AfterBack s r
  e_simple e = part_one AfterBack s r b h (λ x cs. c_escape b cs e)

  pub e_unit : escape_of b ≡ Some CodeUnit → (q : List ℕ) → Part AfterU r q → Part AfterBack s q
  e_unit e q p = part_front AfterU AfterBack s r q b h (λ t y x cs. subst (λ (c : ℕ). Chars (x ++ (92 ∷ c ∷ t))) (sym (unit_is b e)) (y x cs)) p

  pub e_unit_bad : escape_of b ≡ Some CodeUnit → (q : List ℕ) → Refuses AnyUnit r q → Refuses AnyEscape s q
  e_unit_bad e q n d g x k = go_at (esc d g x k) (uni d g x k) s r b h (ap (λ y. step_esc y b d g x k) e) ∙ n d g x k

-- ---- characters
back_is : (b : ℕ) → char_of b ≡ Some Back → b ≡ 92
back_is b h = grind (arith, nat_tests)

pub str_at : {s r : List ℕ} (p : Part Chars s r) (d : ℕ) (g : Role) (k : Stack) → run (chars d g [] k) s ≡ run (chars d g p.text k) r
str_at {s} {r} p d g k = rw p.splits (c_chars p.holds d g k r)

pub str_begin : (s : List ℕ) → Part Chars s s
str_begin s = part_none Chars s c_none

-- more characters behind those so far
abbrev MoreChars : List ℕ → Type 0
MoreChars t = (x : List ℕ) → Chars x → Chars (x ++ t)

module _ (s r : List ℕ) (p : Part Chars s r) where
  str_more : (q : List ℕ) → Part MoreChars r q → Part Chars s q
  str_more q m = part_then Chars MoreChars Chars s r q (λ t u x y. y t x) p m

  str_end : length r ≡ 0 → Refuses AnyString s r
  str_end h d g k = str_at p d g k ∙ end_at (chars d g p.text k) r h refl

  str_bad : (u : List ℕ) (b : ℕ) → r ≡ b ∷ u → char_of b ≡ None → Refuses AnyString s r
  str_bad u b h e d g k = str_at p d g k ∙ bad_at (chars d g p.text k) r u b h (ap (λ y. step_chars y b d g p.text k) e)

  pub str_stop : (q : List ℕ) → BeginsNot (λ b. None ≡ char_of b) r q → Refuses AnyString s q
  str_stop q (e, inl h) = rw e (str_end (ap length h))
  str_stop q (e, inr (b, u, h, n)) = rw e (str_bad u b h (sym n))

  module _ (u : List ℕ) (b : ℕ) (h : r ≡ b ∷ u) where
    pub str_plain : char_of b ≡ Some Plain → Part Chars s u
    str_plain e = part_more Chars s r u b (λ t x. c_plain b x e) p h

    pub str_escape : char_of b ≡ Some Back → (q : List ℕ) → Part AfterBack u q → Part Chars s q
    str_escape e q n =
        str_more q (part_front AfterBack MoreChars r u q b h (λ t x y cs. subst (λ (c : ℕ). Chars (y ++ (c ∷ t))) (sym (back_is b e)) (x y cs)) n)

    pub str_escape_bad : char_of b ≡ Some Back → (q : List ℕ) → Refuses AnyEscape u q → Refuses AnyString s q
    str_escape_bad e q n d g k =
        str_at p d g k ∙ (go_at (chars d g p.text k) (esc d g p.text k) r u b h (ap (λ y. step_chars y b d g p.text k) e) ∙ n d g p.text k)

    pub str_long : (l : Lead) → char_of b ≡ Some (Long l) → (cs : List Class) → cs ≡ behind l → (q : List ℕ) → Part (Each Class fits cs) u q → Part Chars s q
    str_long l e cs z q n =
        str_more q (part_front (Seq cs) MoreChars r u q b h (λ t x y ds. c_long b l ds e (subst (λ (w : List Class). Seq w t) z x)) (seq_part n))

    pub str_long_bad : (l : Lead) → char_of b ≡ Some (Long l) → (cs : List Class) → cs ≡ behind l → (q : List ℕ) → Differs Class fits cs u q → Refuses AnyString s q
    str_long_bad l e cs z q f d g k =
        str_at p d g k
        ∙ (go_at (chars d g p.text k) (seq_go cs d g p.text (b ∷ []) k) r u b h (ap (λ y. step_chars y b d g p.text k) e ∙ ap (λ (w : List Class). go (seq_go w d g p.text (b ∷ []) k)) (sym z))
        ∙ seq_stops cs u q f d g p.text (b ∷ []) k)
