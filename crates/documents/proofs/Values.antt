-- Values.
-- Assumes nothing.
use Rattle.std.proofs.Common.{◌≡◌, ℕ, suc, ◌-◌, ◌<◌, true, false, List, [], ◌∷◌, ◌++◌, Some, Option, sym, refl, ap, ◌∙◌, subst, append_assoc, arith}
use Rattle.std.proofs.lemmas.Bool.Decides.{nat_tests}
use Rattle.grammar.specs.Ast.{Json, null, tru, fals, num, str}
use Rattle.grammar.specs.Grammar.{Shows, s_null, s_true, s_false, s_num, s_str}
use Rattle.grammar.specs.Machine.{Stack, value, St, val, first, members, aft, nums, chars, lit, go, step_val, run}
use Rattle.grammar.specs.Numbers.{p_one, At, a_minus, a_zero, a_whole}
use Rattle.grammar.specs.Terminals.{is_blank, is_positive, start_of}
use Rattle.grammar.specs.declared.kinds.Start.{Start}
use Rattle.grammar.specs.declared.kinds.Start.TheVariants.{Blank, Quote, Minus, Zero, Positive, OpenArray, OpenObject, LitT, LitF, LitN}
use Rattle.grammar.specs.declared.kinds.Phase.{Phase}
use Rattle.grammar.specs.declared.kinds.Phase.TheVariants.{AtMinus, AtZero, AtWhole}
use Rattle.documents.specs.Reading.{Part, NoBlank, Refuses, AnyValue, AnyArray, AnyObject, AnyNumber, AnyString, Each, Differs, GotString, GotNumber, GotValue, GotArray, GotObject}
use Rattle.documents.proofs.Parts.{part_front, go_at}
use Rattle.documents.proofs.Words.{SameByte, word_part, word_stops}
use Rattle.documents.proofs.Strings.{str_at}

-- what the byte is
blank_is : (b : ℕ) → start_of b ≡ Some Blank → is_blank b ≡ true
blank_is b h = grind (arith, nat_tests)

-- where no white space comes, none begins a value
pub v_blank : (b : ℕ) (t : List ℕ) → start_of b ≡ Some Blank → NoBlank (b ∷ t) → ⊥
v_blank b t e n =
    let f : is_blank b ≡ true = blank_is b e in
    let g : is_blank b ≡ false = n in
    cc

quote_is : (b : ℕ) → start_of b ≡ Some Quote → b ≡ 34
quote_is b h = grind (arith, nat_tests)

minus_is : (b : ℕ) → start_of b ≡ Some Minus → b ≡ 45
minus_is b h = grind (arith, nat_tests)

zero_is : (b : ℕ) → start_of b ≡ Some Zero → b ≡ 48
zero_is b h = grind (arith, nat_tests)

positive_is : (b : ℕ) → start_of b ≡ Some Positive → is_positive b ≡ true
positive_is b h = grind (arith, nat_tests)

array_is : (b : ℕ) → start_of b ≡ Some OpenArray → b ≡ 91
array_is b h = grind (arith, nat_tests)

object_is : (b : ℕ) → start_of b ≡ Some OpenObject → b ≡ 123
object_is b h = grind (arith, nat_tests)

t_is : (b : ℕ) → start_of b ≡ Some LitT → b ≡ 116
t_is b h = grind (arith, nat_tests)

f_is : (b : ℕ) → start_of b ≡ Some LitF → b ≡ 102
f_is b h = grind (arith, nat_tests)

n_is : (b : ℕ) → start_of b ≡ Some LitN → b ≡ 110
n_is b h = grind (arith, nat_tests)

back : (d : ℕ) → 0 < d → suc (d - 1) ≡ d
back d h = omega arith

module _ (s r : List ℕ) (d b : ℕ) (h : s ≡ b ∷ r) where
  val_go : (c : Option Start) → start_of b ≡ c → (k : Stack) (n : St) → step_val c b d k ≡ go n → run (val d k) s ≡ run n r
  val_go c e k n g = go_at (val d k) n s r b h (ap (λ x. step_val x b d k) e ∙ g)

  -- ---- strings
  pub v_string : start_of b ≡ Some Quote → (q : List ℕ) → GotString r q → GotValue d s q
  v_string e q g =
      let t : List ℕ = g.text in
      record {
        json = str t;
        part = record { text = 34 ∷ (t ++ (34 ∷ [])); splits = h ∙ (ap (λ (x : ℕ). x ∷ r) (quote_is b e) ∙ ap (λ (x : List ℕ). 34 ∷ x) (g.splits ∙ sym (append_assoc t (34 ∷ []) q))); holds = s_str g.holds };
        goes = λ k.
            val_go (Some Quote) e k (chars d value [] k) refl
            ∙ (str_at g d value k ∙ go_at (chars d value t k) (aft d (str t) k) (34 ∷ q) q 34 refl refl);
      }

  pub v_no_string : start_of b ≡ Some Quote → (q : List ℕ) → Refuses AnyString r q → Refuses (AnyValue d) s q
  v_no_string e q n k = val_go (Some Quote) e k (chars d value [] k) refl ∙ n d value k

  -- ---- numbers
  module _ (c : Option Start) (p : Phase) (e : start_of b ≡ c) (st : (k : Stack) → step_val c b d k ≡ go (nums d p (b ∷ []) k)) where
    pub v_number : At p (b ∷ []) → (q : List ℕ) → GotNumber p r q → GotValue d s q
    v_number a q g =
        let t : List ℕ = g.part.text in
        record {
          json = num (b ∷ t);
          part = record { text = b ∷ t; splits = h ∙ ap (λ (x : List ℕ). b ∷ x) g.part.splits; holds = s_num (g.part.holds (b ∷ []) a) };
          goes = λ k. val_go c e k (nums d p (b ∷ []) k) (st k) ∙ g.goes d (b ∷ []) k;
        }

    pub v_no_number : (q : List ℕ) → Refuses (AnyNumber p) r q → Refuses (AnyValue d) s q
    v_no_number q n k = val_go c e k (nums d p (b ∷ []) k) (st k) ∙ n d (b ∷ []) k

  pub v_minus : start_of b ≡ Some Minus → (q : List ℕ) → GotNumber AtMinus r q → GotValue d s q
  v_minus e q g = v_number (Some Minus) AtMinus e (λ k. refl) (subst (λ (x : ℕ). At AtMinus (x ∷ [])) (sym (minus_is b e)) a_minus) q g

  pub v_no_minus : start_of b ≡ Some Minus → (q : List ℕ) → Refuses (AnyNumber AtMinus) r q → Refuses (AnyValue d) s q
  v_no_minus e q g = v_no_number (Some Minus) AtMinus e (λ k. refl) q g

  pub v_zero : start_of b ≡ Some Zero → (q : List ℕ) → GotNumber AtZero r q → GotValue d s q
  v_zero e q g = v_number (Some Zero) AtZero e (λ k. refl) (subst (λ (x : ℕ). At AtZero (x ∷ [])) (sym (zero_is b e)) a_zero) q g

  pub v_no_zero : start_of b ≡ Some Zero → (q : List ℕ) → Refuses (AnyNumber AtZero) r q → Refuses (AnyValue d) s q
  v_no_zero e q g = v_no_number (Some Zero) AtZero e (λ k. refl) q g

  pub v_positive : start_of b ≡ Some Positive → (q : List ℕ) → GotNumber AtWhole r q → GotValue d s q
  v_positive e q g = v_number (Some Positive) AtWhole e (λ k. refl) (a_whole (p_one b (positive_is b e))) q g

  pub v_no_positive : start_of b ≡ Some Positive → (q : List ℕ) → Refuses (AnyNumber AtWhole) r q → Refuses (AnyValue d) s q
  v_no_positive e q g = v_no_number (Some Positive) AtWhole e (λ k. refl) q g

  -- ---- literals
  module _ (c : Option Start) (l : List ℕ) (j : Json) (e : start_of b ≡ c) (st : (k : Stack) → step_val c b d k ≡ go (lit d l j k)) where
    v_word : Shows d j (b ∷ l) → ((k : Stack) (u : List ℕ) → run (lit d l j k) (l ++ u) ≡ run (aft d j k) u) → (q : List ℕ) → Part (Each ℕ SameByte l) r q → GotValue d s q
    v_word sh f q g =
        let p = word_part g in
        record {
          json = j;
          part = part_front (λ t. t ≡ l) (Shows d j) s r q b h (λ t x. rw x sh) p;
          goes = λ k.
              val_go c e k (lit d l j k) (st k)
              ∙ (ap (λ (x : List ℕ). run (lit d l j k) x) (p.splits ∙ ap (λ (x : List ℕ). x ++ q) p.holds) ∙ f k q);
        }

    v_no_word : (q : List ℕ) → Differs ℕ SameByte l r q → Refuses (AnyValue d) s q
    v_no_word q f k = val_go c e k (lit d l j k) (st k) ∙ word_stops l r q f d j k

  pub v_true : start_of b ≡ Some LitT → (q : List ℕ) → Part (Each ℕ SameByte (114 ∷ 117 ∷ 101 ∷ [])) r q → GotValue d s q
  v_true e q p = v_word (Some LitT) (114 ∷ 117 ∷ 101 ∷ []) tru e (λ k. refl) (rw (t_is b e) s_true) (λ k u. refl) q p

  pub v_no_true : start_of b ≡ Some LitT → (q : List ℕ) → Differs ℕ SameByte (114 ∷ 117 ∷ 101 ∷ []) r q → Refuses (AnyValue d) s q
  v_no_true e q g = v_no_word (Some LitT) (114 ∷ 117 ∷ 101 ∷ []) tru e (λ k. refl) q g

  pub v_false : start_of b ≡ Some LitF → (q : List ℕ) → Part (Each ℕ SameByte (97 ∷ 108 ∷ 115 ∷ 101 ∷ [])) r q → GotValue d s q
  v_false e q p = v_word (Some LitF) (97 ∷ 108 ∷ 115 ∷ 101 ∷ []) fals e (λ k. refl) (rw (f_is b e) s_false) (λ k u. refl) q p

  pub v_no_false : start_of b ≡ Some LitF → (q : List ℕ) → Differs ℕ SameByte (97 ∷ 108 ∷ 115 ∷ 101 ∷ []) r q → Refuses (AnyValue d) s q
  v_no_false e q g = v_no_word (Some LitF) (97 ∷ 108 ∷ 115 ∷ 101 ∷ []) fals e (λ k. refl) q g

  pub v_null : start_of b ≡ Some LitN → (q : List ℕ) → Part (Each ℕ SameByte (117 ∷ 108 ∷ 108 ∷ [])) r q → GotValue d s q
  v_null e q p = v_word (Some LitN) (117 ∷ 108 ∷ 108 ∷ []) null e (λ k. refl) (rw (n_is b e) s_null) (λ k u. refl) q p

  pub v_no_null : start_of b ≡ Some LitN → (q : List ℕ) → Differs ℕ SameByte (117 ∷ 108 ∷ 108 ∷ []) r q → Refuses (AnyValue d) s q
  v_no_null e q g = v_no_word (Some LitN) (117 ∷ 108 ∷ 108 ∷ []) null e (λ k. refl) q g
  -- ---- arrays and objects

module _ (s r : List ℕ) (d b : ℕ) (h : s ≡ b ∷ r) where
  array : start_of b ≡ Some OpenArray → (q : List ℕ) → GotArray d r q → GotValue (suc d) s q
  array e q g =
      record {
        json = g.json;
        part = part_front (λ t. Shows (suc d) g.json (91 ∷ t)) (Shows (suc d) g.json) s r q b h (λ t x. rw (array_is b e) x) g.part;
        goes = λ k. val_go s r (suc d) b h (Some OpenArray) e k (first d k) refl ∙ g.goes k;
      }

  no_array : start_of b ≡ Some OpenArray → (q : List ℕ) → Refuses (AnyArray d) r q → Refuses (AnyValue (suc d)) s q
  no_array e q n k = val_go s r (suc d) b h (Some OpenArray) e k (first d k) refl ∙ n k

  object : start_of b ≡ Some OpenObject → (q : List ℕ) → GotObject d r q → GotValue (suc d) s q
  object e q g =
      record {
        json = g.json;
        part = part_front (λ t. Shows (suc d) g.json (123 ∷ t)) (Shows (suc d) g.json) s r q b h (λ t x. rw (object_is b e) x) g.part;
        goes = λ k. val_go s r (suc d) b h (Some OpenObject) e k (members d k) refl ∙ g.goes k;
      }

  no_object : start_of b ≡ Some OpenObject → (q : List ℕ) → Refuses (AnyObject d) r q → Refuses (AnyValue (suc d)) s q
  no_object e q n k = val_go s r (suc d) b h (Some OpenObject) e k (members d k) refl ∙ n k

module _ (s r : List ℕ) (d b : ℕ) (h : s ≡ b ∷ r) (z : 0 < d) where
  pub v_array : start_of b ≡ Some OpenArray → (q : List ℕ) → GotArray (d - 1) r q → GotValue d s q
  v_array e q g = subst (λ (x : ℕ). GotValue x s q) (back d z) (array s r (d - 1) b h e q g)

  pub v_no_array : start_of b ≡ Some OpenArray → (q : List ℕ) → Refuses (AnyArray (d - 1)) r q → Refuses (AnyValue d) s q
  v_no_array e q n = subst (λ (x : ℕ). Refuses (AnyValue x) s q) (back d z) (no_array s r (d - 1) b h e q n)

  pub v_object : start_of b ≡ Some OpenObject → (q : List ℕ) → GotObject (d - 1) r q → GotValue d s q
  v_object e q g = subst (λ (x : ℕ). GotValue x s q) (back d z) (object s r (d - 1) b h e q g)

  pub v_no_object : start_of b ≡ Some OpenObject → (q : List ℕ) → Refuses (AnyObject (d - 1)) r q → Refuses (AnyValue d) s q
  v_no_object e q n = subst (λ (x : ℕ). Refuses (AnyValue x) s q) (back d z) (no_object s r (d - 1) b h e q n)
