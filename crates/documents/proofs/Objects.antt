-- Names and objects.
-- Assumes nothing.
use Rattle.std.proofs.Common.{◌≡◌, ℕ, suc, ◌-◌, Bool, true, false, eqb, List, [], ◌∷◌, ◌++◌, length, take, sym, refl, ap, ◌∙◌, subst, append_assoc, arith, length-append, take_at}
use Rattle.grammar.specs.Ast.{Json, Members, obj, mnone, malso}
use Rattle.grammar.specs.Grammar.{Ws, named, Shows, s_obj0, s_obj, padded, ShowsMembers, m_one, m_more}
use Rattle.grammar.specs.Machine.{Stack, in_obj, name, val, members, member, colon, aft, chars, step_members, step_member, step_colon, step_pair, run, stopped}
use Rattle.grammar.specs.Terminals.{is_blank, punct_of}
use Rattle.grammar.proofs.Numbers.{eqb_is}
use Rattle.grammar.proofs.Complete.{ws_val, ws_members, ws_member, ws_colon, ws_aft}
use Rattle.documents.specs.Reading.{Part, Refuses, NoBlank, AnyName, AnyObject, Each, Unlike, Differs, GotString, GotValue, NameColon, name_colon, GotName, GotObject, ReadyName, rn_first, rn_next, ReadyPair, rp_first, rp_next}
use Rattle.documents.proofs.Parts.{part_then, part_as, part_byte, part_front, Byte, skip, go_at, bad_at, same_at}
use Rattle.documents.proofs.Words.{SameByte, one_is, one_differs, not_is}
use Rattle.documents.proofs.Strings.{str_at}
use Rattle.documents.proofs.Arrays.{no_punct, Spaced, spaced, Marked, marked}

-- ---- names

colon_stops : (s : List ℕ) → NoBlank s → Unlike ℕ SameByte 58 s → (d : ℕ) (ms : Members) (n : List ℕ) (k : Stack) → run (colon d ms n k) s ≡ stopped s
colon_stops [] n u d ms m k = refl
colon_stops (b ∷ t) n u d ms m k =
    bad_at (colon d ms m k) (b ∷ t) t b refl (ap (λ x. step_colon x d ms m k) (no_punct 58 58 b n (not_is b 58 u) (not_is b 58 u)))

module _ (s t : List ℕ) (o : Part (Each ℕ SameByte (34 ∷ [])) s t) where
  to_chars : (d : ℕ) (ms : Members) (k : Stack) → run (member d ms k) s ≡ run (chars d (name ms) [] k) t
  to_chars d ms k = go_at (member d ms k) (chars d (name ms) [] k) s t 34 (one_is 34 s t o) refl

  module _ (r c : List ℕ) (g : GotString t r) (w : Part Ws r c) where
    to_colon : (d : ℕ) (ms : Members) (k : Stack) → run (member d ms k) s ≡ run (colon d ms g.text k) c
    to_colon d ms k =
        let n : List ℕ = g.text in
        to_chars d ms k
        ∙ (str_at g d (name ms) k ∙ (go_at (chars d (name ms) n k) (colon d ms n k) (34 ∷ r) r 34 refl refl ∙ skip (colon d ms n k) (ws_colon d ms n k) w))

    pub m_no_colon : (q : List ℕ) → NoBlank c → Differs ℕ SameByte (58 ∷ []) c q → Refuses AnyName s q
    m_no_colon q n f d ms k =
        let h = one_differs 58 c q f in
        to_colon d ms k ∙ subst (λ (x : List ℕ). run (colon d ms g.text k) c ≡ stopped x) h.0 (colon_stops c n h.1 d ms g.text k)

    -- the name is what stands in front of the closing quote
    name_is : take (length t - length r - 1) t ≡ g.text
    name_is =
        let n : length g.text ≡ length t - length r - 1 = omega (arith, ap length g.splits, length-append g.text (34 ∷ r)) in
        ap (λ (x : List ℕ). take (length t - length r - 1) x) g.splits ∙ take_at g.text (34 ∷ r) (length t - length r - 1) n

    pub m_name : (u v : List ℕ) → Part (Each ℕ SameByte (58 ∷ [])) c u → Part Ws u v → GotName s (take (length t - length r - 1) t) v
    m_name u v f z =
        let n : List ℕ = g.text in
        subst (λ (x : List ℕ). GotName s x v) (sym name_is)
        (record {
          part =
              part_front (λ x. (y : List ℕ) × (z : List ℕ) × (x ≡ n ++ (34 ∷ (y ++ (58 ∷ z)))) × Ws y × Ws z) (NameColon n) s t v 34 (one_is 34 s t o)
              (λ x y. rw y.2 (name_colon g.holds y.3 y.4))
              (part_then (λ x. x ≡ n) (λ x. (y : List ℕ) × (z : List ℕ) × (x ≡ 34 ∷ (y ++ (58 ∷ z))) × Ws y × Ws z) (λ x. (y : List ℕ) × (z : List ℕ) × (x ≡ n ++ (34 ∷ (y ++ (58 ∷ z)))) × Ws y × Ws z) t (34 ∷ r) v
              (λ x y e f. (f.0, f.1, rw (e, f.2) refl, f.3, f.4))
              (record { text = n; splits = g.splits; holds = refl })
              (part_front (λ x. (y : List ℕ) × (z : List ℕ) × (x ≡ y ++ (58 ∷ z)) × Ws y × Ws z) (λ x. (y : List ℕ) × (z : List ℕ) × (x ≡ 34 ∷ (y ++ (58 ∷ z))) × Ws y × Ws z) (34 ∷ r) r v 34 refl
              (λ x y. (y.0, y.1, rw y.2 refl, y.3, y.4))
              (part_then Ws (Marked 58) (λ x. (y : List ℕ) × (z : List ℕ) × (x ≡ y ++ (58 ∷ z)) × Ws y × Ws z) r c v
              (λ x y e f. (x, f.0, rw f.1 refl, e, f.2)) w (marked 58 c u v (one_is 58 c u f) z))));
          goes = λ d ms k.
              to_colon d ms k
              ∙ (go_at (colon d ms n k) (val d (in_obj ms n ∷ k)) c u 58 (one_is 58 c u f) refl ∙ skip (val d (in_obj ms n ∷ k)) (ws_val d (in_obj ms n ∷ k)) z);
        })

-- ---- objects
pub record AtName (d : ℕ) (s r : List ℕ) : Type 0 where
  pub before : Members
  pub part : Part (ReadyName d before) s r
  pub goes : (k : Stack) → run (members d k) s ≡ run (member d before k) r

pub record AtPair (d : ℕ) (s r : List ℕ) : Type 0 where
  pub before : Members
  pub named : List ℕ
  pub part : Part (ReadyPair d before named) s r
  pub goes : (k : Stack) → run (members d k) s ≡ run (val d (in_obj before named ∷ k)) r

pub record PastPair (d : ℕ) (s r : List ℕ) : Type 0 where
  pub before : Members
  pub named : List ℕ
  pub last : Json
  pub part : Part (ShowsMembers d before named last) s r
  pub goes : (k : Stack) → run (members d k) s ≡ run (aft d last (in_obj before named ∷ k)) r

-- where there is no `}`, the first name is expected as any other
first_step : (b : ℕ) → is_blank b ≡ false → (b ≡ 125 → ⊥) → (d : ℕ) (k : Stack) → (z : Bool) → eqb b 34 ≡ z → step_members (punct_of 34 125 b) d k ≡ step_member (punct_of 34 34 b) d mnone k
first_step b h f d k true e =
    let i : b ≡ 34 = eqb_is b 34 e in
    ap (λ x. step_members (punct_of 34 125 x) d k) i ∙ sym (ap (λ x. step_member (punct_of 34 34 x) d mnone k) i)
first_step b h f d k false e =
    let n = not_is b 34 e in
    ap (λ x. step_members x d k) (no_punct 34 125 b h n f) ∙ sym (ap (λ x. step_member x d mnone k) (no_punct 34 34 b h n n))

pub first_name : (s : List ℕ) → NoBlank s → Unlike ℕ SameByte 125 s → (d : ℕ) (k : Stack) → run (members d k) s ≡ run (member d mnone k) s
first_name [] n u d k = refl
first_name (b ∷ t) n u d k = same_at (members d k) (member d mnone k) (b ∷ t) t b refl (first_step b n (not_is b 125 u) d k (eqb b 34) refl)

pair_stops : (s : List ℕ) → NoBlank s → Unlike ℕ SameByte 125 s → Unlike ℕ SameByte 44 s → (d : ℕ) (j : Json) (ms : Members) (n : List ℕ) (k : Stack) → run (aft d j (in_obj ms n ∷ k)) s ≡ stopped s
pair_stops [] n u v d j ms m k = refl
pair_stops (b ∷ t) n u v d j ms m k =
    bad_at (aft d j (in_obj ms m ∷ k)) (b ∷ t) t b refl (ap (λ x. step_pair x d j ms m k) (no_punct 44 125 b n (not_is b 44 v) (not_is b 125 u)))

module _ (d : ℕ) (s r : List ℕ) (p : Part Ws s r) where
  unfoldable pub o_none : (q : List ℕ) → r ≡ 125 ∷ q → GotObject d s q
  o_none q h =
      record {
        json = obj mnone;
        part = part_then Ws (Byte 125) (λ t. Shows (suc d) (obj mnone) (123 ∷ t)) s r q (λ t u x y. rw y (s_obj0 x)) p (part_byte 125 r q h);
        goes = λ k. skip (members d k) (ws_members d k) p ∙ go_at (members d k) (aft (suc d) (obj mnone) k) r q 125 h refl;
      }

  unfoldable pub o_begin : NoBlank r → Unlike ℕ SameByte 125 r → AtName d s r
  o_begin n u =
      record { before = mnone; part = part_as p (λ t x. rn_first x); goes = λ k. skip (members d k) (ws_members d k) p ∙ first_name r n u d k }

pub add_name : {d : ℕ} {ms : Members} {r : List ℕ} → ReadyName d ms r → {n t : List ℕ} → NameColon n t → ReadyPair d ms n (r ++ t)
add_name {d} (rn_first {w = w} ws) (name_colon {n} {v} {w = z} cs vs zs) =
    subst (λ (y : List ℕ). ReadyPair d mnone n y) (simp append_assoc) (rp_first {u = w ++ (34 ∷ (n ++ (34 ∷ v)))} (named ws cs vs) zs)
add_name {d} (rn_next {ms = ms} {n = m} {x = x} {t = t} {w = w} is ws) (name_colon {n} {v} {w = z} cs vs zs) =
    subst (λ (y : List ℕ). ReadyPair d (malso ms m x) n y) (simp append_assoc) (rp_next {u = w ++ (34 ∷ (n ++ (34 ∷ v)))} is (named ws cs vs) zs)

unfoldable pub o_name : (d : ℕ) (s r n q : List ℕ) → AtName d s r → GotName r n q → AtPair d s q
o_name d s r n q v g =
    let ms : Members = v.before in
    record {
      before = ms;
      named = n;
      part = part_then (ReadyName d ms) (NameColon n) (ReadyPair d ms n) s r q (λ t u x y. add_name x y) v.part g.part;
      goes = λ k. v.goes k ∙ g.goes d ms k;
    }

pub add_pair : {d : ℕ} {ms : Members} {n r : List ℕ} → ReadyPair d ms n r → {x : Json} {t w : List ℕ} → Shows d x t → Ws w → ShowsMembers d ms n x (r ++ (t ++ w))
add_pair {d} (rp_first {n = n} {u = u} {w = v} nm vs) {x} {t} {w} sh ws =
    subst (λ (z : List ℕ). ShowsMembers d mnone n x z) (simp append_assoc) (m_one nm (padded vs sh ws))
add_pair {d} (rp_next {ms = ms} {m = m} {n = n} {x = y} {t = s} {u = u} {w = v} is nm vs) {x} {t} {w} sh ws =
    subst (λ (z : List ℕ). ShowsMembers d (malso ms m y) n x z) (simp append_assoc) (m_more is nm (padded vs sh ws))

unfoldable pub o_pair : (d : ℕ) (s r q o : List ℕ) → AtPair d s r → GotValue d r q → Part Ws q o → PastPair d s o
o_pair d s r q o v g p =
    let j : Json = g.json in
    let ms : Members = v.before in
    let m : List ℕ = v.named in
    record {
      before = ms;
      named = m;
      last = j;
      part = part_then (ReadyPair d ms m) (Spaced d j) (ShowsMembers d ms m j) s r o (λ t u x y. rw y.2 (add_pair x y.3 y.4)) v.part (spaced g p);
      goes = λ k. v.goes k ∙ (g.goes (in_obj ms m ∷ k) ∙ skip (aft d j (in_obj ms m ∷ k)) (ws_aft d j (in_obj ms m ∷ k)) p);
    }

module _ (d : ℕ) (s r : List ℕ) (p : PastPair d s r) where
  pub o_pair_stops : NoBlank r → Unlike ℕ SameByte 125 r → Unlike ℕ SameByte 44 r → Refuses (AnyObject d) s r
  o_pair_stops n u v k = p.goes k ∙ pair_stops r n u v d p.last p.before p.named k

  pub o_pair_bad : (q : List ℕ) → NoBlank r → Unlike ℕ SameByte 125 r → Differs ℕ SameByte (44 ∷ []) r q → Refuses (AnyObject d) s q
  o_pair_bad q n u f = let g = one_differs 44 r q f in subst (λ (x : List ℕ). Refuses (AnyObject d) s x) g.0 (o_pair_stops n u g.1)

  unfoldable pub o_close : (q : List ℕ) → r ≡ 125 ∷ q → GotObject d s q
  o_close q h =
      let j : Json = obj (malso p.before p.named p.last) in
      record {
        json = j;
        part = part_then (ShowsMembers d p.before p.named p.last) (Byte 125) (λ t. Shows (suc d) j (123 ∷ t)) s r q (λ t u x y. rw y (s_obj x)) p.part (part_byte 125 r q h);
        goes = λ k. p.goes k ∙ go_at (aft d p.last (in_obj p.before p.named ∷ k)) (aft (suc d) j k) r q 125 h refl;
      }

  unfoldable pub o_next : (q o : List ℕ) → r ≡ 44 ∷ q → Part Ws q o → AtName d s o
  o_next q o h w =
      let ms : Members = malso p.before p.named p.last in
      record {
        before = ms;
        part = part_then (ShowsMembers d p.before p.named p.last) (Marked 44) (ReadyName d ms) s r o (λ t u x y. rw y.1 (rn_next x y.2)) p.part (marked 44 r q o h w);
        goes = λ k.
            p.goes k ∙ (go_at (aft d p.last (in_obj p.before p.named ∷ k)) (member d ms k) r q 44 h refl ∙ skip (member d ms k) (ws_member d ms k) w);
      }
