-- The next child among pairs in the order of their keys.
-- Assumes nothing.
use Rattle.std.proofs.Common.{◌≡◌, ℕ, ◌+◌, ◌<◌, ◌≤◌, true, false, ◌⊎◌, [], ◌∷◌, ◌++◌, length, take, drop, Some, None, Option, sym, refl, ap, ◌∙◌, inl, inr, append_assoc, suc-add, zero-add, arith}
use Rattle.std.proofs.lemmas.Bool.{both_ways, cases_Bool, cases_order, cases_lt}
use Rattle.std.proofs.lemmas.List.{take_at, take_all, take-append-le, drop_at}
use Rattle.text.specs.Bytes.{Bytes, before, stripped}
use Rattle.text.specs.Utf8.{In}
use Rattle.text.proofs.Order.{before-alone, before_asym, strip_append}
use Rattle.stores.specs.Pairs.{Pairs, Ascends, within, segment, children, next_child}
use Rattle.runs.specs.Places.{key_at}
use Rattle.runs.specs.Search.{Parted}
use Rattle.runs.specs.Openings.{Leads, Passed, First}
use Rattle.runs.proofs.Parted.{strip_parts, before_both, before_front, past_prefix, between_slash, slash_high, slash_low, slash_low_of, smaller_front, take_not_before}
use Rattle.runs.proofs.Least.{least_by}
use Rattle.runs.proofs.Segments.{segment_of, segment-take, segment_parts}
use Rattle.runs.proofs.ByPlace.{ascends_at, high_on, child_at, child_of}

-- ---- the child of a key

-- a key that has a child is the prefix, the child, `/` and more; the child has no `/`
pub record Child (p k t : Bytes) : Type 0 where
  pub plain : segment t ≡ None
  pub more : Bytes
  pub is : k ≡ (p ++ t) ++ (47 ∷ more)
  pub rest : k ≡ p ++ (t ++ (47 ∷ more))

pub child_parts : (p k t : Bytes) → within (stripped p k) ≡ Some t → Child p k t
child_parts p k t h = by (stripped p k) refl h
  where
    by : (o : Option Bytes) → stripped p k ≡ o → within o ≡ Some t → Child p k t
    by None e g = absurd (cc)
    by (Some r) e g =
        let s = segment_parts r t g in
        let q : k ≡ p ++ (t ++ (47 ∷ s.1.0)) = strip_parts p k r e ∙ ap (λ (x : Bytes). p ++ x) s.1.1 in
        record { plain = s.0; more = s.1.0; is = q ∙ sym (append_assoc p t (47 ∷ s.1.0)); rest = q }

pub child_from : (p t m k : Bytes) → segment t ≡ None → k ≡ (p ++ t) ++ (47 ∷ m) → within (stripped p k) ≡ Some t
child_from p t m k n e = ap (λ (x : Bytes). within (stripped p x)) (e ∙ append_assoc p t (47 ∷ m)) ∙ ap within (strip_append p (t ++ (47 ∷ m))) ∙ segment_of t m n

-- ---- whether some key is a text, `/` and more

module _ (ps : Pairs) (a : Ascends ps) (f : Bytes) (i : ℕ) (s : Parted (f ++ (47 ∷ [])) ps i) where
  low : (j : ℕ) (m : Bytes) → j < i → key_at ps j ≡ f ++ (47 ∷ m) → ⊥
  low j m h e = both_ways (before (key_at ps j) (f ++ (47 ∷ []))) (ap (λ (x : Bytes). before x (f ++ (47 ∷ []))) e ∙ slash_high f m) (s.low j h)

  pub leads_end : length ps ≤ i → Leads ps f false
  leads_end h = λ j m l e. low j m (omega arith) e

  pub leads_here : i < length ps → before (key_at ps i) (f ++ (48 ∷ [])) ≡ true → Leads ps f true
  leads_here h b = (i, h, between_slash f (key_at ps i) (s.high i (omega arith) h) b)

  pub leads_past : before (key_at ps i) (f ++ (48 ∷ [])) ≡ false → Leads ps f false
  leads_past b = λ j m l e. by j m l e (cases_lt j i)
    where
      by : (j : ℕ) (m : Bytes) → j < length ps → key_at ps j ≡ f ++ (47 ∷ m) → (j < i) ⊎ (i ≤ j) → ⊥
      by j m l e (inl h) = low j m h e
      by j m l e (inr h) = both_ways (before (key_at ps j) (f ++ (48 ∷ []))) (high_on ps (f ++ (48 ∷ [])) i a b j h l) (ap (λ (x : Bytes). before x (f ++ (48 ∷ []))) e ∙ slash_low f m)

-- ---- places without a child after the given bytes

-- what stands before the bytes has no part in front that comes after them
front_before : (t x after : Bytes) → before (t ++ x) after ≡ true → before after t ≡ false
front_before t x after h = by (cases_Bool (before after t))
  where
    by : (before after t ≡ true) ⊎ (before after t ≡ false) → before after t ≡ false
    by (inl e) =
        let g : before after (t ++ x) ≡ true = before_front after (t ++ x) (length t) (ap (before after) (take_at t x (length t) refl) ∙ e) in
        absurd (both_ways (before after (t ++ x)) (before_asym (t ++ x) after h) g)
    by (inr e) = e

pub passed_start : (ps : Pairs) (p after : Bytes) (i : ℕ) → Parted (p ++ after) ps i → Passed ps p after i
passed_start ps p after i s j t h l e =
    let c = child_parts p (key_at ps j) t e in
    front_before t (47 ∷ c.more) after (sym (before_both p (t ++ (47 ∷ c.more)) after) ∙ ap (λ (x : Bytes). before x (p ++ after)) (sym c.rest) ∙ s.low j h)

no_child : (ps : Pairs) (p after : Bytes) (j : ℕ) (t : Bytes) → within (stripped p (key_at ps j)) ≡ None → within (stripped p (key_at ps j)) ≡ Some t → before after t ≡ false
no_child ps p after j t n e = absurd (cc)

module _ (ps : Pairs) (a : Ascends ps) (p after : Bytes) (i : ℕ) (d : Passed ps p after i) where
  pub passed_plain : within (stripped p (key_at ps i)) ≡ None → Passed ps p after (i + 1)
  passed_plain n j t h l e = by (cases_lt j i)
    where
      by : (j < i) ⊎ (i ≤ j) → before after t ≡ false
      by (inl g) = d j t g l e
      by (inr g) = let q : j ≡ i = omega arith in no_child ps p after j t (ap (λ (x : ℕ). within (stripped p (key_at ps x))) q ∙ n) e

  pub passed_under : i < length ps → before (key_at ps i) (p ++ after) ≡ false → stripped p (key_at ps i) ≡ None → Passed ps p after (length ps)
  passed_under g b n j t h l e = by (cases_order j i)
    where
      by : (j ≡ i) ⊎ ((j < i) ⊎ (i < j)) → before after t ≡ false
      by (inl q) = no_child ps p after j t (ap (λ (x : ℕ). within (stripped p (key_at ps x))) q ∙ ap within n) e
      by (inr (inl q)) = d j t q l e
      by (inr (inr q)) = no_child ps p after j t (ap within (past_prefix p after (key_at ps i) (key_at ps j) b n (ascends_at ps i j a q l))) e

  -- what is sought behind the `/` of a child lies further on
  pub skip_on : (t : Bytes) → within (stripped p (key_at ps i)) ≡ Some t → i < length ps → (r x : ℕ) → Parted ((p ++ t) ++ (x ∷ [])) ps r → 47 < x → i < r
  skip_on t e h r x s l = by (cases_lt i r)
    where
      c : Child p (key_at ps i) t
      c = child_parts p (key_at ps i) t e

      by : (i < r) ⊎ (r ≤ i) → i < r
      by (inl g) = g
      by (inr g) = absurd (both_ways (before (key_at ps i) ((p ++ t) ++ (x ∷ []))) (s.high i g h) (ap (λ (y : Bytes). before y ((p ++ t) ++ (x ∷ []))) c.is ∙ slash_low_of (p ++ t) c.more x l))

  module _ (t : Bytes) (e : within (stripped p (key_at ps i)) ≡ Some t) (h : i < length ps) (r : ℕ) (s : Parted ((p ++ t) ++ (48 ∷ [])) ps r) where
    pub passed_skip : before after t ≡ false → Passed ps p after r
    passed_skip n j u k l f = by (cases_lt j i)
      where
        c : Child p (key_at ps i) t
        c = child_parts p (key_at ps i) t e

        by : (j < i) ⊎ (i ≤ j) → before after u ≡ false
        by (inl g) = d j u g l f
        by (inr g) =
            let first : before (key_at ps i) ((p ++ t) ++ (47 ∷ [])) ≡ false = ap (λ (x : Bytes). before x ((p ++ t) ++ (47 ∷ []))) c.is ∙ slash_high (p ++ t) c.more in
            let m = between_slash (p ++ t) (key_at ps j) (high_on ps ((p ++ t) ++ (47 ∷ [])) i a first j g l) (s.low j k) in
            let q : within (stripped p (key_at ps j)) ≡ Some t = child_from p t m.0 (key_at ps j) c.plain m.1 in
            let v : u ≡ t = grind arith in
            ap (before after) v ∙ n

-- ---- the next child

pub none_next : (ps : Pairs) (p after : Bytes) → Passed ps p after (length ps) → next_child p after ps ≡ None
none_next ps p after d = least_by after (children p ps) None (λ y m. let k = child_at p ps y m in d k.0 y k.1 k.1 k.2)

pub take-joined : (x y : Bytes) (n : ℕ) → take (length x + n) (x ++ y) ≡ x ++ take n y
take-joined [] y n = rw (zero-add n)
take-joined (z ∷ x) y n = rw (suc-add (length x) n) (ap (λ (w : Bytes). z ∷ w) (take-joined x y n))

-- the first bytes of a key whose child is t: the prefix and so many bytes of t
module _ (p k t : Bytes) (c : Child p k t) (m : ℕ) (h : m ≤ length t) where
  short : take m (t ++ (47 ∷ c.more)) ≡ take m t
  short = take-append-le m t (47 ∷ c.more) h

  pub behind_is : take m (drop (length p) k) ≡ take m t
  behind_is = ap (λ (x : Bytes). take m (drop (length p) x)) c.rest ∙ ap (take m) (drop_at p (t ++ (47 ∷ c.more)) (length p) refl) ∙ short

  pub front_is : take (length p + m) k ≡ p ++ take m t
  front_is = ap (take (length p + m)) c.rest ∙ take-joined p (t ++ (47 ∷ c.more)) m ∙ ap (λ (x : Bytes). p ++ x) short

module _ (ps : Pairs) (a : Ascends ps) (p after : Bytes) (i n r : ℕ) (h : i < length ps) (d : Passed ps p after i)
    (t : Bytes) (e : within (stripped p (key_at ps i)) ≡ Some t) (b : before after t ≡ true) (long : length t ≡ n) (f : First ps (key_at ps i) (length p) after n r) where
  c : Child p (key_at ps i) t
  c = child_parts p (key_at ps i) t e

  behind_key : (m : ℕ) → m ≤ n → take m (drop (length p) (key_at ps i)) ≡ take m t
  behind_key m l = behind_is p (key_at ps i) t c m (omega arith)

  front_key : (m : ℕ) → m ≤ n → take (length p + m) (key_at ps i) ≡ p ++ take m t
  front_key m l = front_is p (key_at ps i) t c m (omega arith)

  plain : segment (take r t) ≡ None
  plain = segment-take r t c.plain

  -- it is a child, and comes after the bytes
  there : In (take r t) (children p ps) × (before after (take r t) ≡ true)
  there = by (cases_lt r n)
    where
      by : (r < n) ⊎ (n ≤ r) → In (take r t) (children p ps) × (before after (take r t) ≡ true)
      by (inl l) =
          let o = f.here l in
          let j : ℕ = o.1.0 in
          let q : key_at ps j ≡ (p ++ take r t) ++ (47 ∷ o.1.2.0) = o.1.2.1 ∙ ap (λ (x : Bytes). x ++ (47 ∷ o.1.2.0)) (front_key r (omega arith)) in
          (child_of p ps (take r t) j o.1.1 (child_from p (take r t) o.1.2.0 (key_at ps j) plain q), ap (before after) (sym (behind_key r (omega arith))) ∙ o.0)
      by (inr l) =
          let w : take r t ≡ t = take_all r t (omega arith) in
          (child_of p ps (take r t) i h (e ∙ ap Some (sym w)), ap (before after) w ∙ b)

  -- no child after the bytes is smaller
  module _ (y : Bytes) (j : ℕ) (l : j < length ps) (g : within (stripped p (key_at ps j)) ≡ Some y) (v : before after y ≡ true) where
    o : Child p (key_at ps j) y
    o = child_parts p (key_at ps j) y g

    not_first : before (key_at ps j) (key_at ps i) ≡ false
    not_first = by (cases_order j i)
      where
        by : (j ≡ i) ⊎ ((j < i) ⊎ (i < j)) → before (key_at ps j) (key_at ps i) ≡ false
        by (inl q) = ap (λ (x : ℕ). before (key_at ps x) (key_at ps i)) q ∙ before-alone (key_at ps i)
        by (inr (inl q)) = absurd (both_ways (before after y) (d j y q l g) v)
        by (inr (inr q)) = before_asym (key_at ps i) (key_at ps j) (ascends_at ps i j a q l)

    behind_both : before (y ++ (47 ∷ o.more)) (t ++ (47 ∷ c.more)) ≡ false
    behind_both = sym (before_both p (y ++ (47 ∷ o.more)) (t ++ (47 ∷ c.more))) ∙ ap (λ (x : Bytes). before x (p ++ (t ++ (47 ∷ c.more)))) (sym o.rest) ∙ ap (before (key_at ps j)) (sym c.rest) ∙ not_first

    smaller : before y (take r t) ≡ true → before y (take r t) ≡ false
    smaller s = by (cases_lt (length y) r)
      where
        w : (x : Bytes) × (t ≡ y ++ x)
        w = smaller_front y t o.more c.more (before_front y t r s) behind_both

        y_is : take (length y) t ≡ y
        y_is = ap (take (length y)) w.1 ∙ take_at y w.0 (length y) refl

        by : (length y < r) ⊎ (r ≤ length y) → before y (take r t) ≡ false
        by (inl q) =
            let m : length y ≤ n = omega (arith, f.within) in
            let no : Leads ps (take (length p + length y) (key_at ps i)) false = f.low (length y) q (ap (before after) (behind_key (length y) m ∙ y_is) ∙ v) in
            absurd (no j o.more l (o.is ∙ ap (λ (x : Bytes). x ++ (47 ∷ o.more)) (sym (front_key (length y) m ∙ ap (λ (x : Bytes). p ++ x) y_is))))
        by (inr q) = ap (λ (x : Bytes). before x (take r t)) (sym y_is) ∙ take_not_before (length y) r t q

    not_smaller : before y (take r t) ≡ false
    not_smaller = by (cases_Bool (before y (take r t)))
      where
        by : (before y (take r t) ≡ true) ⊎ (before y (take r t) ≡ false) → before y (take r t) ≡ false
        by (inl s) = smaller s
        by (inr s) = s

  pub next_child_is : next_child p after ps ≡ Some (take r (drop (length p) (key_at ps i)))
  next_child_is =
      least_by after (children p ps) (Some (take r t)) (there.0, there.1, λ y m v. let k = child_at p ps y m in not_smaller y k.0 k.1 k.2 v)
      ∙ ap Some (sym (behind_key r f.within))
