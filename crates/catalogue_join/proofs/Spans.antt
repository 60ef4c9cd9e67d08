-- Ranges that rise are told apart by plain arithmetic on their places; each law is an induction on the list.
use Rattle.std.proofs.Common.{◌≡◌, ℕ, suc, zero, ◌+◌, ◌-◌, ◌<◌, ◌≤◌, inl, inr, Bool, true, false, not, ◌||◌, leb, List, [], ◌∷◌, ◌++◌, length, get_or, take, drop, min, max, refl, sym, ap, ◌∙◌, subst, add-zero, arith}
use Rattle.std.proofs.Math.Bool.{or_assoc, or_comm}
use Rattle.std.proofs.lemmas.Bool.{cases_lt, or_from, or_left, or_right, cond_both, leb-true, leb-false, ltb-true, ltb-false, le-ltb, lt-leb, false≢true, not-true, not_from_false}
use Rattle.std.proofs.lemmas.List.{take-append-drop, drop_more, get_or-drop, get_or-take, length-drop, length-take, drop-drop, take_more, get_or_read}
use Rattle.std.proofs.lemmas.Bool.Decides.{nat_tests}
use Rattle.std.specs.List.Sorted.{IsNonDecreasingBy, IsPartitionedBy}
use Rattle.catalogue_join.specs.Span.{Shape, IsShape, apart, covers, among, Rises, Ascends, merge, bridged_from, bridged, IsPlace, IsRangeAt, IsOverlap}

pub or_first : (a b : Bool) → a ≡ false → (a || b) ≡ b
or_first true b e = cc
or_first false b e = refl

pub or_second : (a b : Bool) → b ≡ false → (a || b) ≡ a
or_second true b e = refl
or_second false b e = e

module _ {S : Type 0} (shape : Shape S) where
  -- a place before a range, or past it, is not in it
  pub covers_before : (s : S) (p : ℕ) → p < shape.low s → covers shape s p ≡ false
  covers_before s p h = grind (arith, nat_tests)

  pub covers_past : (s : S) (p : ℕ) → shape.high s < p → covers shape s p ≡ false
  covers_past s p h = grind (arith, nat_tests)

  pub covers_within : (s : S) (p : ℕ) → shape.low s ≤ p → p ≤ shape.high s → covers shape s p ≡ true
  covers_within s p h k = grind (arith, nat_tests)

  -- a place before all ranges is in none of them
  pub among_before : (ss : List S) (n p : ℕ) → Rises shape n ss → p < n → among shape ss p ≡ false
  among_before [] n p r h = refl
  among_before (s ∷ ss) n p r h =
      or_from (covers shape s p) (among shape ss p) (covers_before s p (omega arith)) (among_before ss (shape.high s + 2) p r.3 (omega arith))

  pub among-append : (ss ts : List S) (p : ℕ) → among shape (ss ++ ts) p ≡ (among shape ss p || among shape ts p)
  among-append [] ts p = refl
  among-append (s ∷ ss) ts p = ap (λ b. covers shape s p || b) (among-append ss ts p) ∙ sym (or_assoc (covers shape s p) (among shape ss p) (among shape ts p))

  pub rises_lower : (ss : List S) (n m : ℕ) → Rises shape n ss → m ≤ n → Rises shape m ss
  rises_lower [] n m r h = tt
  rises_lower (s ∷ ss) n m r h = (omega arith, r.1, r.2, r.3)

  -- ranges that rise do so from wherever the first of them begins, or from before it
  pub rises_raise : (ss : List S) (n m : ℕ) (d : S) → Rises shape n ss → (0 < length ss → m ≤ shape.low (get_or ss 0 d)) → Rises shape m ss
  rises_raise [] n m d r h = tt
  rises_raise (s ∷ ss) n m d r h = (h (omega arith), r.1, r.2, r.3)

  pub ascends_lower : (ss : List S) (n m : ℕ) → Ascends shape n ss → m ≤ n → Ascends shape m ss
  ascends_lower [] n m r h = tt
  ascends_lower (s ∷ ss) n m r h = (omega arith, r.1, r.2, r.3)

  pub ascends_from_rises : (ss : List S) (n : ℕ) → Rises shape n ss → Ascends shape n ss
  ascends_from_rises [] n r = tt
  ascends_from_rises (s ∷ ss) n r = (r.0, r.1, r.2, ascends_from_rises ss (shape.low s) (rises_lower ss (shape.high s + 2) (shape.low s) r.3 (omega arith)))

  -- the first place at which a range may begin after these ranges, of which the first begins at n or later
  abbrev pub after : ℕ → List S → ℕ
  after n [] = n
  after n (s ∷ ss) = after (shape.high s + 2) ss

  pub after_least : (ss : List S) (n : ℕ) → Rises shape n ss → n ≤ after n ss
  after_least [] n r = omega arith
  after_least (s ∷ ss) n r = omega (arith, after_least ss (shape.high s + 2) r.3)

  -- a place past all ranges is in none of them
  pub among_past : (ss : List S) (n p : ℕ) → Rises shape n ss → after n ss ≤ p + 1 → among shape ss p ≡ false
  among_past [] n p r h = refl
  among_past (s ∷ ss) n p r h =
      or_from (covers shape s p) (among shape ss p) (covers_past s p (omega (arith, after_least ss (shape.high s + 2) r.3))) (among_past ss (shape.high s + 2) p r.3 h)

  pub Rises-append : (ss ts : List S) (n : ℕ) → Rises shape n ss → Rises shape (after n ss) ts → Rises shape n (ss ++ ts)
  Rises-append [] ts n r q = q
  Rises-append (s ∷ ss) ts n r q = (r.0, r.1, r.2, Rises-append ss ts (shape.high s + 2) r.3 q)

  pub rises_front : (ss ts : List S) (n : ℕ) → Rises shape n (ss ++ ts) → Rises shape n ss
  rises_front [] ts n r = tt
  rises_front (s ∷ ss) ts n r = (r.0, r.1, r.2, rises_front ss ts (shape.high s + 2) r.3)

  pub rises_back : (ss ts : List S) (n : ℕ) → Rises shape n (ss ++ ts) → Rises shape (after n ss) ts
  rises_back [] ts n r = r
  rises_back (s ∷ ss) ts n r = rises_back ss ts (shape.high s + 2) r.3

  pub after-append : (ss ts : List S) (n : ℕ) → after n (ss ++ ts) ≡ after (after n ss) ts
  after-append [] ts n = refl
  after-append (s ∷ ss) ts n = after-append ss ts (shape.high s + 2)

  -- a list at an index: what stands before, the range there, and what stands after
  pub split_at : (ss : List S) (i : ℕ) (d : S) → i < length ss → ss ≡ take i ss ++ get_or ss i d ∷ drop (i + 1) ss
  split_at ss i d h = sym (take-append-drop i ss) ∙ ap (λ (xs : List S). take i ss ++ xs) (drop_more ss i d h)

  pub record RisesAt (n : ℕ) (ss : List S) (i : ℕ) (d : S) : Type 0 where
    pub before : Rises shape n (take i ss)
    pub apart_before : after n (take i ss) ≤ shape.low (get_or ss i d)
    pub is_range : shape.low (get_or ss i d) ≤ shape.high (get_or ss i d)
    pub named : shape.named (get_or ss i d) ≡ true
    pub behind : Rises shape (shape.high (get_or ss i d) + 2) (drop (i + 1) ss)
    pub parts : (p : ℕ) → among shape ss p ≡ (among shape (take i ss) p || (covers shape (get_or ss i d) p || among shape (drop (i + 1) ss) p))

  pub rises_at : (ss : List S) (n i : ℕ) (d : S) → Rises shape n ss → i < length ss → RisesAt n ss i d
  rises_at ss n i d r h =
      let e = split_at ss i d h in
      let whole : Rises shape n (take i ss ++ get_or ss i d ∷ drop (i + 1) ss) = subst (λ (xs : List S). Rises shape n xs) e r in
      let rest = rises_back (take i ss) (get_or ss i d ∷ drop (i + 1) ss) n whole in
      record {
        before = rises_front (take i ss) (get_or ss i d ∷ drop (i + 1) ss) n whole;
        apart_before = rest.0;
        is_range = rest.1;
        named = rest.2;
        behind = rest.3;
        parts = λ p. ap (λ (xs : List S). among shape xs p) e ∙ among-append (take i ss) (get_or ss i d ∷ drop (i + 1) ss) p;
      }

  pub rises_drop : (ss : List S) (n i : ℕ) → Rises shape n ss → Rises shape (after n (take i ss)) (drop i ss)
  rises_drop ss n i r = rises_back (take i ss) (drop i ss) n (subst (λ (xs : List S). Rises shape n xs) (sym (take-append-drop i ss)) r)

  pub rises_take : (ss : List S) (n i : ℕ) → Rises shape n ss → Rises shape n (take i ss)
  rises_take ss n i r = rises_front (take i ss) (drop i ss) n (subst (λ (xs : List S). Rises shape n xs) (sym (take-append-drop i ss)) r)

  -- the ranges from an index on rise from wherever the one there begins, or from before it
  pub rises_from : (ss : List S) (n i m : ℕ) (d : S) → Rises shape n ss → (i < length ss → m ≤ shape.low (get_or ss i d)) → Rises shape m (drop i ss)
  rises_from ss n i m d r h =
      rises_raise (drop i ss) (after n (take i ss)) m d (rises_drop ss n i r)
      (λ k. rw (get_or-drop, add-zero) (h (omega (arith, length-drop i ss))))

  pub among-split : (ss : List S) (i p : ℕ) → among shape ss p ≡ (among shape (take i ss) p || among shape (drop i ss) p)
  among-split ss i p = ap (λ (xs : List S). among shape xs p) (sym (take-append-drop i ss)) ∙ among-append (take i ss) (drop i ss) p

  -- a search: where a range begins at p or before, and the next one after p, that range alone can have p
  pub among_found : (ss : List S) (i p : ℕ) (d : S) → Rises shape 0 ss → i < length ss → shape.low (get_or ss i d) ≤ p → (i + 1 < length ss → p < shape.low (get_or ss (i + 1) d)) → among shape ss p ≡ covers shape (get_or ss i d) p
  among_found ss i p d r h begun next =
      let at = rises_at ss 0 i d r h in
      let front : among shape (take i ss) p ≡ false = among_past (take i ss) 0 p at.before (omega arith) in
      let back : among shape (drop (i + 1) ss) p ≡ false = among_before (drop (i + 1) ss) (p + 1) p (rises_from ss 0 (i + 1) (p + 1) d r (λ k. omega (arith, next k))) (omega arith) in
      at.parts p ∙ or_first (among shape (take i ss) p) (covers shape (get_or ss i d) p || among shape (drop (i + 1) ss) p) front ∙ or_second (covers shape (get_or ss i d) p) (among shape (drop (i + 1) ss) p) back

  -- a search: where no range begins at p or before, none has p
  pub among_none : (ss : List S) (p : ℕ) (d : S) → Rises shape 0 ss → (0 < length ss → p < shape.low (get_or ss 0 d)) → among shape ss p ≡ false
  among_none ss p d r h = among_before ss (p + 1) p (rises_raise ss 0 (p + 1) d r (λ k. omega (arith, h k))) (omega arith)

  -- a range of the list: all its places are in the list, and the place past its end is not
  pub among_within : (ss : List S) (i p : ℕ) (d : S) → Rises shape 0 ss → i < length ss → covers shape (get_or ss i d) p ≡ true → among shape ss p ≡ true
  among_within ss i p d r h c =
      let at = rises_at ss 0 i d r h in
      at.parts p ∙ or_right (among shape (take i ss) p) (covers shape (get_or ss i d) p || among shape (drop (i + 1) ss) p) (or_left (covers shape (get_or ss i d) p) (among shape (drop (i + 1) ss) p) c)

  pub among_past_range : (ss : List S) (i : ℕ) (d : S) → Rises shape 0 ss → i < length ss → among shape ss (shape.high (get_or ss i d) + 1) ≡ false
  among_past_range ss i d r h =
      let at = rises_at ss 0 i d r h in
      let p = shape.high (get_or ss i d) + 1 in
      let front : among shape (take i ss) p ≡ false = among_past (take i ss) 0 p at.before (omega arith) in
      let back : among shape (drop (i + 1) ss) p ≡ false = among_before (drop (i + 1) ss) (shape.high (get_or ss i d) + 2) p at.behind (omega arith) in
      at.parts p ∙ or_from (among shape (take i ss) p) (covers shape (get_or ss i d) p || among shape (drop (i + 1) ss) p) front (or_from (covers shape (get_or ss i d) p) (among shape (drop (i + 1) ss) p) (covers_past (get_or ss i d) p (omega arith)) back)

  -- of two lists with the same places, neither begins before the other, nor does the first range of one end before that of the other
  begins_no_later : (s t : S) (ss ts : List S) (n m : ℕ) → Rises shape n (s ∷ ss) → Rises shape m (t ∷ ts) → ((p : ℕ) → among shape (s ∷ ss) p ≡ among shape (t ∷ ts) p) → shape.low t ≤ shape.low s
  begins_no_later s t ss ts n m r q is =
      elim (cases_lt (shape.low s) (shape.low t)) [
        | inl before ↦
            let there : among shape (s ∷ ss) (shape.low s) ≡ true = or_left (covers shape s (shape.low s)) (among shape ss (shape.low s)) (covers_within s (shape.low s) (omega arith) r.1) in
            let absent : among shape (t ∷ ts) (shape.low s) ≡ false = among_before (t ∷ ts) (shape.low t) (shape.low s) (omega arith, q.1, q.2, q.3) before in
            absurd (false≢true (sym absent ∙ sym (is (shape.low s)) ∙ there))
        | inr h ↦ h
      ]

  ends_no_later : (s t : S) (ss ts : List S) (n m : ℕ) → Rises shape n (s ∷ ss) → Rises shape m (t ∷ ts) → shape.low t ≤ shape.low s → ((p : ℕ) → among shape (s ∷ ss) p ≡ among shape (t ∷ ts) p) → shape.high t ≤ shape.high s
  ends_no_later s t ss ts n m r q low is =
      elim (cases_lt (shape.high s) (shape.high t)) [
        | inl before ↦
            let p = shape.high s + 1 in
            let absent : among shape (s ∷ ss) p ≡ false = or_from (covers shape s p) (among shape ss p) (covers_past s p (omega arith)) (among_before ss (shape.high s + 2) p r.3 (omega arith)) in
            let there : among shape (t ∷ ts) p ≡ true = or_left (covers shape t p) (among shape ts p) (covers_within t p (omega (arith, r.1)) (omega arith)) in
            absurd (false≢true (sym absent ∙ is p ∙ there))
        | inr h ↦ h
      ]

  -- what two lists with the same places have behind first ranges that end at the same place
  same_behind : (s t : S) (ss ts : List S) (n m : ℕ) → Rises shape n (s ∷ ss) → Rises shape m (t ∷ ts) → shape.high s ≡ shape.high t → ((p : ℕ) → among shape (s ∷ ss) p ≡ among shape (t ∷ ts) p) → (p : ℕ) → among shape ss p ≡ among shape ts p
  same_behind s t ss ts n m r q ends is p =
      elim (cases_lt p (shape.high s + 2)) [
        | inl before ↦ among_before ss (shape.high s + 2) p r.3 before ∙ sym (among_before ts (shape.high t + 2) p q.3 (omega arith))
        | inr h ↦
            sym (or_first (covers shape s p) (among shape ss p) (covers_past s p (omega arith)))
            ∙ is p
            ∙ or_first (covers shape t p) (among shape ts p) (covers_past t p (omega arith))
      ]

  -- two lists of ranges that rise and have the same places are the same list
  pub same_ranges : IsShape shape → (ss ts : List S) (n m : ℕ) → Rises shape n ss → Rises shape m ts → ((p : ℕ) → among shape ss p ≡ among shape ts p) → ss ≡ ts
  same_ranges law [] [] n m r q is = refl
  same_ranges law [] (t ∷ ts) n m r q is =
      absurd (false≢true (is (shape.low t) ∙ or_left (covers shape t (shape.low t)) (among shape ts (shape.low t)) (covers_within t (shape.low t) (omega arith) q.1)))
  same_ranges law (s ∷ ss) [] n m r q is =
      absurd (false≢true (sym (is (shape.low s)) ∙ or_left (covers shape s (shape.low s)) (among shape ss (shape.low s)) (covers_within s (shape.low s) (omega arith) r.1)))
  same_ranges law (s ∷ ss) (t ∷ ts) n m r q is =
      let back = λ (p : ℕ). sym (is p) in
      let t_le_s = begins_no_later s t ss ts n m r q is in
      let s_le_t = begins_no_later t s ts ss m n q r back in
      let low : shape.low s ≡ shape.low t = omega arith in
      let ends_t = ends_no_later s t ss ts n m r q t_le_s is in
      let ends_s = ends_no_later t s ts ss m n q r s_le_t back in
      let high : shape.high s ≡ shape.high t = omega arith in
      let rest = same_ranges law ss ts (shape.high s + 2) (shape.high t + 2) r.3 q.3 (same_behind s t ss ts n m r q high is) in
      let one = law.same s t r.2 q.2 low high in
      λ i. one i ∷ rest i

  -- a range put in the place of those from i on and before j, where it stands apart from all others
  pub rises_put : (ss : List S) (i j : ℕ) (h d : S) → Rises shape 0 ss → shape.low h ≤ shape.high h → shape.named h ≡ true → after 0 (take i ss) ≤ shape.low h → (j < length ss → shape.high h + 2 ≤ shape.low (get_or ss j d)) → Rises shape 0 (take i ss ++ h ∷ drop j ss)
  rises_put ss i j h d r range named before behind =
      Rises-append (take i ss) (h ∷ drop j ss) 0 (rises_take ss 0 i r) (before, range, named, rises_from ss 0 j (shape.high h + 2) d r behind)

  -- the places after such a put, where the range is the hull of s and of the ranges from i to k that it stands for
  pub among-put : (ss : List S) (i k : ℕ) (h s d : S) → Rises shape 0 ss → i ≤ k → k < length ss
      → after 0 (take i ss) ≤ shape.low h → (k + 1 < length ss → shape.high h + 2 ≤ shape.low (get_or ss (k + 1) d))
      → shape.low s ≤ shape.high s
      → shape.low h ≡ min (shape.low s) (shape.low (get_or ss i d)) → shape.high h ≡ max (shape.high s) (shape.high (get_or ss k d))
      → shape.low s ≤ shape.high (get_or ss i d) + 1 → shape.low (get_or ss k d) ≤ shape.high s + 1
      → (p : ℕ) → among shape (take i ss ++ h ∷ drop (k + 1) ss) p ≡ (among shape ss p || covers shape s p)
  among-put ss i k h s d r order bound before behind range low high touch_first touch_last p =
      let a = among shape (take i ss) p in
      let b = among shape (drop (k + 1) ss) p in
      let first = get_or ss i d in
      let last = get_or ss k d in
      let at = rises_at ss 0 i d r (omega arith) in
      let at_last = rises_at ss 0 k d r bound in
      let rest = rises_from ss 0 (k + 1) (shape.high h + 2) d r behind in
      let a_past = λ (past : shape.low h ≤ p). among_past (take i ss) 0 p (rises_take ss 0 i r) (omega arith) in
      let goal_of = among-append (take i ss) (h ∷ drop (k + 1) ss) p in
      goal_of ∙ elim (cases_lt p (shape.low h)) [
        | inl below ↦
            let none : b ≡ false = among_before (drop (k + 1) ss) (shape.high h + 2) p rest (omega arith) in
            let left : (a || (covers shape h p || b)) ≡ a = or_second a (covers shape h p || b) (or_from (covers shape h p) b (covers_before h p below) none) in
            let later : among shape (drop (i + 1) ss) p ≡ false = among_before (drop (i + 1) ss) (shape.high first + 2) p at.behind (omega (arith, at.is_range)) in
            let whole : among shape ss p ≡ a = at.parts p ∙ or_second a (covers shape first p || among shape (drop (i + 1) ss) p) (or_from (covers shape first p) (among shape (drop (i + 1) ss) p) (covers_before first p (omega arith)) later) in
            left ∙ sym (or_second (among shape ss p) (covers shape s p) (covers_before s p (omega arith)) ∙ whole)
        | inr from_low ↦ elim (cases_lt (shape.high h) p) [
          | inl above ↦
              let left : (a || (covers shape h p || b)) ≡ b = or_first a (covers shape h p || b) (a_past from_low) ∙ or_first (covers shape h p) b (covers_past h p above) in
              let front : among shape (take k ss) p ≡ false = among_past (take k ss) 0 p at_last.before (omega (arith, at_last.apart_before, at_last.is_range)) in
              let whole : among shape ss p ≡ b = at_last.parts p ∙ or_first (among shape (take k ss) p) (covers shape last p || b) front ∙ or_first (covers shape last p) b (covers_past last p (omega arith)) in
              left ∙ sym (or_second (among shape ss p) (covers shape s p) (covers_past s p (omega arith)) ∙ whole)
          | inr to_high ↦
              let left : (a || (covers shape h p || b)) ≡ true = or_right a (covers shape h p || b) (or_left (covers shape h p) b (covers_within h p from_low to_high)) in
              left ∙ sym (elim (cases_lt p (shape.low s)) [
                | inl before_s ↦ or_left (among shape ss p) (covers shape s p) (among_within ss i p d r (omega arith) (covers_within first p (omega arith) (omega arith)))
                | inr from_s ↦ elim (cases_lt (shape.high s) p) [
                  | inl past_s ↦ or_left (among shape ss p) (covers shape s p) (among_within ss k p d r bound (covers_within last p (omega arith) (omega arith)))
                  | inr to_s ↦ or_right (among shape ss p) (covers shape s p) (covers_within s p (omega arith) (omega arith))
                ]
              ])
        ]
      ]

  pub after_take_more : (ss : List S) (n k : ℕ) (d : S) → k < length ss → after n (take (k + 1) ss) ≡ shape.high (get_or ss k d) + 2
  after_take_more ss n k d h = ap (after n) (take_more ss k d h) ∙ after-append (take k ss) (get_or ss k d ∷ []) n

  at_least : (ss : List S) (n k : ℕ) (d : S) → Rises shape n ss → k < length ss → n ≤ shape.low (get_or ss k d)
  at_least [] n k d r bound = absurd (omega arith)
  at_least (s ∷ ss) n zero d r bound = r.0
  at_least (s ∷ ss) n (suc k) d r bound = omega (arith, at_least ss (shape.high s + 2) k d r.3 (omega arith))

  -- between a range and each later one a place is free
  pub gap_between : (ss : List S) (n i k : ℕ) (d : S) → Rises shape n ss → i < k → k < length ss → shape.high (get_or ss i d) + 2 ≤ shape.low (get_or ss k d)
  gap_between [] n i k d r order bound = absurd (omega arith)
  gap_between (s ∷ ss) n i zero d r order bound = absurd (omega arith)
  gap_between (s ∷ ss) n zero (suc k) d r order bound = at_least ss (shape.high s + 2) k d r.3 (omega arith)
  gap_between (s ∷ ss) n (suc i) (suc k) d r order bound = gap_between ss (shape.high s + 2) i k d r.3 (omega arith) (omega arith)

  pub lows_rise : (ss : List S) (n i k : ℕ) (d : S) → Rises shape n ss → i ≤ k → k < length ss → shape.low (get_or ss i d) ≤ shape.low (get_or ss k d)
  lows_rise ss n i k d r order bound =
      elim (cases_lt i k) [
        | inl less ↦ let at = rises_at ss n i d r (omega arith) in omega (arith, at.is_range, gap_between ss n i k d r less bound)
        | inr same ↦ let e : i ≡ k = omega arith in rw e (omega arith)
      ]

  pub highs_rise : (ss : List S) (n i k : ℕ) (d : S) → Rises shape n ss → i ≤ k → k < length ss → shape.high (get_or ss i d) ≤ shape.high (get_or ss k d)
  highs_rise ss n i k d r order bound =
      elim (cases_lt i k) [
        | inl less ↦ let at = rises_at ss n k d r bound in omega (arith, at.is_range, gap_between ss n i k d r less bound)
        | inr same ↦ let e : i ≡ k = omega arith in rw e (omega arith)
      ]

  -- ranges that end apart before s leave room for s
  pub after_place : (ss : List S) (s : S) (i j : ℕ) (d : S) → i ≤ length ss → IsPlace shape ss s i j → after 0 (take i ss) ≤ shape.low s
  after_place ss s zero j d h place = omega arith
  after_place ss s (suc i) j d h place =
      let e : suc i ≡ i + 1 = omega arith in
      rw (e, after_take_more ss 0 i d h) (omega (arith, place.before i d (omega arith) h))

  -- a range that touches none, put in its place
  pub put_apart : (ss : List S) (s d : S) (i : ℕ) → Rises shape 0 ss → IsPlace shape ss s i i → shape.low s ≤ shape.high s → shape.named s ≡ true
      → Rises shape 0 (take i ss ++ s ∷ drop i ss) × ((p : ℕ) → among shape (take i ss ++ s ∷ drop i ss) p ≡ (among shape ss p || covers shape s p))
  put_apart ss s d i r place range named =
      let low = after_place ss s i i d place.in_list place in (
        rises_put ss i i s d r range named low (λ k. omega (arith, place.behind i d (omega arith) k)),
        λ p. among-append (take i ss) (s ∷ drop i ss) p ∙ swap_last (among shape (take i ss) p) (covers shape s p) (among shape (drop i ss) p) ∙ ap (λ b. b || covers shape s p) (sym (among-split ss i p)),
      )
    where
      swap_last : (a c b : Bool) → (a || (c || b)) ≡ ((a || b) || c)
      swap_last true c b = refl
      swap_last false c b = or_comm c b

  -- where a range goes apart from all others, none of them has its first place
  pub apart_lacks : (ss : List S) (s : S) (i j : ℕ) → Rises shape 0 ss → IsPlace shape ss s i j → i ≡ j → shape.low s ≤ shape.high s → among shape ss (shape.low s) ≡ false
  apart_lacks ss s i j r place same range =
      let p = shape.low s in
      let front : among shape (take i ss) p ≡ false = among_past (take i ss) 0 p (rises_take ss 0 i r) (omega (arith, after_place ss s i j s (omega (arith, place.ordered, place.in_list)) place)) in
      let back : among shape (drop i ss) p ≡ false = among_before (drop i ss) (p + 1) p (rises_from ss 0 i (p + 1) s r (λ k. omega (arith, range, place.behind i s (omega (arith, same)) k))) (omega arith) in
      among-split ss i p ∙ or_from (among shape (take i ss) p) (among shape (drop i ss) p) front back

  -- the hull of a range and of those that it touches, from i to k, put in their place
  pub put_hull : IsShape shape → (ss : List S) (s d : S) (i k : ℕ) → Rises shape 0 ss → IsPlace shape ss s i (k + 1) → i ≤ k → shape.low s ≤ shape.high s → shape.named s ≡ true
      → let h = shape.hull (shape.hull s (get_or ss i d)) (get_or ss k d) in
      Rises shape 0 (take i ss ++ h ∷ drop (k + 1) ss) × ((p : ℕ) → among shape (take i ss ++ h ∷ drop (k + 1) ss) p ≡ (among shape ss p || covers shape s p))
  put_hull law ss s d i k r place order range named =
      let first = get_or ss i d in
      let last = get_or ss k d in
      let bound : k < length ss = omega (arith, place.in_list) in
      let at = rises_at ss 0 i d r (omega arith) in
      let at_last = rises_at ss 0 k d r bound in
      let f_low = place.below_j i d (omega arith) (omega arith) in
      let f_high = place.from_i i d (omega arith) (omega arith) in
      let l_low = place.below_j k d (omega arith) bound in
      let l_high = place.from_i k d order bound in
      let lows = lows_rise ss 0 i k d r order bound in
      let highs = highs_rise ss 0 i k d r order bound in
      let one = shape.hull s first in
      let one_low = law.low_hull s first named at.named (le-ltb (shape.high s + 1) (shape.low first) f_low) (le-ltb (shape.high first + 1) (shape.low s) f_high) in
      let one_high = law.high_hull s first named at.named (le-ltb (shape.high s + 1) (shape.low first) f_low) (le-ltb (shape.high first + 1) (shape.low s) f_high) in
      let one_named = law.named_hull s first named at.named in
      let h = shape.hull one last in
      let meets : apart shape one last ≡ false = le-ltb (shape.high one + 1) (shape.low last) (omega arith) in
      let met : apart shape last one ≡ false = le-ltb (shape.high last + 1) (shape.low one) (omega arith) in
      let h_low = law.low_hull one last one_named at_last.named meets met in
      let h_high = law.high_hull one last one_named at_last.named meets met in
      let low : shape.low h ≡ min (shape.low s) (shape.low first) = omega arith in
      let high : shape.high h ≡ max (shape.high s) (shape.high last) = omega arith in
      let start : after 0 (take i ss) ≤ shape.low h = omega (arith, at.apart_before, after_place ss s i (k + 1) d (omega arith) place) in
      let end : k + 1 < length ss → shape.high h + 2 ≤ shape.low (get_or ss (k + 1) d) = λ b. omega (arith, place.behind (k + 1) d (omega arith) b, gap_between ss 0 k (k + 1) d r (omega arith) b) in (
        rises_put ss i (k + 1) h d r (omega (arith, at.is_range)) (law.named_hull one last one_named at_last.named) start end,
        among-put ss i k h s d r order bound start end range low high f_high l_low,
      )

  -- two lists in one: what begins where, and which places there are
  pub Ascends-merge : (ss ts : List S) (n : ℕ) → Ascends shape n ss → Ascends shape n ts → Ascends shape n (merge shape ss ts)
  Ascends-merge [] ts n r q = q
  Ascends-merge (s ∷ ss) [] n r q = r
  Ascends-merge (s ∷ ss) (t ∷ ts) n r q =
      cond_both (leb (shape.low s) (shape.low t)) (s ∷ merge shape ss (t ∷ ts)) (t ∷ merge shape (s ∷ ss) ts) (Ascends shape n)
      (λ e. let le = leb-true (shape.low s) (shape.low t) e in (r.0, r.1, r.2, Ascends-merge ss (t ∷ ts) (shape.low s) r.3 (le, q.1, q.2, q.3)))
      (λ e. let gt = leb-false (shape.low s) (shape.low t) e in (q.0, q.1, q.2, Ascends-merge (s ∷ ss) ts (shape.low t) (omega arith, r.1, r.2, r.3) q.3))

  pub among-merge : (ss ts : List S) (p : ℕ) → among shape (merge shape ss ts) p ≡ (among shape ss p || among shape ts p)
  among-merge [] ts p = refl
  among-merge (s ∷ ss) [] p = sym (or_second (among shape (s ∷ ss) p) false refl)
  among-merge (s ∷ ss) (t ∷ ts) p =
      cond_both (leb (shape.low s) (shape.low t)) (s ∷ merge shape ss (t ∷ ts)) (t ∷ merge shape (s ∷ ss) ts) (λ (xs : List S). among shape xs p ≡ (among shape (s ∷ ss) p || among shape (t ∷ ts) p))
      (λ e. ap (λ b. covers shape s p || b) (among-merge ss (t ∷ ts) p) ∙ sym (or_assoc (covers shape s p) (among shape ss p) (among shape (t ∷ ts) p)))
      (λ e. ap (λ b. covers shape t p || b) (among-merge (s ∷ ss) ts p) ∙ or_swap (covers shape t p) (among shape (s ∷ ss) p) (among shape ts p))
    where
      or_swap : (a b c : Bool) → (a || (b || c)) ≡ (b || (a || c))
      or_swap true true c = refl
      or_swap true false c = refl
      or_swap false b c = refl

  -- where two ranges touch and the first begins no later, their hull has the places of both
  pub record IsHull (s t : S) : Type 0 where
    pub low : shape.low (shape.hull s t) ≡ shape.low s
    pub high : shape.high (shape.hull s t) ≡ max (shape.high s) (shape.high t)
    pub named : shape.named (shape.hull s t) ≡ true
    pub places : (p : ℕ) → covers shape (shape.hull s t) p ≡ (covers shape s p || covers shape t p)

  pub hull_of : IsShape shape → (s t : S) → shape.named s ≡ true → shape.named t ≡ true → shape.low s ≤ shape.high s → shape.low t ≤ shape.high t → shape.low s ≤ shape.low t → apart shape s t ≡ false → IsHull s t
  hull_of law s t n m r q order meets =
      let met : apart shape t s ≡ false = le-ltb (shape.high t + 1) (shape.low s) (omega arith) in
      let touch = ltb-false (shape.high s + 1) (shape.low t) meets in
      let l = law.low_hull s t n m meets met in
      let h = law.high_hull s t n m meets met in
      record {
        low = omega arith;
        high = h;
        named = law.named_hull s t n m;
        places = λ p. both_places s t (shape.hull s t) p touch r q order (omega arith) h;
      }
    where
      both_places : (s t h : S) (p : ℕ) → shape.low t ≤ shape.high s + 1 → shape.low s ≤ shape.high s → shape.low t ≤ shape.high t → shape.low s ≤ shape.low t → shape.low h ≡ shape.low s → shape.high h ≡ max (shape.high s) (shape.high t) → covers shape h p ≡ (covers shape s p || covers shape t p)
      both_places s t h p touch r q order l e = grind (arith, nat_tests)

  pub Rises-bridged_from : IsShape shape → (ts : List S) (s : S) (n : ℕ) → n ≤ shape.low s → shape.low s ≤ shape.high s → shape.named s ≡ true → Ascends shape (shape.low s) ts → Rises shape n (bridged_from shape s ts)
  Rises-bridged_from law [] s n from range named r = (from, range, named, tt)
  Rises-bridged_from law (t ∷ ts) s n from range named r =
      cond_both (apart shape s t) (s ∷ bridged_from shape t ts) (bridged_from shape (shape.hull s t) ts) (Rises shape n)
      (λ e. let gap = ltb-true (shape.high s + 1) (shape.low t) e in (from, range, named, Rises-bridged_from law ts t (shape.high s + 2) (omega arith) r.1 r.2 r.3))
      (λ e. let h = hull_of law s t named r.2 range r.1 r.0 e in
      Rises-bridged_from law ts (shape.hull s t) n (omega (arith, h.low)) (omega (arith, h.low, h.high)) h.named (ascends_lower ts (shape.low t) (shape.low (shape.hull s t)) r.3 (omega (arith, h.low))))

  pub among-bridged_from : IsShape shape → (ts : List S) (s : S) → shape.low s ≤ shape.high s → shape.named s ≡ true → Ascends shape (shape.low s) ts → (p : ℕ) → among shape (bridged_from shape s ts) p ≡ (covers shape s p || among shape ts p)
  among-bridged_from law [] s range named r p = refl
  among-bridged_from law (t ∷ ts) s range named r p =
      cond_both (apart shape s t) (s ∷ bridged_from shape t ts) (bridged_from shape (shape.hull s t) ts) (λ (xs : List S). among shape xs p ≡ (covers shape s p || (covers shape t p || among shape ts p)))
      (λ e. ap (λ b. covers shape s p || b) (among-bridged_from law ts t r.1 r.2 r.3 p))
      (λ e. let h = hull_of law s t named r.2 range r.1 r.0 e in
      among-bridged_from law ts (shape.hull s t) (omega (arith, h.low, h.high)) h.named (ascends_lower ts (shape.low t) (shape.low (shape.hull s t)) r.3 (omega (arith, h.low))) p
      ∙ ap (λ b. b || among shape ts p) (h.places p) ∙ or_assoc (covers shape s p) (covers shape t p) (among shape ts p))

  -- the join of two lists of ranges rises, and has the places of both
  pub Rises-joined : IsShape shape → (ss ts : List S) → Rises shape 0 ss → Rises shape 0 ts → Rises shape 0 (bridged shape (merge shape ss ts))
  Rises-joined law ss ts r q = whole (merge shape ss ts) (Ascends-merge ss ts 0 (ascends_from_rises ss 0 r) (ascends_from_rises ts 0 q))
    where
      whole : (xs : List S) → Ascends shape 0 xs → Rises shape 0 (bridged shape xs)
      whole [] a = tt
      whole (x ∷ xs) a = Rises-bridged_from law xs x 0 a.0 a.1 a.2 a.3

  pub among-joined : IsShape shape → (ss ts : List S) → Rises shape 0 ss → Rises shape 0 ts → (p : ℕ) → among shape (bridged shape (merge shape ss ts)) p ≡ (among shape ss p || among shape ts p)
  among-joined law ss ts r q p = whole (merge shape ss ts) (Ascends-merge ss ts 0 (ascends_from_rises ss 0 r) (ascends_from_rises ts 0 q)) ∙ among-merge ss ts p
    where
      whole : (xs : List S) → Ascends shape 0 xs → among shape (bridged shape xs) p ≡ among shape xs p
      whole [] a = refl
      whole (x ∷ xs) a = among-bridged_from law xs x a.1 a.2 a.3 p

  -- by where they begin, and by where they end, ranges that rise stand in order
  pub in_order_by_low : (ss : List S) → Rises shape 0 ss → IsNonDecreasingBy shape.low ss
  in_order_by_low ss r i k d order bound = lows_rise ss 0 i k d r order bound

  pub in_order_by_high : (ss : List S) → Rises shape 0 ss → IsNonDecreasingBy (λ s. shape.high s + 1) ss
  in_order_by_high ss r i k d order bound = omega (arith, highs_rise ss 0 i k d r order bound)

  -- the ranges before which s does not end apart come first
  pub begun_first : (ss : List S) (s : S) → Rises shape 0 ss → IsPartitionedBy (λ t. not (apart shape s t)) ss
  begun_first ss s r i k d order bound e =
      let le = ltb-false (shape.high s + 1) (shape.low (get_or ss k d)) (not-true (apart shape s (get_or ss k d)) e) in
      not_from_false (apart shape s (get_or ss i d)) (le-ltb (shape.high s + 1) (shape.low (get_or ss i d)) (omega (arith, lows_rise ss 0 i k d r order bound)))

  -- what a search has found
  pub range_found : (ss : List S) (i p : ℕ) (s : S) → Rises shape 0 ss → i < length ss → s ≡ get_or ss i s → shape.low s ≤ p → p ≤ shape.high s → IsRangeAt shape ss p s
  range_found ss i p s r bound is from to =
      let at = rises_at ss 0 i s r bound in
      record {
        has = covers_within s p from to;
        named = subst (λ (x : S). shape.named x ≡ true) (sym is) at.named;
        inside = λ q c. among_within ss i q s r bound (subst (λ (x : S). covers shape x q ≡ true) is c);
        beyond = subst (λ (x : S). among shape ss (shape.high x + 1) ≡ false) (sym is) (among_past_range ss i s r bound);
      }

  -- what a search has not found
  pub range_missed : (ss : List S) (i p : ℕ) (s : S) → Rises shape 0 ss → i < length ss → s ≡ get_or ss i s → shape.low s ≤ p → shape.high s < p → (i + 1 < length ss → p < shape.low (get_or ss (i + 1) s)) → among shape ss p ≡ false
  range_missed ss i p s r bound is from past next =
      among_found ss i p s r bound (subst (λ (x : S). shape.low x ≤ p) is from) next ∙ subst (λ (x : S). covers shape x p ≡ false) is (covers_past s p past)

  -- the place of a range that is not empty: what ends before it does not begin behind it
  pub place_ordered : (ss : List S) (s : S) (i j : ℕ) → Rises shape 0 ss → shape.low s ≤ shape.high s → i ≤ length ss
      → ((k : ℕ) (d : S) → k < i → shape.high (get_or ss k d) + 1 < shape.low s) → ((k : ℕ) (d : S) → j ≤ k → k < length ss → shape.high s + 1 < shape.low (get_or ss k d)) → i ≤ j
  place_ordered ss s i j r range bound before behind =
      elim (cases_lt j i) [
        | inl less ↦
            let at = rises_at ss 0 j s r (omega arith) in
            absurd (omega (arith, at.is_range, before j s less, behind j s (omega arith) (omega arith)))
        | inr h ↦ h
      ]

  -- the list after a range was put apart, or the hull of all that it touches
  pub record Puts (ss : List S) (s : S) (new : List S) : Type 0 where
    pub rising : Rises shape 0 new
    pub places : (p : ℕ) → among shape new p ≡ (among shape ss p || covers shape s p)

  pub puts_apart : (ss : List S) (s : S) (i j : ℕ) (new : List S) → Rises shape 0 ss → IsPlace shape ss s i j → i ≡ j → shape.low s ≤ shape.high s → shape.named s ≡ true → new ≡ take i ss ++ s ∷ drop i ss → Puts ss s new
  puts_apart ss s i j new r place same range named is =
      let here : IsPlace shape ss s i i = subst (λ (x : ℕ). IsPlace shape ss s i x) (sym same) place in
      let both = put_apart ss s s i r here range named in
      record {
        rising = subst (λ (xs : List S). Rises shape 0 xs) (sym is) both.0;
        places = λ p. ap (λ (xs : List S). among shape xs p) is ∙ both.1 p;
      }

  pub puts_hull : IsShape shape → (ss : List S) (s f l : S) (i j : ℕ) (new : List S) → Rises shape 0 ss → IsPlace shape ss s i j → (i ≡ j → ⊥) → shape.low s ≤ shape.high s → shape.named s ≡ true
      → f ≡ get_or ss i f → l ≡ get_or ss (j - 1) l → new ≡ take i ss ++ shape.hull (shape.hull s f) l ∷ drop j ss → Puts ss s new
  puts_hull law ss s f l i j new r place differ range named f_is l_is is =
      let k = j - 1 in
      let e : j ≡ k + 1 = omega (arith, place.ordered) in
      let here : IsPlace shape ss s i (k + 1) = subst (λ (x : ℕ). IsPlace shape ss s i x) e place in
      let order : i ≤ k = omega (arith, place.ordered) in
      let bound : k < length ss = omega (arith, place.in_list) in
      let both = put_hull law ss s s i k r here order range named in
      let f_at : f ≡ get_or ss i s = get_or_read ss i f (omega arith) f_is s in
      let l_at : l ≡ get_or ss k s = get_or_read ss k l bound l_is s in
      let h : S → S → S = λ x y. shape.hull (shape.hull s x) y in
      let now : new ≡ take i ss ++ h (get_or ss i s) (get_or ss k s) ∷ drop (k + 1) ss =
      is ∙ ap (λ (x : S). take i ss ++ h x l ∷ drop j ss) f_at ∙ ap (λ (y : S). take i ss ++ h (get_or ss i s) y ∷ drop j ss) l_at ∙ ap (λ (n : ℕ). take i ss ++ h (get_or ss i s) (get_or ss k s) ∷ drop n ss) e in
      record {
        rising = subst (λ (xs : List S). Rises shape 0 xs) (sym now) both.0;
        places = λ p. ap (λ (xs : List S). among shape xs p) now ∙ both.1 p;
      }

  -- the ranges that end before a place come first
  pub ended_first : (ss : List S) (p : ℕ) → Rises shape 0 ss → IsPartitionedBy (λ t. not (leb p (shape.high t))) ss
  ended_first ss p r i k d order bound e =
      let less = leb-false p (shape.high (get_or ss k d)) (not-true (leb p (shape.high (get_or ss k d))) e) in
      not_from_false (leb p (shape.high (get_or ss i d))) (lt-leb p (shape.high (get_or ss i d)) (omega (arith, highs_rise ss 0 i k d r order bound)))

  -- what ends before s does not begin behind it
  pub overlap_ordered : (ss : List S) (s : S) (i j : ℕ) → Rises shape 0 ss → shape.low s ≤ shape.high s → i ≤ length ss
      → ((k : ℕ) (d : S) → k < i → shape.high (get_or ss k d) < shape.low s) → ((k : ℕ) (d : S) → j ≤ k → k < length ss → shape.high s < shape.low (get_or ss k d)) → i ≤ j
  overlap_ordered ss s i j r range bound before past =
      elim (cases_lt j i) [
        | inl less ↦
            let at = rises_at ss 0 j s r (omega arith) in
            absurd (omega (arith, at.is_range, before j s less, past j s (omega arith) (omega arith)))
        | inr h ↦ h
      ]

  -- ranges that end before a place leave off there or before
  after_ended : (ss : List S) (i p : ℕ) (d : S) → i ≤ length ss → ((k : ℕ) (d : S) → k < i → shape.high (get_or ss k d) < p) → after 0 (take i ss) ≤ p + 1
  after_ended ss zero p d h before = omega arith
  after_ended ss (suc i) p d h before =
      let e : suc i ≡ i + 1 = omega arith in
      rw (e, after_take_more ss 0 i d h) (omega (arith, before i d (omega arith)))

  -- the ranges between those that end before s and those that begin after it
  pub overlap_is : (ss : List S) (s : S) (i j : ℕ) → Rises shape 0 ss → shape.low s ≤ shape.high s → i ≤ length ss → j ≤ length ss
      → ((k : ℕ) (d : S) → k < i → shape.high (get_or ss k d) < shape.low s) → ((k : ℕ) (d : S) → i ≤ k → k < length ss → shape.low s ≤ shape.high (get_or ss k d))
      → ((k : ℕ) (d : S) → k < j → shape.low (get_or ss k d) ≤ shape.high s) → ((k : ℕ) (d : S) → j ≤ k → k < length ss → shape.high s < shape.low (get_or ss k d))
      → IsOverlap shape ss s (take (j - i) (drop i ss))
  overlap_is ss s i j r range in_i in_j before later reached past =
      let order = overlap_ordered ss s i j r range in_i before past in
      let shared = take (j - i) (drop i ss) in
      let rest : Rises shape 0 (drop i ss) = rises_lower (drop i ss) (after 0 (take i ss)) 0 (rises_drop ss 0 i r) (omega arith) in
      let count : length shared ≡ j - i = rw (length-take, length-drop) (omega arith) in
      record {
        rising = rises_take (drop i ss) 0 (j - i) rest;
        reached = λ k d h. let less : k < j - i = omega arith in rw (get_or-take, get_or-drop) (reached (i + k) d (omega arith));
        reaches = λ k d h. let less : k < j - i = omega arith in rw (get_or-take, get_or-drop) (later (i + k) d (omega arith) (omega arith));
        places = λ p from to.
            let front : among shape (take i ss) p ≡ false = among_past (take i ss) 0 p (rises_take ss 0 i r) (after_ended ss i p s in_i (λ k d h. omega (arith, before k d h))) in
            let back : among shape (drop j ss) p ≡ false = among_before (drop j ss) (p + 1) p (rises_from ss 0 j (p + 1) s r (λ k. omega (arith, past j s (omega arith) k))) (omega arith) in
            let e : i + (j - i) ≡ j = omega arith in
            among-split ss i p
            ∙ or_first (among shape (take i ss) p) (among shape (drop i ss) p) front
            ∙ among-split (drop i ss) (j - i) p
            ∙ or_second (among shape shared p) (among shape (drop (j - i) (drop i ss)) p)
            (ap (λ (xs : List S). among shape xs p) (drop-drop (j - i) i ss ∙ ap (λ (n : ℕ). drop n ss) e) ∙ back);
      }
