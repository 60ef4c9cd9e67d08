-- What is made of pairs of masks is what AND, OR, NOT and IS TRUE and its kin make of their truth values, row by row.
use Rattle.std.proofs.Common.{◌≡◌, ℕ, ◌<◌, Bool, true, false, ◌&&◌, ◌||◌, not, List, refl, sym, ap, ◌∙◌, subst}
use Rattle.std.proofs.Math.Bool.{and-false, and_self, and-true}
use Rattle.table_model.proofs.TruthPairs.{is_true-and_of, is_false-and_of, is_true-or_of, is_false-or_of, is_false-not_of, is_true-truth_of, is_false-truth_of}
use Rattle.table_model.specs.Condition.{asked, not_if}
use Rattle.table_model.specs.Truth.{is_true, is_false, and_of, or_of, not_of, truth_of, same_truth}
use Rattle.table_model.specs.declared.query.IsTruth.{IsTruth}
use Rattle.table_model.specs.declared.truth.Truth.{Truth}
use Rattle.table_model.specs.declared.truth.Truth.TheVariants.{False, Unknown, True}
use Rattle.transpose_order.specs.Mask.{rows_of, has}
use Rattle.transpose_order.specs.MaskWords.{has-rows_of, rows_of-like}
use Rattle.query_eval.specs.Pairs.{yes_of, no_of}
use Rattle.query_eval.specs.Where.{IsPair}
use Rattle.query_eval.specs.declared.filter.pair.Pair.{Pair}

pub is_yes : (mask : List Bool) (t : ℕ → Truth) (f : ℕ → Bool) → ((n : ℕ) → n < 1024 → f n ≡ (has mask n && is_true (t n))) → rows_of f ≡ yes_of mask t
unfolding yes_of
is_yes mask t f h = rows_of-like _ _ h

pub is_no : (mask : List Bool) (t : ℕ → Truth) (f : ℕ → Bool) → ((n : ℕ) → n < 1024 → f n ≡ (has mask n && is_false (t n))) → rows_of f ≡ no_of mask t
unfolding no_of
is_no mask t f h = rows_of-like _ _ h

pub has_yes : (mask : List Bool) (t : ℕ → Truth) (n : ℕ) → n < 1024 → has (yes_of mask t) n ≡ (has mask n && is_true (t n))
unfolding yes_of
has_yes mask t n h = has-rows_of (λ n. has mask n && is_true (t n)) n h

has_no : (mask : List Bool) (t : ℕ → Truth) (n : ℕ) → n < 1024 → has (no_of mask t) n ≡ (has mask n && is_false (t n))
unfolding no_of
has_no mask t n h = has-rows_of (λ n. has mask n && is_false (t n)) n h

yes_at : (mask : List Bool) (t : ℕ → Truth) (a : Pair) → IsPair mask t a → (n : ℕ) → n < 1024 → has a.yes n ≡ (has mask n && is_true (t n))
yes_at mask t a p n h = ap (λ m. has m n) p.yes ∙ has_yes mask t n h

no_at : (mask : List Bool) (t : ℕ → Truth) (a : Pair) → IsPair mask t a → (n : ℕ) → n < 1024 → has a.no n ≡ (has mask n && is_false (t n))
no_at mask t a p n h = ap (λ m. has m n) p.no ∙ has_no mask t n h

within_and : (b x y z u v : Bool) → u ≡ (b && x) → v ≡ (b && y) → z ≡ (x && y) → (u && v) ≡ (b && z)
within_and true x y z u v e f g = ap (λ w. w && v) e ∙ ap (λ w. x && w) f ∙ sym g
within_and false x y z u v e f g = ap (λ w. w && v) e

within_or : (b x y z u v : Bool) → u ≡ (b && x) → v ≡ (b && y) → z ≡ (x || y) → (u || v) ≡ (b && z)
within_or true x y z u v e f g = ap (λ w. w || v) e ∙ ap (λ w. x || w) f ∙ sym g
within_or false x y z u v e f g = ap (λ w. w || v) e ∙ f

pub pair_and : (a b c : Pair) → c.yes ≡ rows_of (λ n. has a.yes n && has b.yes n) → c.no ≡ rows_of (λ n. has a.no n || has b.no n) → (mask : List Bool) (s t : ℕ → Truth) → IsPair mask s a → IsPair mask t b → IsPair mask (λ n. and_of (s n) (t n)) c
pair_and a b c e f mask s t p q = record {
  yes = e ∙ is_yes mask (λ n. and_of (s n) (t n)) _ (λ n h. within_and (has mask n) (is_true (s n)) (is_true (t n)) _ _ _ (yes_at mask s a p n h) (yes_at mask t b q n h) (is_true-and_of (s n) (t n)));
  no = f ∙ is_no mask (λ n. and_of (s n) (t n)) _ (λ n h. within_or (has mask n) (is_false (s n)) (is_false (t n)) _ _ _ (no_at mask s a p n h) (no_at mask t b q n h) (is_false-and_of (s n) (t n)));
}

-- AND where the second condition is asked for only at the rows of the first that aren't false
rest_yes : (m : Bool) (s t : Truth) (y u r w : Bool) → y ≡ (m && is_true s) → u ≡ (m && is_false s) → r ≡ (m && not u) → w ≡ (r && is_true t) → (y && w) ≡ (m && is_true (and_of s t))
rest_yes false s t y u r w ey eu er ew = ap (λ b. b && w) ey
rest_yes true True t y u r w ey eu er ew = ap (λ b. b && w) ey ∙ ew ∙ ap (λ b. b && is_true t) (er ∙ ap not eu) ∙ sym (is_true-and_of True t)
rest_yes true False t y u r w ey eu er ew = ap (λ b. b && w) ey ∙ sym (is_true-and_of False t)
rest_yes true Unknown t y u r w ey eu er ew = ap (λ b. b && w) ey ∙ sym (is_true-and_of Unknown t)

rest_no : (m : Bool) (s t : Truth) (u r w : Bool) → u ≡ (m && is_false s) → r ≡ (m && not u) → w ≡ (r && is_false t) → (u || w) ≡ (m && is_false (and_of s t))
rest_no false s t u r w eu er ew = ap (λ b. b || w) eu ∙ ew ∙ ap (λ b. b && is_false t) er
rest_no true True t u r w eu er ew = ap (λ b. b || w) eu ∙ ew ∙ ap (λ b. b && is_false t) (er ∙ ap not eu) ∙ sym (is_false-and_of True t)
rest_no true False t u r w eu er ew = ap (λ b. b || w) eu ∙ sym (is_false-and_of False t)
rest_no true Unknown t u r w eu er ew = ap (λ b. b || w) eu ∙ ew ∙ ap (λ b. b && is_false t) (er ∙ ap not eu) ∙ sym (is_false-and_of Unknown t)

pub pair_and_rest : (a b c : Pair) → c.yes ≡ rows_of (λ n. has a.yes n && has b.yes n) → c.no ≡ rows_of (λ n. has a.no n || has b.no n) → (mask rest : List Bool) (s t : ℕ → Truth) → IsPair mask s a → rest ≡ rows_of (λ n. has mask n && not (has a.no n)) → IsPair rest t b → IsPair mask (λ n. and_of (s n) (t n)) c
pair_and_rest a b c e f mask rest s t p g q = record {
  yes = e ∙ is_yes mask (λ n. and_of (s n) (t n)) _ (λ n h. rest_yes (has mask n) (s n) (t n) _ _ _ _ (yes_at mask s a p n h) (no_at mask s a p n h) (left n h) (yes_at rest t b q n h));
  no = f ∙ is_no mask (λ n. and_of (s n) (t n)) _ (λ n h. rest_no (has mask n) (s n) (t n) _ _ _ (no_at mask s a p n h) (left n h) (no_at rest t b q n h));
}
  where
    left : (n : ℕ) → n < 1024 → has rest n ≡ (has mask n && not (has a.no n))
    left n h = ap (λ m. has m n) g ∙ has-rows_of (λ n. has mask n && not (has a.no n)) n h

yes_nowhere : (mask : List Bool) (s t : ℕ → Truth) → ((n : ℕ) → n < 1024 → has mask n ≡ false) → yes_of mask s ≡ yes_of mask t
unfolding yes_of
yes_nowhere mask s t h = rows_of-like _ _ (λ n l. ap (λ b. b && is_true (s n)) (h n l) ∙ sym (ap (λ b. b && is_true (t n)) (h n l)))

no_nowhere : (mask : List Bool) (s t : ℕ → Truth) → ((n : ℕ) → n < 1024 → has mask n ≡ false) → no_of mask s ≡ no_of mask t
unfolding no_of
no_nowhere mask s t h = rows_of-like _ _ (λ n l. ap (λ b. b && is_false (s n)) (h n l) ∙ sym (ap (λ b. b && is_false (t n)) (h n l)))

-- over no rows all conditions are alike
pub pair_nowhere : (mask : List Bool) (s t : ℕ → Truth) (c : Pair) → ((n : ℕ) → n < 1024 → has mask n ≡ false) → IsPair mask s c → IsPair mask t c
pair_nowhere mask s t c h p = record { yes = p.yes ∙ yes_nowhere mask s t h; no = p.no ∙ no_nowhere mask s t h }

pub pair_or : (a b c : Pair) → c.yes ≡ rows_of (λ n. has a.yes n || has b.yes n) → c.no ≡ rows_of (λ n. has a.no n && has b.no n) → (mask : List Bool) (s t : ℕ → Truth) → IsPair mask s a → IsPair mask t b → IsPair mask (λ n. or_of (s n) (t n)) c
pair_or a b c e f mask s t p q = record {
  yes = e ∙ is_yes mask (λ n. or_of (s n) (t n)) _ (λ n h. within_or (has mask n) (is_true (s n)) (is_true (t n)) _ _ _ (yes_at mask s a p n h) (yes_at mask t b q n h) (is_true-or_of (s n) (t n)));
  no = f ∙ is_no mask (λ n. or_of (s n) (t n)) _ (λ n h. within_and (has mask n) (is_false (s n)) (is_false (t n)) _ _ _ (no_at mask s a p n h) (no_at mask t b q n h) (is_false-or_of (s n) (t n)));
}

no_as_yes : (mask : List Bool) (t : ℕ → Truth) → no_of mask t ≡ yes_of mask (λ n. not_of (t n))
unfolding yes_of no_of
no_as_yes mask t = refl

yes_as_no : (mask : List Bool) (t : ℕ → Truth) → yes_of mask t ≡ no_of mask (λ n. not_of (t n))
unfolding yes_of no_of
yes_as_no mask t = rows_of-like _ _ (λ n h. ap (λ x. has mask n && x) (sym (is_false-not_of (t n))))

pub pair_not : (a c : Pair) → c.yes ≡ a.no → c.no ≡ a.yes → (mask : List Bool) (t : ℕ → Truth) → IsPair mask t a → IsPair mask (λ n. not_of (t n)) c
pair_not a c e f mask t p = record { yes = e ∙ p.no ∙ no_as_yes mask t; no = f ∙ p.yes ∙ yes_as_no mask t }

pub having_true : (a : Pair) (mask : List Bool) (t : ℕ → Truth) → IsPair mask t a → rows_of (λ n. has a.yes n && has a.yes n) ≡ rows_of (λ n. has mask n && same_truth (t n) True)
having_true a mask t p = rows_of-like _ _ (λ n h. and_self (has a.yes n) ∙ yes_at mask t a p n h)

pub having_false : (a : Pair) (mask : List Bool) (t : ℕ → Truth) → IsPair mask t a → rows_of (λ n. has a.no n && has a.no n) ≡ rows_of (λ n. has mask n && same_truth (t n) False)
having_false a mask t p = rows_of-like _ _ (λ n h. and_self (has a.no n) ∙ no_at mask t a p n h)

neither : (b x y u v : Bool) → u ≡ (b && x) → v ≡ (b && y) → (b && not (u || v)) ≡ (b && (not x && not y))
neither true true y u v e f = ap (λ w. not (w || v)) e
neither true false y u v e f = ap (λ w. not (w || v)) e ∙ ap not f
neither false x y u v e f = refl

pub having_unknown : (a : Pair) (either : List Bool) (mask : List Bool) (t : ℕ → Truth) → either ≡ rows_of (λ n. has a.yes n || has a.no n) → IsPair mask t a → rows_of (λ n. has mask n && not (has either n)) ≡ rows_of (λ n. has mask n && same_truth (t n) Unknown)
having_unknown a either mask t e p = rows_of-like _ _ (λ n h. ap (λ m. has mask n && not (has m n)) e ∙ ap (λ b. has mask n && not b) (has-rows_of (λ n. has a.yes n || has a.no n) n h) ∙ neither (has mask n) (is_true (t n)) (is_false (t n)) _ _ (yes_at mask t a p n h) (no_at mask t a p n h))

apart : (b x u : Bool) → u ≡ (b && x) → (b && not u) ≡ (b && not x)
apart true x u e = ap not e
apart false x u e = refl

-- the rows of a mask where a test holds, and the others
pub tested : (mask there elsewhere : List Bool) (test : ℕ → Bool) (c : Pair) → there ≡ rows_of (λ n. has mask n && test n) → elsewhere ≡ rows_of (λ n. has mask n && not (has there n)) → c.yes ≡ there → c.no ≡ elsewhere → IsPair mask (λ n. truth_of (test n)) c
tested mask there elsewhere test c e f g k = record {
  yes = g ∙ e ∙ is_yes mask (λ n. truth_of (test n)) _ (λ n h. ap (λ b. has mask n && b) (sym (is_true-truth_of (test n))));
  no = k ∙ f ∙ is_no mask (λ n. truth_of (test n)) _ (λ n h. apart (has mask n) (test n) (has there n) (ap (λ m. has m n) e ∙ has-rows_of (λ n. has mask n && test n) n h) ∙ ap (λ b. has mask n && b) (sym (is_false-truth_of (test n))));
}

pub all_true : (mask : List Bool) (c : Pair) → c.yes ≡ rows_of (λ n. has mask n && has mask n) → c.no ≡ rows_of (λ _. false) → IsPair mask (λ _. True) c
all_true mask c e f = record {
  yes = e ∙ is_yes mask (λ _. True) _ (λ n h. and_self (has mask n) ∙ sym (and-true (has mask n)));
  no = f ∙ is_no mask (λ _. True) _ (λ n h. sym (and-false (has mask n)));
}

pub all_false : (mask : List Bool) (c : Pair) → c.yes ≡ rows_of (λ _. false) → c.no ≡ rows_of (λ n. has mask n && has mask n) → IsPair mask (λ _. False) c
all_false mask c e f = record {
  yes = e ∙ is_yes mask (λ _. False) _ (λ n h. sym (and-false (has mask n)));
  no = f ∙ is_no mask (λ _. False) _ (λ n h. and_self (has mask n) ∙ sym (and-true (has mask n)));
}

pub all_unknown : (mask : List Bool) (c : Pair) → c.yes ≡ rows_of (λ _. false) → c.no ≡ rows_of (λ _. false) → IsPair mask (λ _. Unknown) c
all_unknown mask c e f = record {
  yes = e ∙ is_yes mask (λ _. Unknown) _ (λ n h. sym (and-false (has mask n)));
  no = f ∙ is_no mask (λ _. Unknown) _ (λ n h. sym (and-false (has mask n)));
}

-- one truth value everywhere, by another name
pub everywhere_as : (mask : List Bool) (p q : Truth) (c : Pair) → p ≡ q → IsPair mask (λ _. q) c → IsPair mask (λ _. p) c
everywhere_as mask p q c e h = subst (λ (r : Truth). IsPair mask (λ _. r) c) (sym e) h

asked_as : (mask : List Bool) (t : ℕ → Truth) (is : IsTruth) (b : Bool) (c : Pair) → is.negated ≡ b → IsPair mask (λ n. not_if b (truth_of (same_truth (t n) is.truth))) c → IsPair mask (λ n. asked is (t n)) c
asked_as mask t is b c e h = subst (λ (x : Bool). IsPair mask (λ n. not_if x (truth_of (same_truth (t n) is.truth))) c) (sym e) h

pub asked_plain : (mask there elsewhere : List Bool) (is : IsTruth) → is.negated ≡ false → elsewhere ≡ rows_of (λ n. has mask n && not (has there n)) → (t : ℕ → Truth) → there ≡ rows_of (λ n. has mask n && same_truth (t n) is.truth) → IsPair mask (λ n. asked is (t n)) (record { yes = there; no = elsewhere })
asked_plain mask there elsewhere is e f t g =
    let c : Pair = record { yes = there; no = elsewhere } in
    asked_as mask t is false c e (tested mask there elsewhere (λ n. same_truth (t n) is.truth) c g f refl refl)

pub asked_negated : (mask there elsewhere : List Bool) (is : IsTruth) → is.negated ≡ true → elsewhere ≡ rows_of (λ n. has mask n && not (has there n)) → (t : ℕ → Truth) → there ≡ rows_of (λ n. has mask n && same_truth (t n) is.truth) → IsPair mask (λ n. asked is (t n)) (record { yes = elsewhere; no = there })
asked_negated mask there elsewhere is e f t g =
    let c : Pair = record { yes = there; no = elsewhere } in
    let d : Pair = record { yes = elsewhere; no = there } in
    asked_as mask t is true d e (pair_not c d refl refl mask (λ n. truth_of (same_truth (t n) is.truth)) (tested mask there elsewhere (λ n. same_truth (t n) is.truth) c g f refl refl))

pub having_as : (mask here : List Bool) (t : ℕ → Truth) (p q : Truth) → p ≡ q → here ≡ rows_of (λ n. has mask n && same_truth (t n) q) → here ≡ rows_of (λ n. has mask n && same_truth (t n) p)
having_as mask here t p q e h = subst (λ (r : Truth). here ≡ rows_of (λ n. has mask n && same_truth (t n) r)) (sym e) h

-- truth values that are alike at each row
pub pair_like : (mask : List Bool) (s t : ℕ → Truth) (c : Pair) → ((n : ℕ) → s n ≡ t n) → IsPair mask s c → IsPair mask t c
pair_like mask s t c h p = record {
  yes = p.yes ∙ like_yes;
  no = p.no ∙ like_no;
}
  where
    like_yes : yes_of mask s ≡ yes_of mask t
    like_yes = let e : rows_of (λ n. has mask n && is_true (s n)) ≡ yes_of mask t = is_yes mask t _ (λ n l. ap (λ x. has mask n && is_true x) (h n)) in sym (is_yes mask s _ (λ n l. refl)) ∙ e

    like_no : no_of mask s ≡ no_of mask t
    like_no = let e : rows_of (λ n. has mask n && is_false (s n)) ≡ no_of mask t = is_no mask t _ (λ n l. ap (λ x. has mask n && is_false x) (h n)) in sym (is_no mask s _ (λ n l. refl)) ∙ e

-- the rows of a mask where a mask of a test is true, and the others
pub masked : (mask of here rest : List Bool) (test : ℕ → Bool) (c : Pair) → of ≡ rows_of test → here ≡ rows_of (λ n. has mask n && has of n) → rest ≡ rows_of (λ n. has mask n && not (has here n)) → c.yes ≡ here → c.no ≡ rest → IsPair mask (λ n. truth_of (test n)) c
masked mask of here rest test c e f g h k =
    let seen : here ≡ rows_of (λ n. has mask n && test n) = f ∙ rows_of-like _ _ (λ n l. ap (λ b. has mask n && b) (ap (λ m. has m n) e ∙ has-rows_of test n l)) in
    tested mask here rest test c seen g h k

or_rest : (m : Bool) (s t : Truth) (f r w : Bool) → f ≡ (m && is_true s) → r ≡ (m && not f) → w ≡ (r && is_true t) → (f || w) ≡ (m && is_true (or_of s t))
or_rest false s t f r w ef er ew = ap (λ b. b || w) ef ∙ ew ∙ ap (λ b. b && is_true t) er
or_rest true True t f r w ef er ew = ap (λ b. b || w) ef ∙ sym (is_true-or_of True t)
or_rest true False t f r w ef er ew = ap (λ b. b || w) ef ∙ ew ∙ ap (λ b. b && is_true t) (er ∙ ap not ef) ∙ sym (is_true-or_of False t)
or_rest true Unknown t f r w ef er ew = ap (λ b. b || w) ef ∙ ew ∙ ap (λ b. b && is_true t) (er ∙ ap not ef) ∙ sym (is_true-or_of Unknown t)

-- where an OR is true, its second condition being asked for only at the rows at which the first isn't
pub yes_or : (mask found rest next : List Bool) (s t : ℕ → Truth) → found ≡ yes_of mask s → rest ≡ rows_of (λ n. has mask n && not (has found n)) → next ≡ yes_of rest t → rows_of (λ n. has found n || has next n) ≡ yes_of mask (λ n. or_of (s n) (t n))
yes_or mask found rest next s t e g h =
    is_yes mask (λ n. or_of (s n) (t n)) _
    (λ n l. or_rest (has mask n) (s n) (t n) _ _ _ (ap (λ m. has m n) e ∙ has_yes mask s n l) (ap (λ m. has m n) g ∙ has-rows_of (λ n. has mask n && not (has found n)) n l) (ap (λ m. has m n) h ∙ has_yes rest t n l))

and_rest : (m : Bool) (s t : Truth) (r : Bool) → r ≡ (m && is_true s) → (r && is_true t) ≡ (m && is_true (and_of s t))
and_rest false s t r e = ap (λ b. b && is_true t) e
and_rest true s t r e = ap (λ b. b && is_true t) e ∙ sym (is_true-and_of s t)

-- where an AND is true, its second condition being asked for only at the rows at which the first is
pub yes_and : (mask rows next : List Bool) (s t : ℕ → Truth) → rows ≡ yes_of mask s → next ≡ yes_of rows t → next ≡ yes_of mask (λ n. and_of (s n) (t n))
yes_and mask rows next s t e h =
    let f : yes_of rows t ≡ rows_of (λ n. has rows n && is_true (t n)) = sym (is_yes rows t _ (λ n l. refl)) in
    h ∙ f ∙ is_yes mask (λ n. and_of (s n) (t n)) _ (λ n l. and_rest (has mask n) (s n) (t n) _ (ap (λ m. has m n) e ∙ has_yes mask s n l))

-- over no rows nothing is true
pub none_yes : (mask : List Bool) (t : ℕ → Truth) → ((n : ℕ) → n < 1024 → has mask n ≡ false) → rows_of (λ _. false) ≡ yes_of mask t
none_yes mask t h = is_yes mask t _ (λ n l. sym (ap (λ b. b && is_true (t n)) (h n l)))

-- no row is where what is false everywhere is true
pub false_yes : (mask : List Bool) → rows_of (λ _. false) ≡ yes_of mask (λ _. False)
false_yes mask = is_yes mask (λ _. False) _ (λ n l. sym (and-false (has mask n)))

-- all rows are where what is true everywhere is true
pub true_yes : (mask : List Bool) → rows_of (λ n. has mask n && has mask n) ≡ yes_of mask (λ _. True)
true_yes mask = is_yes mask (λ _. True) _ (λ n l. and_self (has mask n) ∙ sym (and-true (has mask n)))

-- OR where the second condition is asked for only at the rows at which the first isn't true
or_rest_no : (m : Bool) (s t : Truth) (y u r w : Bool) → y ≡ (m && is_false s) → u ≡ (m && is_true s) → r ≡ (m && not u) → w ≡ (r && is_false t) → (y && w) ≡ (m && is_false (or_of s t))
or_rest_no false s t y u r w ey eu er ew = ap (λ b. b && w) ey
or_rest_no true False t y u r w ey eu er ew = ap (λ b. b && w) ey ∙ ew ∙ ap (λ b. b && is_false t) (er ∙ ap not eu) ∙ sym (is_false-or_of False t)
or_rest_no true True t y u r w ey eu er ew = ap (λ b. b && w) ey ∙ sym (is_false-or_of True t)
or_rest_no true Unknown t y u r w ey eu er ew = ap (λ b. b && w) ey ∙ sym (is_false-or_of Unknown t)

pub pair_or_rest : (a b c : Pair) → c.yes ≡ rows_of (λ n. has a.yes n || has b.yes n) → c.no ≡ rows_of (λ n. has a.no n && has b.no n) → (mask rest : List Bool) (s t : ℕ → Truth) → IsPair mask s a → rest ≡ rows_of (λ n. has mask n && not (has a.yes n)) → IsPair rest t b → IsPair mask (λ n. or_of (s n) (t n)) c
pair_or_rest a b c e f mask rest s t p g q = record {
  yes = e ∙ is_yes mask (λ n. or_of (s n) (t n)) _ (λ n h. or_rest (has mask n) (s n) (t n) _ _ _ (yes_at mask s a p n h) (left n h) (yes_at rest t b q n h));
  no = f ∙ is_no mask (λ n. or_of (s n) (t n)) _ (λ n h. or_rest_no (has mask n) (s n) (t n) _ _ _ _ (no_at mask s a p n h) (yes_at mask s a p n h) (left n h) (no_at rest t b q n h));
}
  where
    left : (n : ℕ) → n < 1024 → has rest n ≡ (has mask n && not (has a.yes n))
    left n h = ap (λ m. has m n) g ∙ has-rows_of (λ n. has mask n && not (has a.yes n)) n h
