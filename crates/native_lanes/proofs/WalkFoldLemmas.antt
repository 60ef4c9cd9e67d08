-- The greatest and the least of the numbers of a walk's rows, and of the values that those are above the least of a lane's bits.
use Rattle.std.proofs.Common.{◌≡◌, ℕ, zero, suc, ◌+◌, ◌-◌, ◌/◌, ◌^◌, ◌<◌, ◌≤◌, max, Bool, true, false, cond, nat_lt, ℤ, pos, ◌+ℤ◌, ◌-ℤ◌, Option, Some, None, List, refl, sym, ap, ◌∙◌, subst, arith}
use Rattle.std.specs.Int.{int_min, int_max}
use Rattle.std.proofs.lemmas.Int.{ints, clamps}
use Rattle.std.proofs.lemmas.Bool.Decides.{nat_tests}
use Rattle.table_model.specs.Values.{lesser, greater}
use Rattle.transpose_order.specs.Mask.{has, count_below}
use Rattle.transpose_order.proofs.MaskLemmas.{count_below-zero, count_below-suc}
use Rattle.transpose_order.specs.Place.{IsLaneWidth, row_at, lane_of, step_of}
use Rattle.table_model.specs.Extreme.{is_least, further as further_of}
use Rattle.table_model.specs.declared.extreme.Extreme.{Extreme}
use Rattle.table_model.specs.declared.extreme.Extreme.TheVariants.{Least, Greatest}
use Rattle.native_lanes.specs.Folds.{fold_to}
use Rattle.native_lanes.specs.Walks.{Walk, number_at, number_of_row, turned, half_on, further}
use Rattle.native_lanes.proofs.FoldLemmas.{IsJoin, fold_to-zero, fold_to-suc, fold_to-same}
use Rattle.native_lanes.proofs.WalkLemmas.{fold_to-lanes, row_of_walk, number_at-below}

pub greatest_is_join : IsJoin max 0
greatest_is_join = record { unit = λ x. omega arith; assoc = λ x y z. omega arith; comm = λ x y. omega arith }

pub greatest_of_walk : (walk : Walk) (rows : List Bool) (t : ℕ) (flipped : Bool) (greatests : ℕ → ℕ) → IsLaneWidth t → walk.lane_width ≡ t
    → ((lane : ℕ) → lane < 1024 / t → greatests lane ≡ fold_to max 0 t (λ s. cond (has rows (row_at t lane s)) (turned t flipped (number_at walk lane s)) 0))
    → fold_to max 0 (1024 / t) greatests ≡ fold_to max 0 1024 (λ n. cond (has rows n) (turned t flipped (number_of_row walk n)) 0)
greatest_of_walk walk rows t flipped greatests width is lanes =
    let f : ℕ → ℕ = λ n. cond (has rows n) (turned t flipped (number_of_row walk n)) 0 in
    fold_to-same max 0 (1024 / t) greatests (λ lane. fold_to max 0 t (λ s. f (row_at t lane s)))
    (λ lane h. lanes lane h ∙ fold_to-same max 0 t (λ s. cond (has rows (row_at t lane s)) (turned t flipped (number_at walk lane s)) 0) (λ s. f (row_at t lane s))
    (λ s l. ap (λ n. cond (has rows (row_at t lane s)) (turned t flipped n) 0) (sym (row_of_walk walk t lane s is width h l))))
    ∙ fold_to-lanes max 0 greatest_is_join t f width

-- the one of two numbers that is further, half on and turned, is the greater of both
further_one : (flipped below : Bool) (so_far number : ℕ) → nat_lt (half_on number) (half_on so_far) ≡ below
    → turned 64 flipped (half_on (cond flipped (cond below number so_far) (cond below so_far number))) ≡ max (turned 64 flipped (half_on so_far)) (turned 64 flipped (half_on number))
further_one true true so_far number is = let h : half_on number < half_on so_far = grind (arith, nat_tests) in omega (arith, h)
further_one true false so_far number is = let h : half_on so_far ≤ half_on number = grind (arith, nat_tests) in omega (arith, h)
further_one false true so_far number is = let h : half_on number < half_on so_far = grind (arith, nat_tests) in omega (arith, h)
further_one false false so_far number is = let h : half_on so_far ≤ half_on number = grind (arith, nat_tests) in omega (arith, h)

pub further_is : (flipped taken : Bool) (so_far number : ℕ)
    → turned 64 flipped (half_on (cond taken (further flipped so_far number) so_far)) ≡ max (turned 64 flipped (half_on so_far)) (cond taken (turned 64 flipped (half_on number)) 0)
further_is flipped true so_far number = further_one flipped (nat_lt (half_on number) (half_on so_far)) so_far number refl
further_is flipped false so_far number = alone (turned 64 flipped (half_on so_far))
  where
    alone : (n : ℕ) → n ≡ max n 0
    alone n = omega arith

pub number_of_row-below : (walk : Walk) (t n : ℕ) → walk.lane_width ≡ t → number_of_row walk n ≤ 2 ^ t - 1
unfolding number_of_row
number_of_row-below walk t n is =
    let below : number_at walk (lane_of walk.lane_width n) (step_of walk.lane_width n) < 2 ^ t = subst (λ (w : ℕ). number_at walk (lane_of walk.lane_width n) (step_of walk.lane_width n) < 2 ^ w) is (number_at-below walk (lane_of walk.lane_width n) (step_of walk.lane_width n)) in
    omega (arith, below)

-- a row's number is that of its lane at its step
pub row_in_lane : (walk : Walk) (t n : ℕ) → walk.lane_width ≡ t → number_at walk (lane_of t n) (step_of t n) ≡ number_of_row walk n
unfolding number_of_row
row_in_lane walk t n is =
    ap (λ (w : ℕ). number_at walk (lane_of w n) (step_of w n)) (sym is)

-- ---- the greatest
one_greater : (b : Bool) (x n count half : ℕ) (v : ℤ) (o : Option ℤ) → (count ≡ 0 → x ≡ 0) → pos n ≡ v +ℤ pos half → o ≡ cond (nat_lt 0 count) (Some (pos x -ℤ pos half)) None
    → greater o (cond b (Some v) None) ≡ cond (nat_lt 0 (count + cond b 1 0)) (Some (pos (max x (cond b n 0)) -ℤ pos half)) None
one_greater true x n zero half v o none raised is =
    let empty : x ≡ 0 = none refl in
    let value : v ≡ pos (max x n) -ℤ pos half = omega (arith, ints, empty, raised) in
    ap (λ p. greater p (Some v)) is ∙ ap Some value
one_greater true x n (suc count) half v o none raised is =
    let was : nat_lt 0 (suc count) ≡ true = grind (arith, nat_tests) in
    let on : nat_lt 0 (suc count + 1) ≡ true = grind (arith, nat_tests) in
    let value : int_max (pos x -ℤ pos half) v ≡ pos (max x n) -ℤ pos half = omega (arith, ints, clamps, raised) in
    ap (λ p. greater p (Some v)) (is ∙ ap (λ t. cond t (Some (pos x -ℤ pos half)) None) was) ∙ ap Some value
    ∙ sym (ap (λ t. cond t (Some (pos (max x n) -ℤ pos half)) None) on)
one_greater false x n count half v o none raised is =
    let same : count + 0 ≡ count = omega arith in
    let x_is : max x 0 ≡ x = omega arith in
    unit o ∙ is ∙ sym (ap (λ k. cond (nat_lt 0 k) (Some (pos (max x 0) -ℤ pos half)) None) same ∙ ap (λ k. cond (nat_lt 0 count) (Some (pos k -ℤ pos half)) None) x_is)
  where
    unit : (o : Option ℤ) → greater o None ≡ o
    unit None = refl
    unit (Some x) = refl

pub none_taken : (b : ℕ → Bool) (number : ℕ → ℕ) (k : ℕ) → count_below b k ≡ 0 → fold_to max 0 k (λ n. cond (b n) (number n) 0) ≡ 0
none_taken b number zero none = fold_to-zero max 0 (λ n. cond (b n) (number n) 0)
none_taken b number (suc k) none =
    let split : count_below b k + cond (b k) 1 0 ≡ 0 = sym (count_below-suc b k) ∙ none in
    fold_to-suc max 0 k (λ n. cond (b n) (number n) 0) ∙ ap (λ x. max x (cond (b k) (number k) 0)) (none_taken b number k (omega (arith, split)))
    ∙ not_taken (b k) (number k) (cond (b k) 1 0) refl (omega (arith, split))
  where
    not_taken : (t : Bool) (n c : ℕ) → c ≡ cond t 1 0 → c ≡ 0 → max 0 (cond t n 0) ≡ 0
    not_taken true n c e none = absurd (omega (arith, e, none))
    not_taken false n c e none = omega arith

pub greatest_raised : (half : ℕ) (b : ℕ → Bool) (number : ℕ → ℕ) (v : ℕ → ℤ) (k : ℕ) → ((n : ℕ) → n < k → pos (number n) ≡ v n +ℤ pos half)
    → fold_to greater None k (λ n. cond (b n) (Some (v n)) None) ≡ cond (nat_lt 0 (count_below b k)) (Some (pos (fold_to max 0 k (λ n. cond (b n) (number n) 0)) -ℤ pos half)) None
greatest_raised half b number v zero raised =
    fold_to-zero greater None (λ n. cond (b n) (Some (v n)) None)
    ∙ sym (ap (λ k. cond (nat_lt 0 k) (Some (pos (fold_to max 0 0 (λ n. cond (b n) (number n) 0)) -ℤ pos half)) None) (count_below-zero b))
greatest_raised half b number v (suc k) raised =
    let x = fold_to max 0 k (λ n. cond (b n) (number n) 0) in
    fold_to-suc greater None k (λ n. cond (b n) (Some (v n)) None)
    ∙ one_greater (b k) x (number k) (count_below b k) half (v k) (fold_to greater None k (λ n. cond (b n) (Some (v n)) None)) (none_taken b number k) (raised k (omega arith)) (greatest_raised half b number v k (λ n h. raised n (omega arith)))
    ∙ ap (λ n. cond (nat_lt 0 n) (Some (pos (max x (cond (b k) (number k) 0)) -ℤ pos half)) None) (sym (count_below-suc b k))
    ∙ ap (λ n. cond (nat_lt 0 (count_below b (suc k))) (Some (pos n -ℤ pos half)) None) (sym (fold_to-suc max 0 k (λ n. cond (b n) (number n) 0)))

-- ---- the least, as far below the greatest number as the greatest of the turned numbers
one_lesser : (b : Bool) (x n m count half : ℕ) (v : ℤ) (o : Option ℤ) → x ≤ m → n ≤ m → (count ≡ 0 → x ≡ 0) → pos n ≡ v +ℤ pos half → o ≡ cond (nat_lt 0 count) (Some (pos (m - x) -ℤ pos half)) None
    → lesser o (cond b (Some v) None) ≡ cond (nat_lt 0 (count + cond b 1 0)) (Some (pos (m - max x (cond b (m - n) 0)) -ℤ pos half)) None
one_lesser true x n m zero half v o most fits none raised is =
    let empty : x ≡ 0 = none refl in
    let value : v ≡ pos (m - max x (m - n)) -ℤ pos half = omega (arith, ints, empty, raised, fits) in
    ap (λ p. lesser p (Some v)) is ∙ ap Some value
one_lesser true x n m (suc count) half v o most fits none raised is =
    let was : nat_lt 0 (suc count) ≡ true = grind (arith, nat_tests) in
    let on : nat_lt 0 (suc count + 1) ≡ true = grind (arith, nat_tests) in
    let value : int_min (pos (m - x) -ℤ pos half) v ≡ pos (m - max x (m - n)) -ℤ pos half = omega (arith, ints, clamps, raised, most, fits) in
    ap (λ p. lesser p (Some v)) (is ∙ ap (λ t. cond t (Some (pos (m - x) -ℤ pos half)) None) was) ∙ ap Some value
    ∙ sym (ap (λ t. cond t (Some (pos (m - max x (m - n)) -ℤ pos half)) None) on)
one_lesser false x n m count half v o most fits none raised is =
    let same : count + 0 ≡ count = omega arith in
    let x_is : max x 0 ≡ x = omega arith in
    unit o ∙ is ∙ sym (ap (λ k. cond (nat_lt 0 k) (Some (pos (m - max x 0) -ℤ pos half)) None) same ∙ ap (λ k. cond (nat_lt 0 count) (Some (pos (m - k) -ℤ pos half)) None) x_is)
  where
    unit : (o : Option ℤ) → lesser o None ≡ o
    unit None = refl
    unit (Some x) = refl

greatest_at_most : (b : ℕ → Bool) (number : ℕ → ℕ) (m k : ℕ) → fold_to max 0 k (λ n. cond (b n) (m - number n) 0) ≤ m
greatest_at_most b number m zero =
    let e = fold_to-zero max 0 (λ n. cond (b n) (m - number n) 0) in omega (arith, e)
greatest_at_most b number m (suc k) =
    let e = fold_to-suc max 0 k (λ n. cond (b n) (m - number n) 0) in
    let one : cond (b k) (m - number k) 0 ≤ m = by_truth (b k) (number k) in
    omega (arith, e, one, greatest_at_most b number m k)
  where
    by_truth : (t : Bool) (n : ℕ) → cond t (m - n) 0 ≤ m
    by_truth true n = omega arith
    by_truth false n = omega arith

pub least_raised : (half m : ℕ) (b : ℕ → Bool) (number : ℕ → ℕ) (v : ℕ → ℤ) (k : ℕ) → ((n : ℕ) → n < k → number n ≤ m) → ((n : ℕ) → n < k → pos (number n) ≡ v n +ℤ pos half)
    → fold_to lesser None k (λ n. cond (b n) (Some (v n)) None) ≡ cond (nat_lt 0 (count_below b k)) (Some (pos (m - fold_to max 0 k (λ n. cond (b n) (m - number n) 0)) -ℤ pos half)) None
least_raised half m b number v zero fits raised =
    fold_to-zero lesser None (λ n. cond (b n) (Some (v n)) None)
    ∙ sym (ap (λ k. cond (nat_lt 0 k) (Some (pos (m - fold_to max 0 0 (λ n. cond (b n) (m - number n) 0)) -ℤ pos half)) None) (count_below-zero b))
least_raised half m b number v (suc k) fits raised =
    let x = fold_to max 0 k (λ n. cond (b n) (m - number n) 0) in
    fold_to-suc lesser None k (λ n. cond (b n) (Some (v n)) None)
    ∙ one_lesser (b k) x (number k) m (count_below b k) half (v k) (fold_to lesser None k (λ n. cond (b n) (Some (v n)) None)) (greatest_at_most b number m k) (fits k (omega arith)) (none_taken b (λ n. m - number n) k) (raised k (omega arith)) (least_raised half m b number v k (λ n h. fits n (omega arith)) (λ n h. raised n (omega arith)))
    ∙ ap (λ n. cond (nat_lt 0 n) (Some (pos (m - max x (cond (b k) (m - number k) 0)) -ℤ pos half)) None) (sym (count_below-suc b k))
    ∙ ap (λ n. cond (nat_lt 0 (count_below b (suc k))) (Some (pos (m - n) -ℤ pos half)) None) (sym (fold_to-suc max 0 k (λ n. cond (b n) (m - number n) 0)))

-- ---- either, by what is turned where the least is asked for
pub extreme_raised : (side : Extreme) (t half : ℕ) (b : ℕ → Bool) (number : ℕ → ℕ) (v : ℕ → ℤ) (flipped : Bool) → flipped ≡ is_least side → ((n : ℕ) → n < 1024 → number n ≤ 2 ^ t - 1) → ((n : ℕ) → n < 1024 → pos (number n) ≡ v n +ℤ pos half)
    → cond (nat_lt 0 (count_below b 1024)) (Some (pos (turned t flipped (fold_to max 0 1024 (λ n. cond (b n) (turned t flipped (number n)) 0))) -ℤ pos half)) None ≡ fold_to (further_of side) None 1024 (λ n. cond (b n) (Some (v n)) None)
extreme_raised Least t half b number v flipped is below raised =
    ap (λ f. cond (nat_lt 0 (count_below b 1024)) (Some (pos (turned t f (fold_to max 0 1024 (λ n. cond (b n) (turned t f (number n)) 0))) -ℤ pos half)) None) is
    ∙ sym (least_raised half (2 ^ t - 1) b number v 1024 below raised)
extreme_raised Greatest t half b number v flipped is below raised =
    ap (λ f. cond (nat_lt 0 (count_below b 1024)) (Some (pos (turned t f (fold_to max 0 1024 (λ n. cond (b n) (turned t f (number n)) 0))) -ℤ pos half)) None) is
    ∙ sym (greatest_raised half b number v 1024 raised)
