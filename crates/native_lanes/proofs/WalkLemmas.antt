-- A fold over the lanes and their steps is the fold over the rows, and a lane's number is a step's from the step before.
use Rattle.std.proofs.Common.{◌≡◌, ℕ, zero, suc, ◌+◌, ◌*◌, ◌/◌, ◌%◌, ◌^◌, ◌<◌, Bool, true, false, cond, List, slice_index, refl, sym, ap, ◌∙◌, subst, arith}
use Rattle.transpose_order.specs.Mask.{has}
use Rattle.transpose_order.specs.Place.{IsLaneWidth, place_of, row_at, lane_of, step_of}
use Rattle.transpose_order.proofs.WidthLemmas.{at_widths}
use Rattle.transpose_order.proofs.PlaceLemmas.{row_at-piece, lane_of-row_at}
use Rattle.std.proofs.lemmas.Nat.{mod_below, pow_pos}
use Rattle.bit_interleave.specs.Packing.{packed_value}
use Rattle.native_lanes.specs.Folds.{fold_to}
use Rattle.native_lanes.specs.Walks.{Walk, walked, number_before, number_at, number_of_row, half_on}
use Rattle.native_lanes.proofs.FoldLemmas.{IsJoin, fold_to-zero, fold_to-suc, fold_to-same, fold_to-blocks, fold_to-pieces}

-- ---- folds of folds
fold_to-none : {X : Type 0} (join : X → X → X) (none : X) → IsJoin join none → (k : ℕ) → fold_to join none k (λ _. none) ≡ none
fold_to-none join none laws zero = fold_to-zero join none (λ _. none)
fold_to-none join none laws (suc k) =
    fold_to-suc join none k (λ _. none) ∙ ap (λ x. join x none) (fold_to-none join none laws k) ∙ laws.unit none

fold_to-both : {X : Type 0} (join : X → X → X) (none : X) → IsJoin join none → (k : ℕ) (f g : ℕ → X) → join (fold_to join none k f) (fold_to join none k g) ≡ fold_to join none k (λ i. join (f i) (g i))
fold_to-both join none laws zero f g =
    ap (λ x. join x (fold_to join none 0 g)) (fold_to-zero join none f) ∙ ap (join none) (fold_to-zero join none g) ∙ laws.unit none
    ∙ sym (fold_to-zero join none (λ i. join (f i) (g i)))
fold_to-both {X = X} join none laws (suc k) f g =
    ap (λ x. join x (fold_to join none (suc k) g)) (fold_to-suc join none k f) ∙ ap (join (join (fold_to join none k f) (f k))) (fold_to-suc join none k g)
    ∙ four (fold_to join none k f) (f k) (fold_to join none k g) (g k)
    ∙ ap (λ x. join x (join (f k) (g k))) (fold_to-both join none laws k f g)
    ∙ sym (fold_to-suc join none k (λ i. join (f i) (g i)))
  where
    four : (a b c d : X) → join (join a b) (join c d) ≡ join (join a c) (join b d)
    four a b c d =
        laws.assoc a b (join c d) ∙ ap (join a) (sym (laws.assoc b c d) ∙ ap (λ x. join x d) (laws.comm b c) ∙ laws.assoc c b d)
        ∙ sym (laws.assoc a c (join b d))

pub fold_to-swap : {X : Type 0} (join : X → X → X) (none : X) → IsJoin join none → (m n : ℕ) (f : ℕ → ℕ → X) → fold_to join none m (λ a. fold_to join none n (f a)) ≡ fold_to join none n (λ b. fold_to join none m (λ a. f a b))
fold_to-swap join none laws zero n f =
    fold_to-zero join none (λ a. fold_to join none n (f a)) ∙ sym (fold_to-none join none laws n)
    ∙ fold_to-same join none n (λ _. none) (λ b. fold_to join none 0 (λ a. f a b)) (λ b h. sym (fold_to-zero join none (λ a. f a b)))
fold_to-swap join none laws (suc m) n f =
    fold_to-suc join none m (λ a. fold_to join none n (f a))
    ∙ ap (λ x. join x (fold_to join none n (f m))) (fold_to-swap join none laws m n f)
    ∙ fold_to-both join none laws n (λ b. fold_to join none m (λ a. f a b)) (f m)
    ∙ fold_to-same join none n (λ b. join (fold_to join none m (λ a. f a b)) (f m b)) (λ b. fold_to join none (suc m) (λ a. f a b)) (λ b h. sym (fold_to-suc join none m (λ a. f a b)))

-- ---- lanes and steps
by_groups : {X : Type 0} (join : X → X → X) (none : X) → IsJoin join none → (t n : ℕ) (f : ℕ → X) → IsLaneWidth t → n * t ≡ 64 → ((g r : ℕ) → g < n → r < t → ((g * t + r) / t ≡ g) × ((g * t + r) % t ≡ r) × (g * t + r < 64))
    → fold_to join none (n * 16) (λ lane. fold_to join none t (λ step. f (row_at t lane step))) ≡ fold_to join none 1024 f
by_groups {X = X} join none laws t n f width whole place =
    let at : ℕ → ℕ → X = λ i q. f (64 * i + place_of t q) in
    fold_to-blocks join none laws n 16 (λ lane. fold_to join none t (λ step. f (row_at t lane step)))
    ∙ fold_to-same join none n (λ g. fold_to join none 16 (λ i. fold_to join none t (λ r. f (row_at t (g * 16 + i) r)))) (λ g. fold_to join none 16 (λ i. fold_to join none t (λ r. at i (g * t + r))))
    (λ g h. fold_to-same join none 16 (λ i. fold_to join none t (λ r. f (row_at t (g * 16 + i) r))) (λ i. fold_to join none t (λ r. at i (g * t + r)))
    (λ i l. fold_to-same join none t (λ r. f (row_at t (g * 16 + i) r)) (λ r. at i (g * t + r)) (λ r k. ap f (row g i r h l k))))
    ∙ fold_to-swap join none laws n 16 (λ g i. fold_to join none t (λ r. at i (g * t + r)))
    ∙ fold_to-same join none 16 (λ i. fold_to join none n (λ g. fold_to join none t (λ r. at i (g * t + r)))) (λ i. fold_to join none 64 (at i))
    (λ i l. sym (fold_to-blocks join none laws n t (at i)) ∙ ap (λ k. fold_to join none k (at i)) whole)
    ∙ fold_to-pieces join none laws t f width
  where
    row : (g i r : ℕ) → g < n → i < 16 → r < t → row_at t (g * 16 + i) r ≡ 64 * i + place_of t (g * t + r)
    row g i r h l k =
        let p = place g r h k in
        let lane : g * 16 + i ≡ 16 * ((g * t + r) / t) + i = omega (arith, p.0) in
        ap (λ (x : ℕ). row_at t x r) lane ∙ ap (row_at t (16 * ((g * t + r) / t) + i)) (sym p.1) ∙ (row_at-piece t (g * t + r) i width p.2 l).1

pub fold_to-lanes : {X : Type 0} (join : X → X → X) (none : X) → IsJoin join none → (t : ℕ) (f : ℕ → X) → IsLaneWidth t → fold_to join none (1024 / t) (λ lane. fold_to join none t (λ step. f (row_at t lane step))) ≡ fold_to join none 1024 f
fold_to-lanes join none laws t f width =
    at_widths (λ t. IsLaneWidth t → fold_to join none (1024 / t) (λ lane. fold_to join none t (λ step. f (row_at t lane step))) ≡ fold_to join none 1024 f)
    (λ w. by_groups join none laws 8 8 f w refl (λ g r h k. (omega arith, omega arith, omega arith)))
    (λ w. by_groups join none laws 16 4 f w refl (λ g r h k. (omega arith, omega arith, omega arith)))
    (λ w. by_groups join none laws 32 2 f w refl (λ g r h k. (omega arith, omega arith, omega arith)))
    (λ w. by_groups join none laws 64 1 f w refl (λ g r h k. (omega arith, omega arith, omega arith)))
    t width width

pub added_is_join : IsJoin ◌+◌ 0
added_is_join = record { unit = λ x. omega arith; assoc = λ x y z. omega arith; comm = λ x y. omega arith }

-- ---- a step of a walk
pub number_before-zero : (walk : Walk) (lane : ℕ) → slice_index walk.starts lane ≡ number_before walk lane 0
unfolding number_before walked
number_before-zero walk lane = refl

pub one_step : (walk : Walk) (lane step : ℕ) → (cond walk.carried (number_before walk lane step) 0 + walk.added + packed_value walk.lane_width walk.width walk.words lane step) % 2 ^ walk.lane_width ≡ number_before walk lane (suc step)
unfolding number_before walked
one_step walk lane step = refl

pub number_at-is : (walk : Walk) (lane step : ℕ) → (cond walk.carried (number_before walk lane step) 0 + walk.added + packed_value walk.lane_width walk.width walk.words lane step) % 2 ^ walk.lane_width ≡ number_at walk lane step
number_at-is walk lane step =
    one_step walk lane step ∙ ap (number_before walk lane) (let e : suc step ≡ step + 1 = omega arith in e)

pub number_at-below : (walk : Walk) (lane step : ℕ) → number_at walk lane step < 2 ^ walk.lane_width
number_at-below walk lane step =
    subst (λ (n : ℕ). n < 2 ^ walk.lane_width) (number_at-is walk lane step)
    (mod_below (cond walk.carried (number_before walk lane step) 0 + walk.added + packed_value walk.lane_width walk.width walk.words lane step) (2 ^ walk.lane_width) (omega (arith, pow_pos walk.lane_width)))

-- ---- a walk whose numbers are an offset further
step_further : (n added packed offset : ℕ) → ((n + offset) % 2 ^ 64 + added + packed) % 2 ^ 64 ≡ ((n + added + packed) % 2 ^ 64 + offset) % 2 ^ 64
step_further n added packed offset = omega arith

carried_further : (start added offset : ℕ) (number : ℕ → ℕ) (k : ℕ) → walked (2 ^ 64) true ((start + offset) % 2 ^ 64) added number k ≡ (walked (2 ^ 64) true start added number k + offset) % 2 ^ 64
unfolding walked
carried_further start added offset number zero = refl
carried_further start added offset number (suc k) =
    ap (λ (n : ℕ). (n + added + number k) % 2 ^ 64) (carried_further start added offset number k)
    ∙ step_further (walked (2 ^ 64) true start added number k) added (number k) offset

anew_further : (start shifted added offset : ℕ) (number : ℕ → ℕ) (k : ℕ) → walked (2 ^ 64) false shifted ((added + offset) % 2 ^ 64) number (suc k) ≡ (walked (2 ^ 64) false start added number (suc k) + offset) % 2 ^ 64
unfolding walked
anew_further start shifted added offset number k = anew added (number k)
  where
    anew : (a p : ℕ) → (0 + (a + offset) % 2 ^ 64 + p) % 2 ^ 64 ≡ ((0 + a + p) % 2 ^ 64 + offset) % 2 ^ 64
    anew a p = omega arith

walked_further : (carried : Bool) (start shifted added moved offset : ℕ) (number : ℕ → ℕ) (k : ℕ) → shifted ≡ (start + offset) % 2 ^ 64 → moved ≡ cond carried added ((added + offset) % 2 ^ 64)
    → walked (2 ^ 64) carried shifted moved number (suc k) ≡ (walked (2 ^ 64) carried start added number (suc k) + offset) % 2 ^ 64
walked_further true start shifted added moved offset number k starts adds =
    ap (λ (n : ℕ). walked (2 ^ 64) true n moved number (suc k)) starts ∙ ap (λ (n : ℕ). walked (2 ^ 64) true ((start + offset) % 2 ^ 64) n number (suc k)) adds
    ∙ carried_further start added offset number (suc k)
walked_further false start shifted added moved offset number k starts adds =
    ap (λ (n : ℕ). walked (2 ^ 64) false shifted n number (suc k)) adds ∙ anew_further start shifted added offset number k

pub shifted_walk : (width : ℕ) (words starts shifted : List ℕ) (carried : Bool) (added moved offset lane step : ℕ) → slice_index shifted lane ≡ (slice_index starts lane + offset) % 2 ^ 64
    → moved ≡ cond carried added ((added + offset) % 2 ^ 64)
    → number_at (record { lane_width = 64; width = width; words = words; carried = carried; starts = shifted; added = moved }) lane step
    ≡ (number_at (record { lane_width = 64; width = width; words = words; carried = carried; starts = starts; added = added }) lane step + offset) % 2 ^ 64
unfolding number_before
shifted_walk width words starts shifted carried added moved offset lane step starts_are adds =
    let packed : ℕ → ℕ = packed_value 64 width words lane in
    let later : step + 1 ≡ suc step = omega arith in
    ap (walked (2 ^ 64) carried (slice_index shifted lane) moved packed) later
    ∙ walked_further carried (slice_index starts lane) (slice_index shifted lane) added moved offset packed step starts_are adds
    ∙ sym (ap (λ (k : ℕ). (walked (2 ^ 64) carried (slice_index starts lane) added packed k + offset) % 2 ^ 64) later)

pub half_on_offset : (n offset : ℕ) → half_on ((n + half_on offset) % 2 ^ 64) ≡ (n + offset) % 2 ^ 64
half_on_offset n offset = omega arith

-- half on once more, a number is as it was
pub half_on_again : (walk shifted : Walk) (lane step : ℕ) → walk.lane_width ≡ 64 → number_at shifted lane step ≡ (number_at walk lane step + 2 ^ 63) % 2 ^ 64 → half_on (number_at shifted lane step) ≡ number_at walk lane step
half_on_again walk shifted lane step is further =
    let below : number_at walk lane step < 2 ^ 64 = subst (λ (t : ℕ). number_at walk lane step < 2 ^ t) is (number_at-below walk lane step) in
    ap (λ (n : ℕ). half_on n) further ∙ back (number_at walk lane step) below
  where
    back : (n : ℕ) → n < 2 ^ 64 → half_on (half_on n) ≡ n
    back n below = omega (arith, below)

-- ---- a row's number, and the sum of the rows
pub row_of_walk : (walk : Walk) (t lane step : ℕ) → walk.lane_width ≡ t → IsLaneWidth t → lane < 1024 / t → step < t → number_of_row walk (row_at t lane step) ≡ number_at walk lane step
unfolding number_of_row
row_of_walk walk t lane step is width h l =
    let place = lane_of-row_at t lane step width h l in
    ap (λ (w : ℕ). number_at walk (lane_of w (row_at t lane step)) (step_of w (row_at t lane step))) is
    ∙ ap (λ (k : ℕ). number_at walk k (step_of t (row_at t lane step))) place.1 ∙ ap (number_at walk lane) place.2

pub number_of_row-is : (walk : Walk) (n t : ℕ) → walk.lane_width ≡ t → number_of_row walk n ≡ number_at walk (lane_of t n) (step_of t n)
unfolding number_of_row
number_of_row-is walk n t is = ap (λ (w : ℕ). number_at walk (lane_of w n) (step_of w n)) is

pub taken_below : (b : Bool) (n m : ℕ) → n < m → 0 < m → cond b n 0 < m
taken_below true n m h some = h
taken_below false n m h some = some

pub parts : (n m : ℕ) → n % m + m * (n / m) ≡ n
parts n m = omega arith

sum_of_parts : (m : ℕ) (low high : ℕ → ℕ) (k : ℕ) → fold_to ◌+◌ 0 k low + m * fold_to ◌+◌ 0 k high ≡ fold_to ◌+◌ 0 k (λ i. low i + m * high i)
sum_of_parts m low high zero =
    let l = fold_to-zero ◌+◌ 0 low in
    let h : m * fold_to ◌+◌ 0 0 high ≡ m * 0 = ap (λ n. m * n) (fold_to-zero ◌+◌ 0 high) in
    let z = fold_to-zero ◌+◌ 0 (λ i. low i + m * high i) in
    let none : m * 0 ≡ 0 = omega arith in
    omega (arith, l, h, z, none)
sum_of_parts m low high (suc k) =
    let l = fold_to-suc ◌+◌ 0 k low in
    let h : m * fold_to ◌+◌ 0 (suc k) high ≡ m * fold_to ◌+◌ 0 k high + m * high k = ap (λ n. m * n) (fold_to-suc ◌+◌ 0 k high) ∙ grind arith in
    let z = fold_to-suc ◌+◌ 0 k (λ i. low i + m * high i) in
    omega (arith, l, h, z, sum_of_parts m low high k)

pub sum_of_walk : (walk : Walk) (rows : List Bool) (t m : ℕ) (low high : ℕ → ℕ) → IsLaneWidth t → walk.lane_width ≡ t
    → ((lane : ℕ) → lane < 1024 / t → low lane + m * high lane ≡ fold_to ◌+◌ 0 t (λ s. cond (has rows (row_at t lane s)) (number_at walk lane s) 0))
    → fold_to ◌+◌ 0 (1024 / t) low + m * fold_to ◌+◌ 0 (1024 / t) high ≡ fold_to ◌+◌ 0 1024 (λ n. cond (has rows n) (number_of_row walk n) 0)
sum_of_walk walk rows t m low high width is sums =
    let f : ℕ → ℕ = λ n. cond (has rows n) (number_of_row walk n) 0 in
    sum_of_parts m low high (1024 / t)
    ∙ fold_to-same ◌+◌ 0 (1024 / t) (λ lane. low lane + m * high lane) (λ lane. fold_to ◌+◌ 0 t (λ s. f (row_at t lane s)))
    (λ lane h. sums lane h ∙ fold_to-same ◌+◌ 0 t (λ s. cond (has rows (row_at t lane s)) (number_at walk lane s) 0) (λ s. f (row_at t lane s))
    (λ s l. ap (λ n. cond (has rows (row_at t lane s)) n 0) (sym (row_of_walk walk t lane s is width h l))))
    ∙ fold_to-lanes ◌+◌ 0 added_is_join t f width
