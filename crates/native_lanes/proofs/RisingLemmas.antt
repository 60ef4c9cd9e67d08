-- Lanes whose numbers don't wrap after the first step rise, so that the last step has their greatest and the first their least.
use Rattle.std.proofs.Common.{◌≡◌, ℕ, zero, suc, ◌+◌, ◌-◌, ◌*◌, ◌%◌, ◌^◌, ◌<◌, ◌≤◌, max, Bool, true, false, cond, nat_lt, List, refl, sym, ap, ◌∙◌, subst, arith}
use Rattle.std.proofs.lemmas.Bool.Decides.{nat_tests}
use Rattle.std.proofs.lemmas.Nat.{mod-mul-add, mul-le}
use Rattle.transpose_order.specs.Mask.{has}
use Rattle.transpose_order.specs.Place.{row_at}
use Rattle.bit_interleave.specs.Packing.{packed_value}
use Rattle.bit_interleave.proofs.StepLemmas.{packed_value-below}
use Rattle.native_lanes.specs.Folds.{fold_to}
use Rattle.native_lanes.specs.Walks.{Walk, number_before, number_at, turned}
use Rattle.native_lanes.proofs.FoldLemmas.{fold_to-zero, fold_to-suc, fold_to-same}
use Rattle.native_lanes.proofs.WalkLemmas.{one_step}

pub at_most_greatest : (f : ℕ → ℕ) (k i : ℕ) → i < k → f i ≤ fold_to max 0 k f
at_most_greatest f zero i h = absurd (omega (arith, h))
at_most_greatest f (suc k) i h = by_place (nat_lt i k) refl (at_most_greatest f k i)
  where
    by_place : (t : Bool) → nat_lt i k ≡ t → (i < k → f i ≤ fold_to max 0 k f) → f i ≤ fold_to max 0 (suc k) f
    by_place true e before =
        let below : i < k = grind (arith, nat_tests, e) in
        omega (arith, fold_to-suc max 0 k f, before below)
    by_place false e before =
        let last : i ≡ k = grind (arith, nat_tests, e, h) in
        omega (arith, fold_to-suc max 0 k f, ap f last)

pub greatest_of_rising : (f : ℕ → ℕ) (k : ℕ) → ((s : ℕ) → s < k → f s ≤ f (suc s)) → fold_to max 0 (suc k) f ≡ f k
greatest_of_rising f zero rising = omega (arith, fold_to-suc max 0 0 f, fold_to-zero max 0 f)
greatest_of_rising f (suc k) rising =
    omega (arith, fold_to-suc max 0 (suc k) f, greatest_of_rising f k (λ s h. rising s (omega (arith, h))), rising k (omega arith))

falls_to : (f : ℕ → ℕ) (k : ℕ) → ((s : ℕ) → s < k → f (suc s) ≤ f s) → f k ≤ f 0
falls_to f zero falling = omega arith
falls_to f (suc k) falling = omega (arith, falls_to f k (λ s h. falling s (omega (arith, h))), falling k (omega arith))

pub greatest_of_falling : (f : ℕ → ℕ) (k : ℕ) → ((s : ℕ) → s < k → f (suc s) ≤ f s) → fold_to max 0 (suc k) f ≡ f 0
greatest_of_falling f zero falling = omega (arith, fold_to-suc max 0 0 f, fold_to-zero max 0 f)
greatest_of_falling f (suc k) falling =
    omega (arith, fold_to-suc max 0 (suc k) f, greatest_of_falling f k (λ s h. falling s (omega (arith, h))), falls_to f (suc k) falling)

-- ---- numbers that are carried
small_mod : (n m : ℕ) → n < m → n % m ≡ n
small_mod n m h = ap (λ k. k % m) (let e : n ≡ 0 * m + n = omega arith in e) ∙ mod-mul-add 0 m n h

-- each step adds no more than the most that a step adds
stepped : (m most x a p y : ℕ) → (x + a + p) % m ≡ y → a + p ≤ most → x + most < m → x + a + p ≡ y
stepped m most x a p y is fits room = sym (small_mod (x + a + p) m (omega (arith, fits, room))) ∙ is

next_number : (walk : Walk) (lane k : ℕ) → walk.carried ≡ true
    → (number_before walk lane k + walk.added + packed_value walk.lane_width walk.width walk.words lane k) % 2 ^ walk.lane_width ≡ number_before walk lane (suc k)
next_number walk lane k carried =
    ap (λ (b : Bool). (cond b (number_before walk lane k) 0 + walk.added + packed_value walk.lane_width walk.width walk.words lane k) % 2 ^ walk.lane_width) (sym carried)
    ∙ one_step walk lane k

step_fits : (walk : Walk) (lane k : ℕ) → walk.added + packed_value walk.lane_width walk.width walk.words lane k ≤ walk.added + (2 ^ walk.width - 1)
step_fits walk lane k =
    let below = packed_value-below walk.lane_width walk.width walk.words lane k in omega (arith, below)

-- how far a lane's number can be above that of the first step
risen : (walk : Walk) (lane n most k : ℕ) → walk.carried ≡ true → most ≡ walk.added + (2 ^ walk.width - 1) → number_before walk lane 1 + n * most < 2 ^ walk.lane_width → k ≤ n
    → number_before walk lane (suc k) ≤ number_before walk lane 1 + k * most
risen walk lane n most zero carried is room h = omega arith
risen walk lane n most (suc k) carried is room h =
    let before = risen walk lane n most k carried is room (omega (arith, h)) in
    let more : suc k * most ≡ k * most + most = grind arith in
    let within : suc k * most ≤ n * most = mul-le (suc k) most n most h (omega arith) in
    let fits = subst (λ (x : ℕ). walk.added + packed_value walk.lane_width walk.width walk.words lane (suc k) ≤ x) (sym is) (step_fits walk lane (suc k)) in
    let e = stepped (2 ^ walk.lane_width) most (number_before walk lane (suc k)) walk.added (packed_value walk.lane_width walk.width walk.words lane (suc k)) (number_before walk lane (suc (suc k)))
    (next_number walk lane (suc k) carried) fits (omega (arith, before, more, within, room)) in
    omega (arith, before, more, fits, e)

pub lanes_rise : (walk : Walk) (lane n most k : ℕ) → walk.carried ≡ true → most ≡ walk.added + (2 ^ walk.width - 1) → number_at walk lane 0 + n * most < 2 ^ walk.lane_width → k < n
    → number_at walk lane k ≤ number_at walk lane (k + 1)
lanes_rise walk lane n most k carried is room h =
    let before = risen walk lane n most k carried is room (omega (arith, h)) in
    let more : suc k * most ≡ k * most + most = grind arith in
    let within : suc k * most ≤ n * most = mul-le (suc k) most n most h (omega arith) in
    let fits = subst (λ (x : ℕ). walk.added + packed_value walk.lane_width walk.width walk.words lane (suc k) ≤ x) (sym is) (step_fits walk lane (suc k)) in
    let e = stepped (2 ^ walk.lane_width) most (number_before walk lane (suc k)) walk.added (packed_value walk.lane_width walk.width walk.words lane (suc k)) (number_before walk lane (suc (suc k)))
    (next_number walk lane (suc k) carried) fits (omega (arith, before, more, within, room)) in
    let here : number_at walk lane k ≡ number_before walk lane (suc k) = ap (number_before walk lane) (let i : k + 1 ≡ suc k = omega arith in i) in
    let there : number_at walk lane (k + 1) ≡ number_before walk lane (suc (suc k)) = ap (number_before walk lane) (let i : k + 1 + 1 ≡ suc (suc k) = omega arith in i) in
    omega (arith, here, there, e)

-- ---- the greatest of a lane over all its rows
pub lane_of_rising : (walk : Walk) (rows : List Bool) (flipped : Bool) (t lane n : ℕ) → ((s : ℕ) → s < n → number_at walk lane s ≤ number_at walk lane (s + 1))
    → ((s : ℕ) → s < suc n → has rows (row_at t lane s) ≡ true)
    → turned t flipped (number_at walk lane (cond flipped 0 n)) ≡ fold_to max 0 (suc n) (λ s. cond (has rows (row_at t lane s)) (turned t flipped (number_at walk lane s)) 0)
lane_of_rising walk rows flipped t lane n rising all =
    sym (by_turn flipped)
    ∙ sym (fold_to-same max 0 (suc n) (λ s. cond (has rows (row_at t lane s)) (turned t flipped (number_at walk lane s)) 0) (λ s. turned t flipped (number_at walk lane s))
    (λ s h. ap (λ (b : Bool). cond b (turned t flipped (number_at walk lane s)) 0) (all s h)))
  where
    next : (s : ℕ) → s < n → number_at walk lane s ≤ number_at walk lane (suc s)
    next s h = subst (λ (k : ℕ). number_at walk lane s ≤ number_at walk lane k) (let e : s + 1 ≡ suc s = omega arith in e) (rising s h)

    by_turn : (f : Bool) → fold_to max 0 (suc n) (λ s. turned t f (number_at walk lane s)) ≡ turned t f (number_at walk lane (cond f 0 n))
    by_turn true = greatest_of_falling (λ s. 2 ^ t - 1 - number_at walk lane s) n (λ s h. omega (arith, next s h))
    by_turn false = greatest_of_rising (λ s. number_at walk lane s) n next
