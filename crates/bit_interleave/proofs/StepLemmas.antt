-- A value that lies within one word is a shift and a mask; one that goes on into the next is the two parts joined.
use Rattle.std.proofs.Common.{◌≡◌, ℕ, ◌+◌, ◌-◌, ◌*◌, ◌/◌, ◌%◌, ◌^◌, ◌<◌, ◌≤◌, ◌⊎◌, inl, inr, List, map, length, get_or, replicate, max, bit_or, sym, ap, ◌∙◌, subst, arith}
use Rattle.std.specs.Int.{bit_at}
use Rattle.std.proofs.lemmas.Nat.{div-mul-add, mod-mul-add, div-add-mod', mod_below, pow_pos, row_fits}
use Rattle.std.proofs.lemmas.Nat.Bits.{bit_at_or, bit_at_above, bit_at-lt, same_from_bits_below}
use Rattle.std.proofs.lemmas.Bool.{cases_lt}
use Rattle.std.specs.Simd.Lanes.{zip2, Each1}
use Rattle.std.proofs.lemmas.Simd.{Each1-get_or}
use Rattle.transpose_order.specs.Place.{IsLaneWidth}
use Rattle.transpose_order.specs.Mask.{number_of_bits}
use Rattle.transpose_order.proofs.WidthLemmas.{at_widths}
use Rattle.transpose_order.specs.MaskWords.{number_of_bits_is, number_of_bits-below, number_of_bits-zero}
use Rattle.transpose_order.proofs.BitLemmas.{bit_at-shr, bit_at-mod}
use Rattle.bit_interleave.specs.Packing.{sixteen_of, lane_bit, packed_value}
use Rattle.bit_interleave.proofs.SixteenLemmas.{length-sixteen_of, get_or-sixteen_of, sixteen_of-like, Each1-sixteen_of, map-sixteen_of, zip2-sixteen_of, replicate_is_sixteen_of}
use Rattle.bit_interleave.proofs.BitLemmas.{bit_at-shl_low, bit_at-shl_high}

-- bit r of word k of a lane
pub lane_bit_at : (t : ℕ) (words : List ℕ) (lane b k r : ℕ) → r < t → b ≡ k * t + r → lane_bit t words lane b ≡ bit_at (get_or words (k * (1024 / t) + lane) 0) r
unfolding lane_bit
lane_bit_at t words lane b k r h e =
    ap (λ q. bit_at (get_or words (q * (1024 / t) + lane) 0) (b % t)) (ap (λ n. n / t) e ∙ div-mul-add k t r h)
    ∙ ap (λ q. bit_at (get_or words (k * (1024 / t) + lane) 0) q) (ap (λ n. n % t) e ∙ mod-mul-add k t r h)

-- a packed value has its width's bits
pub packed_value-below : (t w : ℕ) (words : List ℕ) (lane step : ℕ) → packed_value t w words lane step < 2 ^ w
unfolding packed_value lane_bit
packed_value-below t w words lane step =
    number_of_bits-below w (λ c. lane_bit t words lane (step * w + c)) (λ c _. bit_at-lt (get_or words ((step * w + c) / t * (1024 / t) + lane) 0) ((step * w + c) % t))

-- the value within one word
pub within_one_word : (t w : ℕ) (words : List ℕ) (lane step : ℕ) → 0 < t → step * w % t + w ≤ t → get_or words (step * w / t * (1024 / t) + lane) 0 / 2 ^ (step * w % t) % 2 ^ w ≡ packed_value t w words lane step
unfolding packed_value
within_one_word t w words lane step positive h =
    let bit = step * w in
    let x = get_or words (bit / t * (1024 / t) + lane) 0 in
    number_of_bits_is w (x / 2 ^ (bit % t) % 2 ^ w) (λ c. lane_bit t words lane (bit + c)) (mod_below (x / 2 ^ (bit % t)) (2 ^ w) (omega (arith, pow_pos w)))
    (λ c below.
    bit_at-mod (x / 2 ^ (bit % t)) w c below ∙ bit_at-shr x (bit % t) c
    ∙ sym (lane_bit_at t words lane (bit + c) (bit / t) (bit % t + c) (omega arith) (omega (arith, div-add-mod' bit t))))

-- bit c of a value that goes on into the next word
bit_across : (t : ℕ) (words : List ℕ) (lane bit c : ℕ) → t ≤ 64 → bit % t < t → c < t → (get_or words (bit / t * (1024 / t) + lane) 0 < 2 ^ t) → (c < t - bit % t) ⊎ (t - bit % t ≤ c) → max (bit_at (get_or words (bit / t * (1024 / t) + lane) 0 / 2 ^ (bit % t)) c) (bit_at (get_or words (bit / t * (1024 / t) + lane + 1024 / t) 0 * 2 ^ (t - bit % t) % 2 ^ 64) c) ≡ lane_bit t words lane (bit + c)
bit_across t words lane bit c narrow part within fit (inl low) =
    let x = get_or words (bit / t * (1024 / t) + lane) 0 in
    let y = get_or words (bit / t * (1024 / t) + lane + 1024 / t) 0 in
    let first = bit_at-shr x (bit % t) c in
    let second = bit_at-shl_low y (t - bit % t) c low (omega arith) in
    let there = lane_bit_at t words lane (bit + c) (bit / t) (bit % t + c) (omega arith) (omega (arith, div-add-mod' bit t)) in
    rw (first, second, there) (omega arith)
bit_across t words lane bit c narrow part within fit (inr high) =
    let x = get_or words (bit / t * (1024 / t) + lane) 0 in
    let y = get_or words (bit / t * (1024 / t) + lane + 1024 / t) 0 in
    let first = bit_at-shr x (bit % t) c ∙ bit_at_above x t (bit % t + c) fit (omega arith) in
    let second = bit_at-shl_high y (t - bit % t) c high (omega arith) in
    let next : (bit / t + 1) * (1024 / t) + lane ≡ bit / t * (1024 / t) + lane + 1024 / t = omega arith in
    let there = lane_bit_at t words lane (bit + c) (bit / t + 1) (c - (t - bit % t)) (omega arith) (omega (arith, div-add-mod' bit t)) in
    let place = ap (λ i. bit_at (get_or words i 0) (c - (t - bit % t))) next in
    rw (first, second, there, place) (omega arith)

-- the value that goes on into the next word
pub across_two_words : (t w : ℕ) (words : List ℕ) (lane step : ℕ) → 0 < t → t ≤ 64 → w ≤ t → get_or words (step * w / t * (1024 / t) + lane) 0 < 2 ^ t → bit_or (get_or words (step * w / t * (1024 / t) + lane) 0 / 2 ^ (step * w % t)) (get_or words (step * w / t * (1024 / t) + lane + 1024 / t) 0 * 2 ^ (t - step * w % t) % 2 ^ 64) % 2 ^ w ≡ packed_value t w words lane step
unfolding packed_value
across_two_words t w words lane step positive narrow within fit =
    let bit = step * w in
    let x = get_or words (bit / t * (1024 / t) + lane) 0 in
    let y = get_or words (bit / t * (1024 / t) + lane + 1024 / t) 0 in
    let v = bit_or (x / 2 ^ (bit % t)) (y * 2 ^ (t - bit % t) % 2 ^ 64) in
    number_of_bits_is w (v % 2 ^ w) (λ c. lane_bit t words lane (bit + c)) (mod_below v (2 ^ w) (omega (arith, pow_pos w)))
    (λ c below.
    bit_at-mod v w c below ∙ bit_at_or (x / 2 ^ (bit % t)) (y * 2 ^ (t - bit % t) % 2 ^ 64) c
    ∙ bit_across t words lane bit c narrow (mod_below bit t positive) (omega arith) fit (cases_lt c (t - bit % t)))

-- what is cut off at the lane's own bits is cut off at the value's
cut_or : (a z t w : ℕ) → w ≤ t → t ≤ 64 → bit_or a (z % 2 ^ t) % 2 ^ w ≡ bit_or a (z % 2 ^ 64) % 2 ^ w
cut_or a z t w h k =
    same_from_bits_below w (bit_or a (z % 2 ^ t) % 2 ^ w) (bit_or a (z % 2 ^ 64) % 2 ^ w)
    (mod_below (bit_or a (z % 2 ^ t)) (2 ^ w) (omega (arith, pow_pos w))) (mod_below (bit_or a (z % 2 ^ 64)) (2 ^ w) (omega (arith, pow_pos w)))
    (λ c l.
    bit_at-mod (bit_or a (z % 2 ^ t)) w c l ∙ bit_at_or a (z % 2 ^ t) c
    ∙ ap (max (bit_at a c)) (bit_at-mod z t c (omega arith) ∙ sym (bit_at-mod z 64 c (omega arith)))
    ∙ sym (bit_at_or a (z % 2 ^ 64) c) ∙ sym (bit_at-mod (bit_or a (z % 2 ^ 64)) w c l))

-- the same value, made in words of the lane's bits
pub across_native : (t w : ℕ) (words : List ℕ) (lane step : ℕ) → 0 < t → t ≤ 64 → w ≤ t → get_or words (step * w / t * (1024 / t) + lane) 0 < 2 ^ t → bit_or (get_or words (step * w / t * (1024 / t) + lane) 0 / 2 ^ (step * w % t)) (get_or words (step * w / t * (1024 / t) + lane + 1024 / t) 0 * 2 ^ (t - step * w % t) % 2 ^ t) % 2 ^ w ≡ packed_value t w words lane step
across_native t w words lane step positive narrow within fit =
    cut_or (get_or words (step * w / t * (1024 / t) + lane) 0 / 2 ^ (step * w % t)) (get_or words (step * w / t * (1024 / t) + lane + 1024 / t) 0 * 2 ^ (t - step * w % t)) t w within narrow
    ∙ across_two_words t w words lane step positive narrow within fit

-- ---- the sixteen lanes of a group
at_group : (n lanes group i : ℕ) → n * lanes + 16 * group + i ≡ n * lanes + (16 * group + i)
at_group n lanes group i = omega arith

pub step_within : (t w : ℕ) (words : List ℕ) (group step : ℕ) (low result : List ℕ) → 0 < t → step * w % t + w ≤ t → low ≡ sixteen_of (λ i. get_or words (step * w / t * (1024 / t) + 16 * group + i) 0) → result ≡ map (λ x. x / 2 ^ (step * w % t) % 2 ^ w) low → result ≡ sixteen_of (λ i. packed_value t w words (16 * group + i) step)
step_within t w words group step low result positive h loads made =
    made ∙ ap (map (λ x. x / 2 ^ (step * w % t) % 2 ^ w)) loads
    ∙ map-sixteen_of (λ x. x / 2 ^ (step * w % t) % 2 ^ w) (λ i. get_or words (step * w / t * (1024 / t) + 16 * group + i) 0)
    ∙ sixteen_of-like (λ i. get_or words (step * w / t * (1024 / t) + 16 * group + i) 0 / 2 ^ (step * w % t) % 2 ^ w) (λ i. packed_value t w words (16 * group + i) step) 0
    (λ i _. ap (λ n. get_or words n 0 / 2 ^ (step * w % t) % 2 ^ w) (at_group (step * w / t) (1024 / t) group i) ∙ within_one_word t w words (16 * group + i) step positive h)

pub step_across : (t w : ℕ) (words : List ℕ) (group step : ℕ) (low high result : List ℕ) → 0 < t → t ≤ 64 → w ≤ t → low ≡ sixteen_of (λ i. get_or words (step * w / t * (1024 / t) + 16 * group + i) 0) → high ≡ sixteen_of (λ i. get_or words (step * w / t * (1024 / t) + 16 * group + 1024 / t + i) 0) → Each1 (λ n. n < 2 ^ t) low → result ≡ zip2 (λ x y. bit_or (x / 2 ^ (step * w % t)) (y * 2 ^ (t - step * w % t) % 2 ^ t) % 2 ^ w) low high → result ≡ sixteen_of (λ i. packed_value t w words (16 * group + i) step)
step_across t w words group step low high result positive narrow within loads more fit made =
    let f : ℕ → ℕ = λ i. get_or words (step * w / t * (1024 / t) + 16 * group + i) 0 in
    let h : ℕ → ℕ = λ i. get_or words (step * w / t * (1024 / t) + 16 * group + 1024 / t + i) 0 in
    let put : ℕ → ℕ → ℕ = λ x y. bit_or (x / 2 ^ (step * w % t)) (y * 2 ^ (t - step * w % t) % 2 ^ t) % 2 ^ w in
    made ∙ ap (λ xs. zip2 put xs high) loads ∙ ap (zip2 put (sixteen_of f)) more ∙ zip2-sixteen_of put f h
    ∙ sixteen_of-like (λ i. put (f i) (h i)) (λ i. packed_value t w words (16 * group + i) step) 0
    (λ i near.
    let first : f i ≡ get_or words (step * w / t * (1024 / t) + (16 * group + i)) 0 = ap (λ n. get_or words n 0) (at_group (step * w / t) (1024 / t) group i) in
    let next : step * w / t * (1024 / t) + 16 * group + 1024 / t + i ≡ step * w / t * (1024 / t) + (16 * group + i) + 1024 / t = omega arith in
    let second : h i ≡ get_or words (step * w / t * (1024 / t) + (16 * group + i) + 1024 / t) 0 = ap (λ n. get_or words n 0) next in
    let below : f i < 2 ^ t = subst (λ (n : ℕ). n < 2 ^ t) (ap (λ xs. get_or xs i 0) loads ∙ get_or-sixteen_of f i 0 near) (Each1-get_or (λ n. n < 2 ^ t) low i 0 (omega (arith, ap length loads, length-sixteen_of f)) fit) in
    ap (λ x. put x (h i)) first ∙ ap (put (get_or words (step * w / t * (1024 / t) + (16 * group + i)) 0)) second
    ∙ across_native t w words (16 * group + i) step positive narrow within (subst (λ (n : ℕ). n < 2 ^ t) first below))

-- a value's bits lie among its lane's
pub bits_within : (t w step : ℕ) → 0 < w → step < t → (step * w + w ≤ t * w) × (step * w < t * w)
bits_within t w step positive h =
    let all = row_fits step w t w h (omega arith) in
    (all, omega arith)

-- at width 0 each value is 0
pub value_of_nothing : (t w : ℕ) (words : List ℕ) (lane step : ℕ) → w ≡ 0 → 0 ≡ packed_value t w words lane step
unfolding packed_value
value_of_nothing t w words lane step none =
    sym (ap (λ n. number_of_bits n (λ c. lane_bit t words lane (step * w + c))) none ∙ number_of_bits-zero (λ c. lane_bit t words lane (step * w + c)))

pub step_of_nothing : (t w : ℕ) (words : List ℕ) (group step : ℕ) → w ≡ 0 → replicate 16 0 ≡ sixteen_of (λ i. packed_value t w words (16 * group + i) step)
step_of_nothing t w words group step none =
    replicate_is_sixteen_of 0
    ∙ sixteen_of-like (λ _. 0) (λ i. packed_value t w words (16 * group + i) step) 0 (λ i _. value_of_nothing t w words (16 * group + i) step none)

pub step_fits : (t w : ℕ) (words : List ℕ) (group step : ℕ) (result : List ℕ) → result ≡ sixteen_of (λ i. packed_value t w words (16 * group + i) step) → Each1 (λ n. n < 2 ^ w) result
step_fits t w words group step result made =
    subst (λ (xs : List ℕ). Each1 (λ n. n < 2 ^ w) xs) (sym made) (Each1-sixteen_of (λ i. packed_value t w words (16 * group + i) step) (2 ^ w) (λ i _. packed_value-below t w words (16 * group + i) step))

-- the words that a value begins in, and the words after them, are there
pub word_is_there : (t w group bit : ℕ) → IsLaneWidth t → bit < t * w → 16 * group < 1024 / t → bit / t * (1024 / t) + 16 * group + 16 ≤ w * (1024 / t)
word_is_there t w group bit width =
    at_widths (λ t. bit < t * w → 16 * group < 1024 / t → bit / t * (1024 / t) + 16 * group + 16 ≤ w * (1024 / t))
    (λ a b. omega arith) (λ a b. omega arith) (λ a b. omega arith) (λ a b. omega arith) t width

pub next_word_is_there : (t w group bit : ℕ) → IsLaneWidth t → bit + w ≤ t * w → t < bit % t + w → 16 * group < 1024 / t → bit / t * (1024 / t) + 16 * group + 1024 / t + 16 ≤ w * (1024 / t)
next_word_is_there t w group bit width =
    at_widths (λ t. bit + w ≤ t * w → t < bit % t + w → 16 * group < 1024 / t → bit / t * (1024 / t) + 16 * group + 1024 / t + 16 ≤ w * (1024 / t))
    (λ a b c. omega arith) (λ a b c. omega arith) (λ a b c. omega arith) (λ a b c. omega arith) t width

pub word_of_lane_is_there : (t w lane bit : ℕ) → IsLaneWidth t → bit < t * w → lane < 1024 / t → bit / t * (1024 / t) + lane < w * (1024 / t)
word_of_lane_is_there t w lane bit width =
    at_widths (λ t. bit < t * w → lane < 1024 / t → bit / t * (1024 / t) + lane < w * (1024 / t))
    (λ a b. omega arith) (λ a b. omega arith) (λ a b. omega arith) (λ a b. omega arith) t width

pub next_word_of_lane_is_there : (t w lane bit : ℕ) → IsLaneWidth t → bit + w ≤ t * w → t < bit % t + w → lane < 1024 / t → bit / t * (1024 / t) + lane + 1024 / t < w * (1024 / t)
next_word_of_lane_is_there t w lane bit width =
    at_widths (λ t. bit + w ≤ t * w → t < bit % t + w → lane < 1024 / t → bit / t * (1024 / t) + lane + 1024 / t < w * (1024 / t))
    (λ a b c. omega arith) (λ a b c. omega arith) (λ a b c. omega arith) (λ a b c. omega arith) t width

pub positive_width : (t : ℕ) → IsLaneWidth t → 0 < t
positive_width t width = at_widths (λ t. 0 < t) (omega arith) (omega arith) (omega arith) (omega arith) t width

pub narrow_width : (t : ℕ) → IsLaneWidth t → t ≤ 64
narrow_width t width = at_widths (λ t. t ≤ 64) (omega arith) (omega arith) (omega arith) (omega arith) t width
