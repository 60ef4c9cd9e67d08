-- Sixteen words shifted and masked at their own type, and then widened.
use Rattle.std.proofs.Common.{◌≡◌, ℕ, ◌+◌, ◌-◌, ◌*◌, ◌/◌, ◌%◌, ◌^◌, ◌<◌, ◌≤◌, List, map, length, get_or, replicate, bit_and, bit_or, Fits, sym, ap, ◌∙◌, arith}
use Rattle.std.specs.Int.{w64}
use Rattle.std.specs.Simd.Lanes.{zip2, chunk, Each1}
use Rattle.std.proofs.Math.Nat.{pow-le-pow_right}
use Rattle.std.proofs.lemmas.Nat.{mod_below, pow_pos}
use Rattle.std.proofs.lemmas.Nat.Bits.{ones_shr}
use Rattle.std.proofs.lemmas.List.{map-id}
use Rattle.std.proofs.lemmas.Simd.{length-zip2, length-chunk, length-replicate, get_or-zip2, get_or-replicate, Each1-from_get_or}
use Rattle.bit_interleave.proofs.BitLemmas.{low_ones}
use Rattle.bit_interleave.proofs.SixteenLemmas.{shifted_lanes, joined_lanes}

-- the ones of a mask are a word
pub ones_fit : (t width : ℕ) → width ≤ t → t ≤ 64 → (2 ^ 64 - 1) / 2 ^ (64 - width) < 2 ^ t
ones_fit t width h narrow =
    let ones : (2 ^ 64 - 1) / 2 ^ (64 - width) ≡ 2 ^ (64 - (64 - width)) - 1 = ones_shr 64 (64 - width) (omega arith) in
    let same : 64 - (64 - width) ≡ width = omega arith in
    let is : (2 ^ 64 - 1) / 2 ^ (64 - width) ≡ 2 ^ width - 1 = ones ∙ ap (λ k. 2 ^ k - 1) same in
    let base : 0 < 2 = omega arith in
    let wide : 2 ^ width ≤ 2 ^ t = pow-le-pow_right base h in
    omega (arith, is, wide, pow_pos width)

-- masked words fit 64 bits
masked_fit : (ys : List ℕ) (width : ℕ) → length ys ≡ 16 → width ≤ 64 → Each1 (Fits w64) (zip2 bit_and ys (replicate 16 ((2 ^ 64 - 1) / 2 ^ (64 - width))))
masked_fit ys width long h =
    let ones = (2 ^ 64 - 1) / 2 ^ (64 - width) in
    Each1-from_get_or (Fits w64) (zip2 bit_and ys (replicate 16 ones)) 0
    (λ i l.
    let near : i < 16 = omega (arith, l, length-zip2 bit_and ys (replicate 16 ones) (long ∙ sym (length-replicate 16 ones)), long) in
    let is : get_or (zip2 bit_and ys (replicate 16 ones)) i 0 ≡ get_or ys i 0 % 2 ^ width =
    get_or-zip2 bit_and ys (replicate 16 ones) i 0 0 0 (omega (arith, long, near)) (omega (arith, length-replicate 16 ones, near))
    ∙ ap (bit_and (get_or ys i 0)) (get_or-replicate 16 i ones 0 near) ∙ low_ones (get_or ys i 0) width h in
    let below : get_or ys i 0 % 2 ^ width < 2 ^ width = mod_below (get_or ys i 0) (2 ^ width) (pow_pos width) in
    let base : 0 < 2 = omega arith in
    let wide : 2 ^ width ≤ 2 ^ 64 = pow-le-pow_right base h in
    let small : get_or (zip2 bit_and ys (replicate 16 ones)) i 0 < 2 ^ 64 = omega (arith, is, below, wide) in
    record { fits = small })

shifted_long : (xs : List ℕ) (f : ℕ → ℕ → ℕ) (shift : ℕ) → length xs ≡ 16 → length (zip2 f xs (replicate 16 shift)) ≡ 16
shifted_long xs f shift long = length-zip2 f xs (replicate 16 shift) (long ∙ sym (length-replicate 16 shift)) ∙ long

-- ---- within a word
pub within_fits : (words : List ℕ) (at shift width : ℕ) → at + 16 ≤ length words → width ≤ 64 → Each1 (Fits w64) (zip2 bit_and (zip2 (λ a b. a / 2 ^ b) (chunk at 16 words) (replicate 16 shift)) (replicate 16 ((2 ^ 64 - 1) / 2 ^ (64 - width))))
within_fits words at shift width room h =
    masked_fit (zip2 (λ a b. a / 2 ^ b) (chunk at 16 words) (replicate 16 shift)) width (shifted_long (chunk at 16 words) (λ a b. a / 2 ^ b) shift (length-chunk at 16 words room)) h

pub within_lanes : (words : List ℕ) (at shift width : ℕ) → at + 16 ≤ length words → width ≤ 64 → zip2 bit_and (zip2 (λ a b. a / 2 ^ b) (chunk at 16 words) (replicate 16 shift)) (replicate 16 ((2 ^ 64 - 1) / 2 ^ (64 - width))) ≡ map (λ x. x / 2 ^ shift % 2 ^ width) (map (λ (n : ℕ). n) (chunk at 16 words))
within_lanes words at shift width room h =
    shifted_lanes (chunk at 16 words) shift width (length-chunk at 16 words room) h
    ∙ ap (map (λ x. x / 2 ^ shift % 2 ^ width)) (sym (map-id (chunk at 16 words)))

pub within_widened : (words : List ℕ) (at shift width : ℕ) → at + 16 ≤ length words → width ≤ 64 → map (λ (n : ℕ). n) (zip2 bit_and (zip2 (λ a b. a / 2 ^ b) (chunk at 16 words) (replicate 16 shift)) (replicate 16 ((2 ^ 64 - 1) / 2 ^ (64 - width)))) ≡ map (λ x. x / 2 ^ shift % 2 ^ width) (map (λ (n : ℕ). n) (chunk at 16 words))
within_widened words at shift width room h =
    map-id (zip2 bit_and (zip2 (λ a b. a / 2 ^ b) (chunk at 16 words) (replicate 16 shift)) (replicate 16 ((2 ^ 64 - 1) / 2 ^ (64 - width)))) ∙ within_lanes words at shift width room h

-- ---- across two words
pub across_fits : (t : ℕ) (words : List ℕ) (at next shift kept width : ℕ) → at + 16 ≤ length words → next + 16 ≤ length words → width ≤ 64 → Each1 (Fits w64) (zip2 bit_and (zip2 bit_or (zip2 (λ a b. a / 2 ^ b) (chunk at 16 words) (replicate 16 shift)) (zip2 (λ a b. a * 2 ^ b % 2 ^ t) (chunk next 16 words) (replicate 16 kept))) (replicate 16 ((2 ^ 64 - 1) / 2 ^ (64 - width))))
across_fits t words at next shift kept width room more h =
    let low = zip2 (λ a b. a / 2 ^ b) (chunk at 16 words) (replicate 16 shift) in
    let high = zip2 (λ a b. a * 2 ^ b % 2 ^ t) (chunk next 16 words) (replicate 16 kept) in
    let first = shifted_long (chunk at 16 words) (λ a b. a / 2 ^ b) shift (length-chunk at 16 words room) in
    let second = shifted_long (chunk next 16 words) (λ a b. a * 2 ^ b % 2 ^ t) kept (length-chunk next 16 words more) in
    masked_fit (zip2 bit_or low high) width (length-zip2 bit_or low high (first ∙ sym second) ∙ first) h

pub across_lanes : (t : ℕ) (words : List ℕ) (at next shift kept width : ℕ) → at + 16 ≤ length words → next + 16 ≤ length words → width ≤ 64 → zip2 bit_and (zip2 bit_or (zip2 (λ a b. a / 2 ^ b) (chunk at 16 words) (replicate 16 shift)) (zip2 (λ a b. a * 2 ^ b % 2 ^ t) (chunk next 16 words) (replicate 16 kept))) (replicate 16 ((2 ^ 64 - 1) / 2 ^ (64 - width))) ≡ zip2 (λ x y. bit_or (x / 2 ^ shift) (y * 2 ^ kept % 2 ^ t) % 2 ^ width) (map (λ (n : ℕ). n) (chunk at 16 words)) (map (λ (n : ℕ). n) (chunk next 16 words))
across_lanes t words at next shift kept width room more h =
    let put : ℕ → ℕ → ℕ = λ x y. bit_or (x / 2 ^ shift) (y * 2 ^ kept % 2 ^ t) % 2 ^ width in
    joined_lanes t (chunk at 16 words) (chunk next 16 words) shift kept width (length-chunk at 16 words room) (length-chunk next 16 words more) h
    ∙ ap (λ xs. zip2 put xs (chunk next 16 words)) (sym (map-id (chunk at 16 words)))
    ∙ ap (zip2 put (map (λ (n : ℕ). n) (chunk at 16 words))) (sym (map-id (chunk next 16 words)))

pub across_widened : (t : ℕ) (words : List ℕ) (at next shift kept width : ℕ) → at + 16 ≤ length words → next + 16 ≤ length words → width ≤ 64 → map (λ (n : ℕ). n) (zip2 bit_and (zip2 bit_or (zip2 (λ a b. a / 2 ^ b) (chunk at 16 words) (replicate 16 shift)) (zip2 (λ a b. a * 2 ^ b % 2 ^ t) (chunk next 16 words) (replicate 16 kept))) (replicate 16 ((2 ^ 64 - 1) / 2 ^ (64 - width)))) ≡ zip2 (λ x y. bit_or (x / 2 ^ shift) (y * 2 ^ kept % 2 ^ t) % 2 ^ width) (map (λ (n : ℕ). n) (chunk at 16 words)) (map (λ (n : ℕ). n) (chunk next 16 words))
across_widened t words at next shift kept width room more h =
    map-id (zip2 bit_and (zip2 bit_or (zip2 (λ a b. a / 2 ^ b) (chunk at 16 words) (replicate 16 shift)) (zip2 (λ a b. a * 2 ^ b % 2 ^ t) (chunk next 16 words) (replicate 16 kept))) (replicate 16 ((2 ^ 64 - 1) / 2 ^ (64 - width))))
    ∙ across_lanes t words at next shift kept width room more h
