-- Bits of lanes, and of words that hold the bits of several lanes.
use Rattle.std.proofs.Common.{true, false, ◌≡◌, ℕ, ◌+◌, ◌-◌, ◌*◌, ◌^◌, ◌%◌, ◌<◌, ◌≤◌, ◌&&◌, nat_le, ◌⊎◌, inl, inr, List, get_or, sym, ap, ◌∙◌, arith}
use Rattle.std.specs.Int.{bit_at}
use Rattle.std.proofs.Math.Nat.{mod-eq_of_lt, add-mod-mod, add-mod_left}
use Rattle.std.proofs.lemmas.Bool.{cases_lt}
use Rattle.std.proofs.lemmas.Bool.Decides.{nat_tests}
use Rattle.std.proofs.lemmas.Nat.Bits.{bit_at_cat_low, bit_at_cat_high}
use Rattle.transpose_order.specs.Place.{lane_of}

-- a word's bits are those of its lowest lane, and above them those of the others
low_lane : (t high low word p : ℕ) → word ≡ high * 2 ^ t + low → p < t → bit_at word p ≡ bit_at low p
low_lane t high low word p is h = ap (λ w. bit_at w p) is ∙ bit_at_cat_low high t low p h

high_lane : (t high low word p : ℕ) → word ≡ high * 2 ^ t + low → low < 2 ^ t → t ≤ p → bit_at word p ≡ bit_at high (p - t)
high_lane t high low word p is fits h = ap (λ w. bit_at w p) is ∙ bit_at_cat_high high t low p fits h

at_lane : (bits : List ℕ) (lane other r p : ℕ) → lane ≡ other → r ≡ p → bit_at (get_or bits lane 0) r ≡ bit_at (get_or bits other 0) p
at_lane bits lane other r p l e = ap (λ (k : ℕ). bit_at (get_or bits k 0) r) l ∙ ap (λ k. bit_at (get_or bits other 0) k) e

-- the four lanes of 16 bits of word j
pub bits_of_four_lanes : (bits : List ℕ) (j three two word p : ℕ) → get_or bits (16 + j) 0 < 2 ^ 16 → get_or bits (32 + j) 0 < 2 ^ 16 → get_or bits j 0 < 2 ^ 16
    → three ≡ get_or bits (48 + j) 0 * 2 ^ 16 + get_or bits (16 + j) 0 → two ≡ three * 2 ^ 16 + get_or bits (32 + j) 0 → word ≡ two * 2 ^ 16 + get_or bits j 0
    → j < 16 → p < 64 → bit_at word p ≡ bit_at (get_or bits (lane_of 16 (64 * j + p)) 0) (p % 16)
bits_of_four_lanes bits j three two word p fits2 fits1 fits0 is3 is2 is h l = by_lane (cases_lt p 16) (cases_lt p 32) (cases_lt p 48)
  where
    by_lane : (p < 16) ⊎ (16 ≤ p) → (p < 32) ⊎ (32 ≤ p) → (p < 48) ⊎ (48 ≤ p) → bit_at word p ≡ bit_at (get_or bits (lane_of 16 (64 * j + p)) 0) (p % 16)
    by_lane (inl a) _ _ =
        low_lane 16 two (get_or bits j 0) word p is a ∙ at_lane bits j (lane_of 16 (64 * j + p)) p (p % 16) (omega arith) (omega arith)
    by_lane (inr a) (inl b) _ =
        high_lane 16 two (get_or bits j 0) word p is fits0 a ∙ low_lane 16 three (get_or bits (32 + j) 0) two (p - 16) is2 (omega arith)
        ∙ at_lane bits (32 + j) (lane_of 16 (64 * j + p)) (p - 16) (p % 16) (omega arith) (omega arith)
    by_lane (inr a) (inr b) (inl c) =
        high_lane 16 two (get_or bits j 0) word p is fits0 a ∙ high_lane 16 three (get_or bits (32 + j) 0) two (p - 16) is2 fits1 (omega arith)
        ∙ low_lane 16 (get_or bits (48 + j) 0) (get_or bits (16 + j) 0) three (p - 16 - 16) is3 (omega arith)
        ∙ at_lane bits (16 + j) (lane_of 16 (64 * j + p)) (p - 16 - 16) (p % 16) (omega arith) (omega arith)
    by_lane (inr a) (inr b) (inr c) =
        high_lane 16 two (get_or bits j 0) word p is fits0 a ∙ high_lane 16 three (get_or bits (32 + j) 0) two (p - 16) is2 fits1 (omega arith)
        ∙ high_lane 16 (get_or bits (48 + j) 0) (get_or bits (16 + j) 0) three (p - 16 - 16) is3 fits2 (omega arith)
        ∙ at_lane bits (48 + j) (lane_of 16 (64 * j + p)) (p - 16 - 16 - 16) (p % 16) (omega arith) (omega arith)

-- the two lanes of 32 bits of word j
pub bits_of_two_lanes : (bits : List ℕ) (j word p : ℕ) → get_or bits j 0 < 2 ^ 32 → word ≡ get_or bits (16 + j) 0 * 2 ^ 32 + get_or bits j 0 → j < 16 → p < 64 → bit_at word p ≡ bit_at (get_or bits (lane_of 32 (64 * j + p)) 0) (p % 32)
bits_of_two_lanes bits j word p fits is h l = by_lane (cases_lt p 32)
  where
    by_lane : (p < 32) ⊎ (32 ≤ p) → bit_at word p ≡ bit_at (get_or bits (lane_of 32 (64 * j + p)) 0) (p % 32)
    by_lane (inl a) =
        low_lane 32 (get_or bits (16 + j) 0) (get_or bits j 0) word p is a ∙ at_lane bits j (lane_of 32 (64 * j + p)) p (p % 32) (omega arith) (omega arith)
    by_lane (inr a) =
        high_lane 32 (get_or bits (16 + j) 0) (get_or bits j 0) word p is fits a
        ∙ at_lane bits (16 + j) (lane_of 32 (64 * j + p)) (p - 32) (p % 32) (omega arith) (omega arith)

-- ---- a number is in a range exactly where its distance from the first, modulo all of the lane's numbers, is at most the last's
distance_below : (m n first : ℕ) → n < first → first < m → (n + (m - first) % m) % m ≡ m - first + n
distance_below m n first h l =
    let order : n + (m - first) ≡ m - first + n = omega arith in
    add-mod-mod n (m - first) m ∙ ap (λ (k : ℕ). k % m) order ∙ mod-eq_of_lt (omega arith)

distance_from : (m n first : ℕ) → first ≤ n → n < m → (n + (m - first) % m) % m ≡ n - first
distance_from m n first h l =
    let past : n + (m - first) ≡ m + (n - first) = omega arith in
    add-mod-mod n (m - first) m ∙ ap (λ (k : ℕ). k % m) past ∙ add-mod_left m (n - first) ∙ mod-eq_of_lt (omega arith)

pub shifted : (m n first last : ℕ) → n < m → last < m → first ≤ last → nat_le ((n + (m - first) % m) % m) (last - first) ≡ (nat_le first n && nat_le n last)
shifted m n first last h l order = by_place (cases_lt n first) (cases_lt last n)
  where
    by_place : (n < first) ⊎ (first ≤ n) → (last < n) ⊎ (n ≤ last) → nat_le ((n + (m - first) % m) % m) (last - first) ≡ (nat_le first n && nat_le n last)
    by_place (inl a) _ =
        let far : nat_le (m - first + n) (last - first) ≡ false = grind (arith, nat_tests) in
        let out : nat_le first n ≡ false = grind (arith, nat_tests) in
        ap (λ x. nat_le x (last - first)) (distance_below m n first a (omega arith)) ∙ far ∙ sym (ap (λ b. b && nat_le n last) out)
    by_place (inr a) (inl b) =
        let far : nat_le (n - first) (last - first) ≡ false = grind (arith, nat_tests) in
        let into : nat_le first n ≡ true = grind (arith, nat_tests) in
        let out : nat_le n last ≡ false = grind (arith, nat_tests) in
        ap (λ x. nat_le x (last - first)) (distance_from m n first a h) ∙ far ∙ sym (ap (λ b. b && nat_le n last) into ∙ out)
    by_place (inr a) (inr b) =
        let near : nat_le (n - first) (last - first) ≡ true = grind (arith, nat_tests) in
        let into : nat_le first n ≡ true = grind (arith, nat_tests) in
        let up : nat_le n last ≡ true = grind (arith, nat_tests) in
        ap (λ x. nat_le x (last - first)) (distance_from m n first a h) ∙ near ∙ sym (ap (λ b. b && nat_le n last) into ∙ up)

-- where none or all of the numbers are in the range
pub none_within : (n first last : ℕ) → last < first → (nat_le first n && nat_le n last) ≡ false
none_within n first last h = by_place (cases_lt n first)
  where
    by_place : (n < first) ⊎ (first ≤ n) → (nat_le first n && nat_le n last) ≡ false
    by_place (inl a) =
        let out : nat_le first n ≡ false = grind (arith, nat_tests) in
        ap (λ b. b && nat_le n last) out
    by_place (inr a) =
        let into : nat_le first n ≡ true = grind (arith, nat_tests) in
        let out : nat_le n last ≡ false = grind (arith, nat_tests) in
        ap (λ b. b && nat_le n last) into ∙ out

pub each_within : (n first last top : ℕ) → first ≡ 0 → last ≡ top → n ≤ top → (nat_le first n && nat_le n last) ≡ true
each_within n first last top e d h =
    let into : nat_le first n ≡ true = grind (arith, nat_tests) in
    let up : nat_le n last ≡ true = grind (arith, nat_tests) in
    ap (λ b. b && nat_le n last) into ∙ up
