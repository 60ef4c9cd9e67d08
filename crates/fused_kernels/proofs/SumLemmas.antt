-- The sum of the values of the rows looked at is the sum of the pieces' sums.
use Rattle.std.proofs.Common.{◌≡◌, ℕ, zero, suc, ◌+◌, ◌*◌, ◌/◌, ◌%◌, ◌^◌, ◌<◌, Bool, true, false, cond, ℤ, pos, ◌+ℤ◌, List, [], ◌∷◌, ◌++◌, map, Option, Some, None, count_by, FitsSigned, refl, sym, ap, ◌∙◌, arith}
use Rattle.std.specs.Int.{w64}
use Rattle.std.specs.List.{range_with_len}
use Rattle.std.proofs.lemmas.Int.{ints}
use Rattle.std.proofs.lemmas.List.Elements.{filter_map-append}
use Rattle.std.proofs.lemmas.List.FromFn.{map-range_with_len_more}
use Rattle.table_model.specs.Values.{present, total}
use Rattle.table_model.proofs.Appended.{total-append}
use Rattle.transpose_order.specs.Mask.{rows_of, has, count_below}
use Rattle.transpose_order.proofs.MaskLemmas.{count_below-zero, count_below-suc, count_by-rows_of}
use Rattle.transpose_order.specs.MaskWords.{has-rows_of}
use Rattle.transpose_order.specs.Place.{IsLaneWidth, place_of}
use Rattle.bit_interleave.specs.Range.{value_at}
use Rattle.native_lanes.specs.Folds.{fold_to}
use Rattle.fused_kernels.specs.Seen.{LanesSeen, looked_at, looked_cell, values_looked_at}
use Rattle.native_lanes.proofs.FoldLemmas.{IsJoin, fold_to-zero, fold_to-suc, fold_to-same, fold_to-pieces}

pub sum_is_join : IsJoin ◌+ℤ◌ (pos 0)
sum_is_join = record { unit = λ x. omega (arith, ints); assoc = λ x y z. omega (arith, ints); comm = λ x y. omega (arith, ints) }

-- one more row
pub present-more : (f : ℕ → Option ℤ) (n : ℕ) → present (map f (range_with_len 0 (suc n))) ≡ present (map f (range_with_len 0 n)) ++ present (f n ∷ [])
present-more f n =
    ap (λ k. present (map f (range_with_len 0 k))) (let e : suc n ≡ n + 1 = omega arith in e)
    ∙ ap present (map-range_with_len_more f 0 n n (omega arith))
    ∙ filter_map-append (λ x. x) (map f (range_with_len 0 n)) (f n ∷ [])

-- the value, else 0
abbrev pub term_of : Option ℤ → ℤ
term_of None = pos 0
term_of (Some z) = z

total_of_one : (o : Option ℤ) → total (present (o ∷ [])) ≡ term_of o
total_of_one None = refl
total_of_one (Some z) = omega (arith, ints)

total-cells : (f : ℕ → Option ℤ) (n : ℕ) → total (present (map f (range_with_len 0 n))) ≡ fold_to ◌+ℤ◌ (pos 0) n (λ k. term_of (f k))
total-cells f zero = sym (fold_to-zero ◌+ℤ◌ (pos 0) (λ k. term_of (f k)))
total-cells f (suc n) =
    ap total (present-more f n) ∙ total-append (present (map f (range_with_len 0 n))) (present (f n ∷ []))
    ∙ ap (λ z. z +ℤ total (present (f n ∷ []))) (total-cells f n) ∙ ap (λ z. fold_to ◌+ℤ◌ (pos 0) n (λ k. term_of (f k)) +ℤ z) (total_of_one (f n))
    ∙ sym (fold_to-suc ◌+ℤ◌ (pos 0) n (λ k. term_of (f k)))

pub total-looked_at : (s : LanesSeen) (mask : List Bool) → total (values_looked_at s mask) ≡ fold_to ◌+ℤ◌ (pos 0) 1024 (λ n. term_of (looked_cell s mask n))
unfolding values_looked_at rows_of
total-looked_at s mask = total-cells (looked_cell s mask) 1024

-- ---- raised values, and their halves
raised_term : (b : Bool) (x z v : ℤ) (n : ℕ) → x ≡ z +ℤ pos (2 ^ 63 * n) → x +ℤ cond b (v +ℤ pos (2 ^ 63)) (pos 0) ≡ (z +ℤ cond b v (pos 0)) +ℤ pos (2 ^ 63 * (n + cond b 1 0))
raised_term true x z v n e = omega (arith, ints, e)
raised_term false x z v n e = omega (arith, ints, e)

pub raised_sum : (b : ℕ → Bool) (v : ℕ → ℤ) (k : ℕ) → fold_to ◌+ℤ◌ (pos 0) k (λ n. cond (b n) (v n +ℤ pos (2 ^ 63)) (pos 0)) ≡ fold_to ◌+ℤ◌ (pos 0) k (λ n. cond (b n) (v n) (pos 0)) +ℤ pos (2 ^ 63 * count_below b k)
raised_sum b v zero =
    fold_to-zero ◌+ℤ◌ (pos 0) (λ n. cond (b n) (v n +ℤ pos (2 ^ 63)) (pos 0))
    ∙ sym (ap (λ z. z +ℤ pos (2 ^ 63 * count_below b 0)) (fold_to-zero ◌+ℤ◌ (pos 0) (λ n. cond (b n) (v n) (pos 0))) ∙ ap (λ n. pos 0 +ℤ pos (2 ^ 63 * n)) (count_below-zero b) ∙ omega (arith, ints))
raised_sum b v (suc k) =
    let f : ℕ → ℤ = λ n. cond (b n) (v n +ℤ pos (2 ^ 63)) (pos 0) in
    let g : ℕ → ℤ = λ n. cond (b n) (v n) (pos 0) in
    fold_to-suc ◌+ℤ◌ (pos 0) k f
    ∙ raised_term (b k) (fold_to ◌+ℤ◌ (pos 0) k f) (fold_to ◌+ℤ◌ (pos 0) k g) (v k) (count_below b k) (raised_sum b v k)
    ∙ ap (λ z. z +ℤ pos (2 ^ 63 * (count_below b k + cond (b k) 1 0))) (sym (fold_to-suc ◌+ℤ◌ (pos 0) k g))
    ∙ ap (λ n. fold_to ◌+ℤ◌ (pos 0) (suc k) g +ℤ pos (2 ^ 63 * n)) (sym (count_below-suc b k))

pub sum_of_halves : (low high : ℕ → ℕ) (k : ℕ) → pos (fold_to ◌+◌ 0 k low + 2 ^ 32 * fold_to ◌+◌ 0 k high) ≡ fold_to ◌+ℤ◌ (pos 0) k (λ i. pos (low i + 2 ^ 32 * high i))
sum_of_halves low high zero =
    ap pos (let l = fold_to-zero ◌+◌ 0 low in let h = fold_to-zero ◌+◌ 0 high in omega (arith, l, h)) ∙ sym (fold_to-zero ◌+ℤ◌ (pos 0) (λ i. pos (low i + 2 ^ 32 * high i)))
sum_of_halves low high (suc k) =
    let l = fold_to-suc ◌+◌ 0 k low in
    let h = fold_to-suc ◌+◌ 0 k high in
    let parts : fold_to ◌+◌ 0 (suc k) low + 2 ^ 32 * fold_to ◌+◌ 0 (suc k) high ≡ fold_to ◌+◌ 0 k low + 2 ^ 32 * fold_to ◌+◌ 0 k high + (low k + 2 ^ 32 * high k) = omega (arith, l, h) in
    ap pos parts ∙ ap (λ z. z +ℤ pos (low k + 2 ^ 32 * high k)) (sum_of_halves low high k) ∙ sym (fold_to-suc ◌+ℤ◌ (pos 0) k (λ i. pos (low i + 2 ^ 32 * high i)))

-- a number is its two halves
pub halves : (n : ℕ) → n < 2 ^ 64 → n / 2 ^ 0 % 2 ^ 32 + 2 ^ 32 * (n / 2 ^ 32 % 2 ^ 32) ≡ n
halves n h = omega arith

pub raised_fits : (b : Bool) (v : ℤ) (n : ℕ) → FitsSigned w64 v → pos n ≡ cond b (v +ℤ pos (2 ^ 63)) (pos 0) → n < 2 ^ 64
raised_fits true v n fits e = omega (arith, ints, e)
raised_fits false v n fits e = omega (arith, ints, e)

pub term_of_cell : (b : Bool) (v : ℤ) → term_of (cond b (Some v) None) ≡ cond b v (pos 0)
term_of_cell true v = refl
term_of_cell false v = refl

-- what the lanes' halves come to
pub sum_by_lanes : (s : LanesSeen) (mask rows : List Bool) (t count : ℕ) (low high : ℕ → ℕ) → IsLaneWidth t → rows ≡ rows_of (looked_at s mask) → count ≡ count_by (λ row. row) rows
    → ((i : ℕ) → i < 16 → pos (low i + 2 ^ 32 * high i) ≡ fold_to ◌+ℤ◌ (pos 0) 64 (λ q. cond (has rows (64 * i + place_of t q)) (value_at s.values (64 * i + place_of t q) +ℤ pos (2 ^ 63)) (pos 0)))
    → pos (fold_to ◌+◌ 0 16 low + 2 ^ 32 * fold_to ◌+◌ 0 16 high) ≡ total (values_looked_at s mask) +ℤ pos (2 ^ 63 * count)
sum_by_lanes s mask rows t count low high width is counted sums =
    let look = looked_at s mask in
    let f : ℕ → ℤ = λ n. cond (has rows n) (value_at s.values n +ℤ pos (2 ^ 63)) (pos 0) in
    let g : ℕ → ℤ = λ n. cond (look n) (value_at s.values n +ℤ pos (2 ^ 63)) (pos 0) in
    let seen : (n : ℕ) → n < 1024 → has rows n ≡ look n = (λ n h. ap (λ m. has m n) is ∙ has-rows_of look n h) in
    let number : count_below look 1024 ≡ count = sym (counted ∙ ap (count_by (λ row. row)) is ∙ count_by-rows_of look) in
    sum_of_halves low high 16
    ∙ fold_to-same ◌+ℤ◌ (pos 0) 16 (λ i. pos (low i + 2 ^ 32 * high i)) (λ i. fold_to ◌+ℤ◌ (pos 0) 64 (λ q. f (64 * i + place_of t q))) sums
    ∙ fold_to-pieces ◌+ℤ◌ (pos 0) sum_is_join t f width
    ∙ fold_to-same ◌+ℤ◌ (pos 0) 1024 f g (λ n h. ap (λ b. cond b (value_at s.values n +ℤ pos (2 ^ 63)) (pos 0)) (seen n h))
    ∙ raised_sum look (value_at s.values) 1024
    ∙ ap (λ z. z +ℤ pos (2 ^ 63 * count_below look 1024)) (fold_to-same ◌+ℤ◌ (pos 0) 1024 (λ n. cond (look n) (value_at s.values n) (pos 0)) (λ n. term_of (looked_cell s mask n)) (λ n _. sym (term_of_cell (look n) (value_at s.values n))) ∙ sym (total-looked_at s mask))
    ∙ ap (λ n. total (values_looked_at s mask) +ℤ pos (2 ^ 63 * n)) number
