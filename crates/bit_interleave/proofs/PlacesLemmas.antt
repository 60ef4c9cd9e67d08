-- Rows and the indices of numbers by places are one to one; where the row before is, and which rows are the first of their lanes.
use Rattle.std.proofs.Common.{◌≡◌, ◌≢◌, ℕ, suc, ◌+◌, ◌-◌, ◌/◌, ◌%◌, ◌<◌, List, get_or, ap, arith}
use Rattle.transpose_order.specs.Place.{IsLaneWidth}
use Rattle.transpose_order.proofs.WidthLemmas.{at_widths}
use Rattle.bit_interleave.specs.Places.{index_of_row, row_of_index, by_place}

pub index_of_row-below : (n : ℕ) → n < 1024 → index_of_row n < 1024
index_of_row-below n h = omega (arith, h)

pub row_of_index-below : (q : ℕ) → q < 1024 → row_of_index q < 1024
row_of_index-below q h = omega (arith, h)

pub row_of_index-index_of_row : (n : ℕ) → n < 1024 → row_of_index (index_of_row n) ≡ n
row_of_index-index_of_row n h = omega (arith, h)

pub index_of_row-row_of_index : (q : ℕ) → q < 1024 → index_of_row (row_of_index q) ≡ q
index_of_row-row_of_index q h = omega (arith, h)

-- the number at an index is that of its row
pub by_place-row_of_index : (numbers : List ℕ) (q : ℕ) → q < 1024 → by_place numbers (row_of_index q) ≡ get_or numbers q 0
by_place-row_of_index numbers q h = ap (λ k. get_or numbers k 0) (index_of_row-row_of_index q h)

-- the row before is at the place before, sixteen indices back, of all rows but the first of each 64
pub index_of_row_before : (n : ℕ) → n % 64 ≢ 0 → index_of_row n ≡ index_of_row (n - 1) + 16
index_of_row_before n h = omega (arith, h)

-- the row before the first of 64 is at the last place, of the word before
pub index_of_row_before_first : (n : ℕ) → 0 < n → n % 64 ≡ 0 → index_of_row (n - 1) ≡ 1008 + index_of_row n - 1
index_of_row_before_first n some h = omega (arith, some, h)

-- at each place but the first the row before is sixteen indices back
pub row_of_index_before : (q : ℕ) → q < 1024 → 16 < suc q → row_of_index (q - 16) ≡ row_of_index q - 1
row_of_index_before q h later = omega (arith, h, later)

-- a row's step within its lane is its place's
pub step_of_place : (t n : ℕ) → IsLaneWidth t → n < 1024 → index_of_row n / 16 % t ≡ n % t
step_of_place t n width h =
    at_widths (λ t. n < 1024 → index_of_row n / 16 % t ≡ n % t) (λ h. omega (arith, h)) (λ h. omega (arith, h)) (λ h. omega (arith, h)) (λ h. omega (arith, h)) t width h

pub step_of_index : (t q : ℕ) → IsLaneWidth t → q < 1024 → row_of_index q % t ≡ q / 16 % t
step_of_index t q width h =
    at_widths (λ t. q < 1024 → row_of_index q % t ≡ q / 16 % t) (λ h. omega (arith, h)) (λ h. omega (arith, h)) (λ h. omega (arith, h)) (λ h. omega (arith, h)) t width h
