-- Values packed with a count: the sum of packed values tells how many there are, and their sum.
use Rattle.std.specs.Prelude.{◌≡◌, ℕ, ◌+◌, ◌^◌, ◌<◌, Bool, cond, List, length, slice_index_or, ℤ, pos, ◌+ℤ◌, ◌-ℤ◌, ◌*ℤ◌, ◌≤ℤ◌, ◌<ℤ◌}
use Rattle.table_model.specs.Values.{total}
use Rattle.transpose_order.specs.Mask.{has}
use Rattle.query_eval.specs.Slices.{values_below}

-- a value that can be packed, so that no packed sum of 1024 of them needs more than 64 bits
abbrev pub IsPackable : ℤ → Type 0
IsPackable value = ((pos 0 -ℤ pos (2 ^ 41)) ≤ℤ value) × (value <ℤ pos (2 ^ 41))

-- each of 1024 values can be packed
abbrev pub ArePackable : List ℤ → Type 0
ArePackable values = (n : ℕ) → n < 1024 → IsPackable (slice_index_or values n (pos 0))

-- a value at a row of a mask is packed as 2048 times itself and 1 more, which counts it; at another row there is 0
abbrev pub packed_at : List Bool → List ℤ → ℕ → ℤ
packed_at rows values n = cond (has rows n) (pos 2048 *ℤ slice_index_or values n (pos 0) +ℤ pos 1) (pos 0)

-- the values at the rows of a mask are packed
abbrev pub ArePacked : List Bool → List ℤ → List ℤ → Type 0
ArePacked rows values packed = (n : ℕ) → n < 1024 → slice_index_or packed n (pos 0) ≡ packed_at rows values n

-- the sum of some values, packed with how many they are
abbrev pub packed_sum : List ℤ → ℤ
packed_sum values = pos 2048 *ℤ total values +ℤ pos (length values)

-- each row has the packed sum of the values at the rows of a mask up to it
abbrev pub AreRunning : List Bool → List ℤ → List ℤ → Type 0
AreRunning rows values running = (n : ℕ) → n < 1024 → slice_index_or running n (pos 0) ≡ packed_sum (values_below (n + 1) rows values)

-- a sum so small that the difference of two needs no more than 64 bits
abbrev pub IsSmallSum : ℤ → Type 0
IsSmallSum sum = ((pos 0 -ℤ pos (2 ^ 62)) ≤ℤ sum) × (sum <ℤ pos (2 ^ 62))

-- each of 1024 sums is so
abbrev pub AreSmallSums : List ℤ → Type 0
AreSmallSums sums = (n : ℕ) → n < 1024 → IsSmallSum (slice_index_or sums n (pos 0))

-- numbers so small that no sum of 1024 of them needs more than 64 bits
abbrev pub AreSummable : List ℤ → Type 0
AreSummable numbers = (n : ℕ) → n < 1024 → ((pos 0 -ℤ pos (2 ^ 52)) ≤ℤ slice_index_or numbers n (pos 0)) × (slice_index_or numbers n (pos 0) <ℤ pos (2 ^ 52))
