-- Sums of packed values by the codes of their rows.
use Rattle.std.specs.Prelude.{◌≡◌, ℕ, ◌==◌, ◌<◌, Bool, ◌&&◌, List, slice_index_or, ℤ, pos, ◌+ℤ◌}
use Rattle.transpose_order.specs.Mask.{has, rows_of}
use Rattle.query_eval.specs.Packed.{packed_sum}
use Rattle.query_eval.specs.Slices.{code_limit, values_at}

-- the rows of a mask that have a code
abbrev pub rows_coded : List Bool → List ℕ → ℕ → List Bool
rows_coded rows codes code = rows_of (λ n. has rows n && (slice_index_or codes n 0 == code))

-- two numbers a code are together the packed sum of the values at the rows of a mask that have the code
abbrev pub AreCodeSums : List Bool → List ℕ → List ℤ → List ℤ → List ℤ → Type 0
AreCodeSums rows codes values even odd = (code : ℕ) → code < code_limit → slice_index_or even code (pos 0) +ℤ slice_index_or odd code (pos 0) ≡ packed_sum (values_at (rows_coded rows codes code) values)
