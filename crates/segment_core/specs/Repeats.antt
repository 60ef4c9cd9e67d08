-- What makes 1024 values the filled vector of some of them: rows that repeat the row before.
use Rattle.std.specs.Prelude.{◌≡◌, ℕ, ◌+◌, ◌-◌, ◌*◌, ◌<◌, Bool, true, ℤ, pos, List, slice_index}
use Rattle.std.specs.Int.{bit_at}
use Rattle.transpose_order.specs.Mask.{has}
use Rattle.bit_interleave.specs.Range.{value_at}
use Rattle.bit_interleave.specs.Places.{by_place}

-- each row after row 0 that a mask has repeats the value of the row before, and if no row has a value the first is 0
pub record Repeats (rows : List Bool) (valueless : Bool) (values : List ℤ) : Type 0 where
  pub each : (n : ℕ) → 0 < n → n < 1024 → has rows n ≡ true → value_at values n ≡ value_at values (n - 1)
  pub zero : valueless ≡ true → value_at values 0 ≡ pos 0

-- each row after row 0 that a mask has repeats the number of the row before, of numbers by places
abbrev pub RepeatByPlace : List Bool → List ℕ → Type 0
RepeatByPlace rows numbers =
    (n : ℕ) → 0 < n → n < 1024 → has rows n ≡ true → by_place numbers n ≡ by_place numbers (n - 1)

-- the row at a place, from 1 to 63, of word j repeats the number of the place before, if the word has the row
abbrev pub RepeatsAt : List ℕ → List ℕ → ℕ → ℕ → Type 0
RepeatsAt words numbers place j =
    bit_at (slice_index words j) place ≡ 1 → slice_index numbers (16 * place + j) ≡ slice_index numbers (16 * (place - 1) + j)

-- the row at place 0 of word j, from 1 to 15, repeats the number of the last place of the word before, if the word has the row
abbrev pub RepeatsFirst : List ℕ → List ℕ → ℕ → Type 0
RepeatsFirst words numbers j =
    bit_at (slice_index words j) 0 ≡ 1 → slice_index numbers j ≡ slice_index numbers (1007 + j)
