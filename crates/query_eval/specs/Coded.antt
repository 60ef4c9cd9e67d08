-- What columns give of a vector as it is coded: its runs, or a code for each row.
use Rattle.std.specs.Prelude.{◌≡◌, ℕ, suc, ◌==◌, ◌<◌, ◌≤◌, Bool, not, ◌&&◌, List, cond, slice_index_or, Option, Some, None, ℤ, pos, ◌<ℤ◌}
use Rattle.std.specs.List.{list_any}
use Rattle.std.specs.Ordering.{int_eq}
use Rattle.transpose_order.specs.Mask.{count_below, has}
use Rattle.query_eval.specs.Vector.{Vector, cell_at}

-- the run of row n: how many runs start at rows 1 to n
abbrev pub run_at : List Bool → ℕ → ℕ
run_at starts n = count_below (λ i. has starts (suc i)) n

-- the rows where runs start after row 0, and the values of the runs in order: each row with a value has that of its run
pub record AreRuns (v : Vector) (column : ℕ) (starts : List Bool) (values : List ℤ) : Type 0 where
  pub within : (n : ℕ) → n < 1024 → run_at starts n < 1024
  pub value : (n : ℕ) (z : ℤ) → n < 1024 → cell_at v column n ≡ Some z → slice_index_or values (run_at starts n) (pos 0) ≡ z

-- the cell that a code represents: the code at the count is that of null, and each below it that of a value
abbrev pub cell_of_code : ℕ → List ℤ → ℕ → Option ℤ
cell_of_code count keys code = cond (code == count) None (Some (slice_index_or keys code (pos 0)))

-- a code for each row, of which one at the count represents null, and each below it one of the keys, which rise
pub record AreCodes (v : Vector) (column count : ℕ) (codes : List ℕ) (keys : List ℤ) : Type 0 where
  pub few : count ≤ 1024
  pub within : (n : ℕ) → n < 1024 → slice_index_or codes n 0 ≤ count
  pub cell : (n : ℕ) → n < 1024 → cell_of_code count keys (slice_index_or codes n 0) ≡ cell_at v column n
  pub rises : (i j : ℕ) → i < j → j < count → slice_index_or keys i (pos 0) <ℤ slice_index_or keys j (pos 0)

-- whether a code represents one of some literals
abbrev pub is_code_among : ℕ → List ℤ → List ℤ → ℕ → Bool
is_code_among count keys literals code = not (code == count) && list_any (int_eq (slice_index_or keys code (pos 0))) literals
