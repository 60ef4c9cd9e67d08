-- The runs of a vector, and codes of its rows.
use Rattle.std.specs.Prelude.{◌≡◌, ℕ, ◌^◌, ◌<◌, ◌≤◌, Bool, true, false, ℤ, ◌<ℤ◌, List, length, slice_index}
use Rattle.transpose_order.specs.Mask.{has}
use Rattle.bit_interleave.specs.Range.{value_at}
use Rattle.run_dictionary.specs.Runs.{run_of}
use Rattle.segment_core.specs.Coded.{value_in}
use Rattle.segment_core.specs.CodedVector.{VectorForm, is_null}
use Rattle.segment_core.specs.declared.coded.Coded.{Coded}
use Rattle.segment_core.specs.declared.coded.Coded.TheVariants.{For, Delta, Runs, Dict}

-- the rows where runs start after row 0, and the values of the runs in order: each row has the value of its run
pub record AreRowRuns (v : VectorForm) (starts : List Bool) (values : List ℤ) : Type 0 where
  pub long : length starts ≡ 1024
  pub first : has starts 0 ≡ false
  pub within : (n : ℕ) → n < 1024 → run_of starts n < 1024
  pub value : (n : ℕ) → n < 1024 → value_at values (run_of starts n) ≡ value_in v.coded n

-- a code for each row below a count, and that many keys, which rise: each row has the key of its code
pub record AreCodes (c : Coded) (count : ℕ) (codes : List ℕ) (keys : List ℤ) : Type 0 where
  pub few : count ≤ 1024
  pub within : (n : ℕ) → n < 1024 → slice_index codes n < count
  pub key : (n : ℕ) → n < 1024 → value_at keys (slice_index codes n) ≡ value_in c n
  pub rises : (i j : ℕ) → i < j → j < count → value_at keys i <ℤ value_at keys j

-- how many codes a coding has: as many as numbers of a frame's width, or as values of a dictionary; none in another coding
abbrev pub code_count : Coded → ℕ
code_count (For form) = 2 ^ form.width
code_count (Dict form) = length form.values
code_count (Delta form) = 0
code_count (Runs form) = 0

-- the same of a vector, of which a null row has the count itself as its code
pub record AreRowCodes (v : VectorForm) (count : ℕ) (codes : List ℕ) (keys : List ℤ) : Type 0 where
  pub few : count ≤ 1024
  pub nulls : (n : ℕ) → n < 1024 → is_null v.nulls n ≡ true → slice_index codes n ≡ count
  pub within : (n : ℕ) → n < 1024 → is_null v.nulls n ≡ false → slice_index codes n < count
  pub key : (n : ℕ) → n < 1024 → is_null v.nulls n ≡ false → value_at keys (slice_index codes n) ≡ value_in v.coded n
  pub rises : (i j : ℕ) → i < j → j < count → value_at keys i <ℤ value_at keys j
