-- Slices of a vector: rows with one key, and the place of its group.
use Rattle.std.specs.Prelude.{◌≡◌, ℕ, zero, suc, ◌==◌, ◌+◌, ◌*◌, ◌^◌, ◌<◌, Bool, true, false, not, nat_le, nat_lt, ◌&&◌, ◌||◌, cond, List, [], ◌∷◌, ◌++◌, length, map, slice_index_or, Option, Some, None, ℤ, pos, ◌+ℤ◌}
use Rattle.std.specs.List.{list_any, range_with_len}
use Rattle.query_eval.specs.Entries.{Entries, place_in}
use Rattle.std.specs.Option.{is_some}
use Rattle.std.specs.Ordering.{int_eq}
use Rattle.table_model.specs.Group.{key_of}
use Rattle.table_model.specs.State.{Cells, same_cells}
use Rattle.table_model.specs.Values.{present, total}
use Rattle.transpose_order.specs.Mask.{has, rows_of}
use Rattle.query_eval.specs.Kept.{rows_at}
use Rattle.query_eval.specs.Places.{IsGrown, rows_placed}
use Rattle.query_eval.specs.Vector.{Vector, row_at}
use Rattle.query_eval.specs.declared.grouping.split.Slice.{Slice}
use Rattle.query_eval.specs.declared.grouping.split.Span.{Span}
use Rattle.query_eval.specs.declared.grouping.split.Split.{Split}

-- the values at the rows of a mask, in row order
abbrev pub values_at : List Bool → List ℤ → List ℤ
values_at rows values = present (rows_of (λ n. cond (has rows n) (Some (slice_index_or values n (pos 0))) None))

-- the value at a row of a mask
abbrev pub value_of : List Bool → List ℤ → ℕ → Option ℤ
value_of rows values n = cond (has rows n) (Some (slice_index_or values n (pos 0))) None

-- the values at the rows of a mask below k
abbrev pub values_below : ℕ → List Bool → List ℤ → List ℤ
values_below k rows values = present (map (value_of rows values) (range_with_len 0 k))

-- whether the value at a row isn't that of the row before; row 0 has none before it
abbrev pub differs_at : List ℤ → ℕ → Bool
differs_at values zero = false
differs_at values (suc n) = not (int_eq (slice_index_or values n (pos 0)) (slice_index_or values (suc n) (pos 0)))

-- a number is the sum of the values at the rows of a mask below k, each raised by so much
abbrev pub IsRaised : ℕ → ℕ → List Bool → List ℤ → ℕ → Type 0
IsRaised by k rows values sum = pos sum ≡ total (values_below k rows values) +ℤ pos (by * length (values_below k rows values))

-- two sums are those of the halves of the values at the rows of a mask below k, raised by 2 to the power of 63 each
abbrev pub AreHalves : ℕ → List Bool → List ℤ → ℕ → ℕ → Type 0
AreHalves k rows values low high = IsRaised (2 ^ 63) k rows values (low + 2 ^ 32 * high)

-- a value is short: raised by 2 to the power of 52, it is a number of 53 bits, so that no sum of 1024 short ones wraps
pub record IsShort (value : ℤ) : Type 0 where
  pub raised : ℕ
  pub below : raised < 2 ^ 53
  pub is : pos raised ≡ value +ℤ pos (2 ^ 52)

-- each of 1024 values is short
abbrev pub AreShort : List ℤ → Type 0
AreShort values = (n : ℕ) → n < 1024 → IsShort (slice_index_or values n (pos 0))

-- a slice has the rows of a mask with one key below an end, and that key's place
pub record IsSlice (by : List ℕ) (v : Vector) (index : Entries) (mask : List Bool) (slice : Slice) : Type 0 where
  pub key : Cells
  pub end : ℕ
  pub placed : place_in index key ≡ Some slice.place
  pub rows : (n : ℕ) → n < 1024 → has slice.rows n ≡ (has mask n && (nat_lt n end && same_cells key (key_of by (row_at v n))))

-- the rows of a mask that aren't in a slice
abbrev pub rows_outside : List Bool → Slice → List Bool
rows_outside mask slice = rows_of (λ n. has mask n && not (has slice.rows n))

-- slices part the rows of a mask: each has those with its key, below its end, of the rows in none before it, and the rows in none are left
abbrev pub AreParted : List ℕ → Vector → Entries → List Bool → List Slice → List Bool → Type 0
AreParted by v index mask [] left = mask ≡ left
AreParted by v index mask (slice ∷ slices) left = IsSlice by v index mask slice × AreParted by v index (rows_outside mask slice) slices left

-- whether a row of a mask has a key
abbrev pub occurs_in : List ℕ → Vector → Cells → List Bool → Bool
occurs_in by v key mask = list_any (same_cells key) (map (key_of by) (rows_at v mask))

-- slices part the rows of a mask, and no other key comes than those of rows that aren't left
pub record AreSliced (by : List ℕ) (v : Vector) (mask left : List Bool) (old new : Entries) (slices : List Slice) : Type 0 where
  pub grown : IsGrown old new
  pub parted : AreParted by v new mask slices left
  pub occurs : (key : Cells) → (is_some (place_in new key) || occurs_in by v key left) ≡ (is_some (place_in old key) || occurs_in by v key mask)

-- the rows of a mask from a first one up to an end
abbrev pub rows_between : List Bool → ℕ → ℕ → List Bool
rows_between mask first end = rows_of (λ n. has mask n && (nat_le first n && nat_lt n end))

-- a span as a slice: the rows of a mask that it covers
abbrev pub span_slice : List Bool → Span → Slice
span_slice mask span = record { place = span.place; rows = rows_between mask span.first span.end; code = 0 }

-- spans as slices of a mask
abbrev pub slices_of_spans : List Bool → List Span → List Slice
slices_of_spans mask spans = map (span_slice mask) spans

-- the slices of a split: its spans, and then those that have a mask of their own
abbrev pub slices_of : Split → List Slice
slices_of split = slices_of_spans split.kept split.spans.items ++ split.slices.items

-- codes below this number are few enough to slice by
abbrev pub code_limit : ℕ
code_limit = 64

-- a row is a slice's where it is one of a mask with the slice's code
abbrev pub IsCoded : List Bool → List ℕ → ℕ → Slice → Type 0
IsCoded mask codes n slice = has slice.rows n ≡ (has mask n && (slice_index_or codes n 0 == slice.code))

-- where a split says that its slices are by codes, each has the kept rows with its code, and all codes are few
pub record AreByCode (split : Split) : Type 0 where
  pub within : split.coded ≡ true → (n : ℕ) → n < 1024 → slice_index_or split.codes n 0 < code_limit
  pub few : split.coded ≡ true → (i : ℕ) (slice : Slice) → i < length split.slices.items → (slice_index_or split.slices.items i slice).code < code_limit
  pub rows : split.coded ≡ true → (i n : ℕ) (slice : Slice) → i < length split.slices.items → n < 1024 → IsCoded split.kept split.codes n (slice_index_or split.slices.items i slice)

-- the rows of a mask are split by their keys: those in spans and slices, and those left, each with its key's place; and no other key comes
pub record IsSplit (by : List ℕ) (v : Vector) (mask : List Bool) (old new : Entries) (split : Split) : Type 0 where
  pub grown : IsGrown old new
  pub parted : AreParted by v new mask (slices_of split) split.left
  pub placed : (n : ℕ) → n < 1024 → has split.left n ≡ true → place_in new (key_of by (row_at v n)) ≡ Some (slice_index_or split.places n 0)
  pub occurs : (key : Cells) → is_some (place_in new key) ≡ (is_some (place_in old key) || occurs_in by v key mask)

-- the rows of the slices with a place, slice by slice
abbrev pub rows_sliced : Vector → List Slice → ℕ → List Cells
rows_sliced v [] place = []
rows_sliced v (slice ∷ slices) place = cond (slice.place == place) (rows_at v slice.rows) [] ++ rows_sliced v slices place

-- the rows with a place: those of the spans and slices with it, and then those left with it
abbrev pub rows_shared : Vector → Split → ℕ → List Cells
rows_shared v split place = rows_sliced v (slices_of split) place ++ rows_placed 1024 v split.left split.places place
