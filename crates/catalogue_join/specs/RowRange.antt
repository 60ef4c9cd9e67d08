-- Ranges of rows of one batch: the set that a list of them represents, which lists are maximal, and the places of rows on one line.
use Rattle.std.specs.Prelude.{ℕ, zero, suc, ◌+◌, ◌-◌, ◌*◌, ◌<◌, ◌≤◌, Bool, ◌&&◌, ◌||◌, nat_lt, List, [], ◌∷◌, ◌++◌, min, max, IsTrue}
use Rattle.std.specs.Ordering.{is_lt, is_eq}
use Rattle.std.specs.FinSet as set
use Rattle.table_model.specs.Table.{row_limit}
use Rattle.table_model.specs.Name.{name_cmp, row_name_cmp, is_proper_name}
use Rattle.table_model.specs.declared.names.BatchName.{BatchName}
use Rattle.table_model.specs.declared.names.RowName.{RowName}
use Rattle.catalogue_join.specs.Span.{Shape}

-- the rows of a batch from a first to a last ordinal, both included
abbrev pub RowRange : Type 0
RowRange = RowName × ℕ

-- the names of n rows of a batch, the first having the ordinal n
abbrev pub row_names : BatchName → ℕ → ℕ → List RowName
row_names batch n zero = []
row_names batch n (suc count) = let row : RowName = record { batch = batch; ordinal = n } in row ∷ row_names batch (n + 1) count

-- the rows of a batch from the first ordinal to the last
abbrev pub rows_between : RowName → ℕ → List RowName
rows_between first last = row_names first.batch first.ordinal (last + 1 - first.ordinal)

-- the rows of a list of ranges, in order
abbrev pub rows_listed : List RowRange → List RowName
rows_listed [] = []
rows_listed (r ∷ rs) = rows_between r.0 r.1 ++ rows_listed rs

-- the set of the rows of a list of ranges
unfoldable pub rows_in : List RowRange → set.FinSet row_name_cmp
rows_in rs = set.from_list (rows_listed rs)

-- a range of rows that may be: its batch's name is proper, its numbers are within their bounds, and it is not empty
pub record IsRowRange (r : RowRange) : Type 0 where
  pub proper : IsTrue (is_proper_name r.0.batch)
  pub origin : r.0.batch.origin.0 < 4294967296
  pub number : r.0.batch.number.0 < 4294967296
  pub last : r.1 < row_limit
  pub not_empty : r.0.ordinal ≤ r.1

-- q is of a later batch than r, or begins in the same batch after r's last row and at least one row more
abbrev pub stands_apart : RowRange → RowRange → Bool
stands_apart r q = is_lt (name_cmp r.0.batch q.0.batch) || (is_eq (name_cmp r.0.batch q.0.batch) && nat_lt (r.1 + 1) q.0.ordinal)

-- the range lies apart before the first of the list, if there is one
abbrev pub IsBefore : RowRange → List RowRange → Type 0
IsBefore r [] = Unit {0}
IsBefore r (q ∷ qs) = IsTrue (stands_apart r q)

-- ranges in ascending order of which no two of one batch touch or overlap
abbrev pub AreMaximal : List RowRange → Type 0
AreMaximal [] = Unit {0}
AreMaximal (r ∷ rs) = IsRowRange r × IsBefore r rs × AreMaximal rs

-- where a row's name is on the line: batches lie so far apart that rows of two batches are never next to each other
abbrev pub row_place : BatchName → ℕ → ℕ
row_place batch ordinal = (batch.origin.0 * 4294967296 + batch.number.0) * 131072 + ordinal

-- a proper name, and numbers within their bounds
abbrev pub is_named_range : RowRange → Bool
is_named_range r = is_proper_name r.0.batch && (nat_lt r.0.batch.origin.0 4294967296 && (nat_lt r.0.batch.number.0 4294967296 && (nat_lt r.0.ordinal row_limit && nat_lt r.1 row_limit)))

-- a range of rows on the line
abbrev pub row_range_shape : Shape RowRange
row_range_shape = record {
  low = λ r. row_place r.0.batch r.0.ordinal;
  high = λ r. row_place r.0.batch r.1;
  named = is_named_range;
  hull = λ r q. (record { batch = r.0.batch; ordinal = min r.0.ordinal q.0.ordinal }, max r.1 q.1);
}
