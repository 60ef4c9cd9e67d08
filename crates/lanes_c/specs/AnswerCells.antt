-- The columns of an answer as numbers, and which of them are values.
use Rattle.std.specs.Prelude.{◌≡◌, ℕ, ◌+◌, ◌*◌, Bool, true, false, ◌&&◌, nat_le, cond, List, map, length, slice_index_or, int_le, ℤ, pos, negsuc}
use Rattle.std.specs.List.{list_all, list_any}
use Rattle.table_model.specs.declared.answer.Field.{Field}
use Rattle.table_model.specs.declared.answer.Field.TheVariants.{Null, Whole, Millionths}
use Rattle.query_eval.specs.Words.{joined}
use Rattle.lanes_c.specs.Rooms.{filled}
use Rattle.lanes_c.specs.declared.answer_cells.Wide.{Wide}

-- ---- fields

-- the number of a field: 0 at a null, and of a mean its millionths
abbrev pub number_in : Field → ℤ
number_in Null = pos 0
number_in (Whole z) = z
number_in (Millionths z) = z

-- whether a field is a whole number
abbrev pub is_whole : Field → Bool
is_whole Null = false
is_whole (Whole z) = true
is_whole (Millionths z) = false

-- whether a field is a mean
abbrev pub is_mean : Field → Bool
is_mean Null = false
is_mean (Whole z) = false
is_mean (Millionths z) = true

-- the mark of a field: 1 at a value, and 0 at a null
abbrev pub mark_of : Field → ℕ
mark_of Null = 0
mark_of (Whole z) = 1
mark_of (Millionths z) = 1

-- whether a number has 64 bits at most
abbrev pub fits : ℤ → Bool
fits z = int_le (negsuc 9223372036854775807) z && int_le z (pos 9223372036854775807)

-- the number of two words
abbrev pub wide_number : Wide → ℤ
wide_number wide = joined wide.low wide.high

-- ---- columns

-- the field of a row in a column; a column that isn't there has nulls
abbrev pub field_in : ℕ → List Field → Field
field_in column row = slice_index_or row column Null

-- the numbers of a column of some rows
abbrev pub numbers_in : ℕ → List (List Field) → List ℤ
numbers_in column rows = map (λ row. number_in (field_in column row)) rows

-- the marks of a column of some rows
abbrev pub marks_in : ℕ → List (List Field) → List ℕ
marks_in column rows = map (λ row. mark_of (field_in column row)) rows

-- whether one of some rows has a whole number in a column
abbrev pub has_whole : ℕ → List (List Field) → Bool
has_whole column rows = list_any (λ row. is_whole (field_in column row)) rows

-- whether one of some rows has a mean in a column
abbrev pub has_mean : ℕ → List (List Field) → Bool
has_mean column rows = list_any (λ row. is_mean (field_in column row)) rows

-- the kind of a column: 0 if it has no value, 1 if it has whole numbers, 2 if it has means; 3 if it has both
abbrev pub kind_of : ℕ → List (List Field) → ℕ
kind_of column rows = cond (has_whole column rows) 1 0 + 2 * cond (has_mean column rows) 1 0

-- whether all numbers of a column have 64 bits at most
abbrev pub all_fit : ℕ → List (List Field) → Bool
all_fit column rows = list_all (λ row. fits (number_in (field_in column row))) rows

-- whether the columns of some rows have room in arrays of numbers and of marks
abbrev pub has_room : List (List Field) → List ℤ → List ℕ → Bool
has_room rows numbers marks = nat_le (length rows) (length numbers) && nat_le (length rows) (length marks)

-- A column is written or not: if it is, its numbers and its marks are at the fronts of the arrays, and else both are as they were.
abbrev pub Puts : Bool → ℕ → List (List Field) → List ℤ → List ℤ → List ℕ → List ℕ → Type 0
Puts written column rows numbers numbers' marks marks' =
    (numbers' ≡ cond written (filled (numbers_in column rows) numbers) numbers) × (marks' ≡ cond written (filled (marks_in column rows) marks) marks)
