-- Columns of numbers of up to 1024 finished groups.
use Rattle.std.specs.Prelude.{◌≡◌, ◌<◌, ℕ, List, IfSome, None, slice_index_or}
use Rattle.table_model.specs.Answer.{whole}
use Rattle.query_eval.specs.Decoded.{value_unless}
use Rattle.query_eval.specs.FieldPlaces.{field_in, group_at}
use Rattle.query_eval.specs.Finished.{GroupFields}
use Rattle.query_eval.specs.declared.answers.field_places.FieldPlace.{FieldPlace}
use Rattle.query_eval.specs.declared.answers.field_places.FieldPlace.TheVariants as places
use Rattle.query_eval.specs.declared.answers.group_numbers.GroupNumbers.{GroupNumbers}
use Rattle.query_eval.specs.declared.answers.group_numbers.Numbers.{Numbers}

-- a column has the numbers at a place of the first 1024 of some groups, and nulls past the last group
abbrev pub AreNumbers : List GroupFields → FieldPlace → Numbers → Type 0
AreNumbers groups at numbers = (n : ℕ) → n < 1024 → field_in (group_at groups n) at ≡ whole (value_unless numbers.nulls numbers.values n)

-- each column that is there has the numbers at its place
pub record HaveNumbers (groups : List GroupFields) (numbers : GroupNumbers) : Type 0 where
  pub cells : (p : ℕ) → IfSome (slice_index_or numbers.cells.items p None) (AreNumbers groups (places.Cell p))
  pub fields : (p : ℕ) → IfSome (slice_index_or numbers.fields.items p None) (AreNumbers groups (places.Computed p))
