-- Where finished groups have the values of operands and of select items.
use Rattle.std.specs.Prelude.{ℕ, ◌==◌, ◌+◌, cond, List, [], slice_index_or, None}
use Rattle.std.specs.Int.{bit_at}
use Rattle.std.specs.List.{position_or_len}
use Rattle.table_model.specs.Answer.{whole}
use Rattle.table_model.specs.Condition.{between, condition_truth, field_comparison, is_among, is_null, not_if, predicate_truth}
use Rattle.table_model.specs.Formula.{Formula}
use Rattle.table_model.specs.Meaning.{place_of}
use Rattle.table_model.specs.Table.{ColumnShape}
use Rattle.table_model.specs.Truth.{truth_of}
use Rattle.table_model.specs.declared.answer.Field.{Field}
use Rattle.table_model.specs.declared.answer.Field.TheVariants.{Null, Whole}
use Rattle.table_model.specs.declared.query.ItemValue.{ItemValue}
use Rattle.table_model.specs.declared.query.ItemValue.TheVariants.{Grouped, Computed}
use Rattle.table_model.specs.declared.query.Operand.{Operand}
use Rattle.table_model.specs.declared.query.Operand.TheVariants.{Column, Literal, Function}
use Rattle.table_model.specs.declared.query.Predicate.{Predicate}
use Rattle.table_model.specs.declared.query.Predicate.TheVariants.{Compare, Between, In, IsNull}
use Rattle.table_model.specs.declared.truth.Truth.{Truth}
use Rattle.table_model.specs.declared.truth.Truth.TheVariants.{Unknown}
use Rattle.query_eval.specs.Aggregate.{aggregate_of, same_aggregate}
use Rattle.query_eval.specs.Finished.{GroupFields, PlanShape, seen_operand}
use Rattle.query_eval.specs.declared.answers.field_places.FieldPlace.{FieldPlace}
use Rattle.query_eval.specs.declared.answers.field_places.FieldPlace.TheVariants as places
use Rattle.query_eval.specs.declared.answers.field_places.PredicatePlaces.{PredicatePlaces}

-- the group past the end of some groups: it has no cell and no field
abbrev pub no_group : GroupFields
no_group = record { key = []; fields = [] }

-- one of some groups
abbrev pub group_at : List GroupFields → ℕ → GroupFields
group_at groups n = slice_index_or groups n no_group

-- the value at a place of a group
abbrev pub field_in : GroupFields → FieldPlace → Field
field_in group (places.Cell place) = whole (slice_index_or group.key place None)
field_in group (places.Computed place) = slice_index_or group.fields place Null
field_in group (places.Fixed n) = Whole n

-- the place of an operand of HAVING
abbrev pub operand_place : List ColumnShape → PlanShape → Operand → FieldPlace
operand_place columns plan (Column column) = places.Cell (position_or_len (λ place. place == place_of columns column.name) plan.grouping)
operand_place columns plan (Literal n) = places.Fixed n
operand_place columns plan (Function f) = places.Computed (position_or_len (same_aggregate (aggregate_of columns f)) plan.aggregates)

-- the place of a select item
abbrev pub item_place : List ColumnShape → PlanShape → ItemValue → FieldPlace
item_place columns plan (Grouped column) = places.Cell (position_or_len (λ place. place == place_of columns column.name) plan.grouping)
item_place columns plan (Computed f) = places.Computed (position_or_len (same_aggregate (aggregate_of columns f)) plan.aggregates)

-- the places of a predicate's operands, from the left; of fewer than three the last is there again
abbrev pub predicate_places : List ColumnShape → PlanShape → Predicate → PredicatePlaces
predicate_places columns plan (Compare left op right) = record { first = operand_place columns plan left; second = operand_place columns plan right; third = operand_place columns plan right }
predicate_places columns plan (Between operand negated low high) = record { first = operand_place columns plan operand; second = operand_place columns plan low; third = operand_place columns plan high }
predicate_places columns plan (In operand negated literals) = record { first = operand_place columns plan operand; second = operand_place columns plan operand; third = operand_place columns plan operand }
predicate_places columns plan (IsNull operand negated) = record { first = operand_place columns plan operand; second = operand_place columns plan operand; third = operand_place columns plan operand }

-- the truth of a predicate at a group, by the places of its operands
abbrev pub placed_truth : Predicate → PredicatePlaces → GroupFields → Truth
placed_truth (Compare left op right) at group = field_comparison op (field_in group at.first) (field_in group at.second)
placed_truth (Between operand negated low high) at group = not_if negated (between (field_in group at.first) (field_in group at.second) (field_in group at.third))
placed_truth (In operand negated literals) at group = not_if negated (is_among (field_in group at.first) literals)
placed_truth (IsNull operand negated) at group = not_if negated (truth_of (is_null (field_in group at.first)))

-- the truth of a predicate at the group that a bit of a word represents, unknown if the word does not have the bit
abbrev pub word_truth : Predicate → PredicatePlaces → List GroupFields → ℕ → ℕ → ℕ → Truth
word_truth predicate at groups word first bit = cond (bit_at word bit == 1) (placed_truth predicate at (group_at groups (first + bit))) Unknown

-- the truth of a predicate of HAVING at one of some groups
abbrev pub predicate_in : List ColumnShape → PlanShape → List GroupFields → Predicate → ℕ → Truth
predicate_in columns plan groups predicate n = predicate_truth (seen_operand columns plan (group_at groups n)) predicate

-- the truth of a condition of HAVING at one of some groups
abbrev pub truth_in : List ColumnShape → PlanShape → List GroupFields → Formula → ℕ → Truth
truth_in columns plan groups f n = condition_truth (seen_operand columns plan (group_at groups n)) f
