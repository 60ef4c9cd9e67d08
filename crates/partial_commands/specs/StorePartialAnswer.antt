-- The partial answer that a table's state gives to the query that a text is.
use Rattle.std.specs.Prelude.{ℕ, Bool, List, map as each, Result, Ok}
use Rattle.std.specs.FinSet as set
use Rattle.std.specs.String.{string_bytes}
use Rattle.std.specs.Ordering.{eq_by_cmp}
use Rattle.table_model.specs.Answer.{AnswerParts}
use Rattle.table_model.specs.Name.{name_cmp, row_name_cmp}
use Rattle.table_model.specs.Reading.{◌>>=◌}
use Rattle.table_model.specs.State.{State}
use Rattle.table_model.specs.Table.{Table}
use Rattle.table_model.specs.declared.names.BatchName.{BatchName}
use Rattle.table_model.specs.declared.names.RowName.{RowName}
use Rattle.table_model.specs.declared.refusal.Refusal.{Refusal}
use Rattle.catalogue_join.specs.RowRange.{RowRange}
use Rattle.query_parser.specs.Descent.{query_of}
use Rattle.query_parser.specs.Resolve.{resolved}
use Rattle.partial_answers.specs.Combining.{counted_in}
use Rattle.partial_answers.specs.Counted.{Counted, Names, held_of, strays_of}
use Rattle.partial_answers.specs.PartialAnswer.{PartialAnswer, finish, partial_answer_of}
use Rattle.partial_answers.specs.declared.partial_answer.PartialAnswer.{PartialAnswer as CodePartialAnswer}

-- what a partial answer means: the table's schema, the query's text, and what was counted
pub record PartialAnswerMeaning : Type 0 where
  pub schema : Table
  pub text : List ℕ
  pub counted : Counted

-- what a partial answer of the code means
abbrev pub meaning_of : CodePartialAnswer → PartialAnswerMeaning
meaning_of p = record { schema = p.schema; text = string_bytes p.text; counted = counted_in p }

-- the partial answer of a state that has these groups, which names the state's batches and its stray deletions
abbrev pub meaning_with : Table → List ℕ → PartialAnswer → State → PartialAnswerMeaning
meaning_with table text partial state = record { schema = table; text = text; counted = record { partial = partial; held = held_of state; strays = strays_of state } }

-- the partial answer that a state gives to the query that a text is, or the refusal: first one of the text, and then one of its names
unfoldable pub query_partial_answer : List ℕ → Table → State → Result PartialAnswerMeaning Refusal
query_partial_answer text table state = query_of text >>= λ query. resolved table query >>= λ done. Ok (meaning_with table text (partial_answer_of table query state) state)

-- the answer that a partial answer finishes to, if its text is a query
abbrev pub finished : PartialAnswerMeaning → Result AnswerParts Refusal
finished p = query_of p.text >>= λ query. Ok (finish p.schema query p.counted.partial)

-- whether a range of rows is of a batch
abbrev pub is_of_batch : BatchName → RowRange → Bool
is_of_batch q r = eq_by_cmp name_cmp q r.0.batch

-- the batches of which rows are deleted
abbrev pub batches_deleted : set.FinSet row_name_cmp → Names
batches_deleted deleted = set.from_list (each (λ (row : RowName). row.batch) (set.items deleted))
