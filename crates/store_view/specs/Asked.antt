-- What the text of a query answers at a table's state.
use Rattle.std.specs.Prelude.{ℕ, Bool, true, false, List, Result, Ok, Err}
use Rattle.table_model.specs.Answer.{AnswerParts}
use Rattle.table_model.specs.Meaning.{answer_of, names_where}
use Rattle.table_model.specs.Query.{QueryShape}
use Rattle.table_model.specs.Reading.{◌>>=◌}
use Rattle.table_model.specs.State.{State}
use Rattle.table_model.specs.declared.names.RowName.{RowName}
use Rattle.table_model.specs.Table.{Table}
use Rattle.table_model.specs.declared.refusal.Refusal.{Refusal}
use Rattle.table_model.specs.declared.refusal.Refusal.TheVariants.{Memory, Syntax, NumberTooLarge, TooDeep, NoSuchTable, NoSuchColumn, NotGrouped}
use Rattle.query_parser.specs.Descent.{query_of, condition_of}
use Rattle.query_parser.specs.Resolve.{resolved, resolved_condition}

-- an answer, where nothing refuses it
abbrev pub unless_refused : Result (Unit {0}) Refusal → AnswerParts → Result AnswerParts Refusal
unless_refused (Ok done) answer = Ok answer
unless_refused (Err refusal) answer = Err refusal

-- the answer of a query at a state, where it is one and the table has its names
abbrev pub answer_where : Table → State → Result QueryShape Refusal → Result AnswerParts Refusal
answer_where table state (Ok query) = unless_refused (resolved table query) (answer_of table query state)
answer_where table state (Err refusal) = Err refusal

-- the answer of the query that a text is, over the rows of a state that aren't deleted, or its first refusal
unfoldable pub query_answer : List ℕ → Table → State → Result AnswerParts Refusal
query_answer text table state = answer_where table state (query_of text)

-- whether a refusal is one that a query may have: a fault of its text, one of its names, or out of memory
abbrev pub is_refusal_of_query : Refusal → Bool
is_refusal_of_query Memory = true
is_refusal_of_query (Syntax at) = true
is_refusal_of_query (NumberTooLarge at) = true
is_refusal_of_query TooDeep = true
is_refusal_of_query NoSuchTable = true
is_refusal_of_query (NoSuchColumn at) = true
is_refusal_of_query (NotGrouped at) = true
is_refusal_of_query other = false

-- the names of the rows that aren't deleted at which the condition that a text is is true, or its first refusal
unfoldable pub condition_names : List ℕ → Table → State → Result (List RowName) Refusal
condition_names text table state = condition_of text >>= λ f. resolved_condition table f >>= λ done. Ok (names_where table f state)

-- whether a refusal is a fault of a text
abbrev pub is_fault_of_text : Refusal → Bool
is_fault_of_text (Syntax at) = true
is_fault_of_text (NumberTooLarge at) = true
is_fault_of_text TooDeep = true
is_fault_of_text other = false

-- whether a refusal is one that a condition may have: a fault of its text, a column that the table does not have, or out of memory
abbrev pub is_refusal_of_condition : Refusal → Bool
is_refusal_of_condition Memory = true
is_refusal_of_condition (NoSuchColumn at) = true
is_refusal_of_condition other = is_fault_of_text other
