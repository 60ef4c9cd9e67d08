-- What is read of a partial answer's bytes, and how bytes are refused that are no partial answer.
use Rattle.std.specs.Prelude.{◌≡◌, ℕ, Bool, true, List, map as each, Result, Ok}
use Rattle.std.specs.FinSet as set
use Rattle.std.specs.String.{string_bytes}
use Rattle.table_model.specs.Name.{name_cmp}
use Rattle.table_model.specs.Reading.{◌>>=◌}
use Rattle.table_model.specs.Table.{Table}
use Rattle.table_model.specs.declared.refusal.Refusal.{Refusal}
use Rattle.table_model.specs.declared.refusal.Refusal.TheVariants.{BadRange, BadTag, BadWidth, Syntax}
use Rattle.catalogue_join.specs.Run.{names_in}
use Rattle.segment_core.specs.Format.{Format, read_whole}
use Rattle.column_file.specs.Input.{is_fault_of_summary, unread_or}
use Rattle.partial_answers.specs.declared.partial_answer.PartialAnswer.{PartialAnswer}
use Rattle.partial_file.specs.PartialAnswerBytes.{Body, Entry, body_of, entry_of, partial, partial_answer_bytes}

-- a partial answer, without where it lies in memory: the table's schema, the query's text, the batches that were counted, the strays, and the groups in ascending order of their keys
pub record PartialAnswerForm : Type 0 where
  pub schema : Table
  pub text : List ℕ
  pub held : set.FinSet name_cmp
  pub strays : set.FinSet name_cmp
  pub groups : List Entry

-- a partial answer of the code
abbrev pub form_of : PartialAnswer → PartialAnswerForm
form_of p = record { schema = p.schema; text = string_bytes p.text; held = p.held; strays = p.strays; groups = each entry_of p.groups.entries }

-- the partial answer of a schema and of what comes after it
abbrev pub partial_answer_listed : Table × Body → PartialAnswerForm
partial_answer_listed p = record { schema = p.0; text = p.1.0; held = names_in p.1.1.0; strays = names_in p.1.1.1.0; groups = p.1.1.1.1 }

-- the partial answer that bytes are, or their first fault
abbrev pub partial_answer_read : List ℕ → Result PartialAnswerForm Refusal
partial_answer_read bytes = read_whole partial bytes >>= λ p. Ok (partial_answer_listed p)

-- whether a refusal is a fault that the bytes of a partial answer may have: its text, its runs, its cells and its kinds have more than a summary
abbrev pub is_fault_of_partial_answer : Refusal → Bool
is_fault_of_partial_answer (Syntax at) = true
is_fault_of_partial_answer (BadRange at) = true
is_fault_of_partial_answer (BadTag at) = true
is_fault_of_partial_answer (BadWidth at) = true
is_fault_of_partial_answer other = is_fault_of_summary other

-- each refusal of a call that reads a partial answer
abbrev pub is_refusal_of_partial_answer : Refusal → Bool
is_refusal_of_partial_answer = unread_or is_fault_of_partial_answer

-- whether a partial answer of the code has bytes that are read
abbrev pub has_bytes : PartialAnswer → Bool
has_bytes p = partial.valid (p.schema, body_of p)

-- what has bytes is read from them as the same partial answer
abbrev pub PartialAnswersAreReadAgain : Type 0
PartialAnswersAreReadAgain = (p : PartialAnswer) → has_bytes p ≡ true → partial_answer_read (partial_answer_bytes p) ≡ Ok (form_of p)
