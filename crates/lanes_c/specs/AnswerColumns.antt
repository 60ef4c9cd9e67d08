-- What the calls tell that keep an answer and give its columns.
use Rattle.std.specs.Prelude.{◌≡◌, ◌⊎◌, ℕ, Bool, false, ◌&&◌, List, [], length, slice_index_or, MatchOption, Option, Some, Result, Ok, Err, ℤ}
use Rattle.std.specs.Global.{Box}
use Rattle.std.specs.String.{string_bytes}
use Rattle.table_model.specs.Answer.{AnswerParts}
use Rattle.table_model.specs.declared.refusal.Refusal.TheVariants.{Memory}
use Rattle.store_view.specs.Asked.{query_answer}
use Rattle.partial_answers.specs.Shape.{IsQueryOf, RefusesFinishing}
use Rattle.partial_answers.specs.declared.fault.PartialAnswerFault.{PartialAnswerFault}
use Rattle.partial_answers.specs.declared.partial_answer.PartialAnswer.{PartialAnswer}
use Rattle.partial_commands.specs.StorePartialAnswer.{finished, meaning_of}
use Rattle.partial_commands.specs.declared.partial_answer_error.PartialAnswerError.{PartialAnswerError}
use Rattle.partial_file.specs.PartialAnswerReading.{form_of, partial_answer_read}
use Rattle.lanes_c.specs.AnswerCells.{Puts, all_fit, has_room, kind_of}
use Rattle.lanes_c.specs.Calls.{Asks}
use Rattle.lanes_c.specs.Faults.{nowhere, number_of_fault, place_of_fault, told_of_partial_answer, told_of_partial_answers}
use Rattle.lanes_c.specs.PartialAnswers.{IsWhyNotFinished}
use Rattle.lanes_c.specs.Rooms.{IsFilled}
use Rattle.lanes_c.specs.declared.answer_handle.KeptAnswer.{KeptAnswer}
use Rattle.lanes_c.specs.declared.fault.Fault.{Fault}
use Rattle.lanes_c.specs.declared.fault.Fault.TheVariants.{NotOpen, Refused}
use Rattle.lanes_c.specs.declared.fault.Place.{Place}
use Rattle.lanes_c.specs.declared.handle.Table.{Table}

-- ---- an answer is kept

-- what a call answers: an answer, or why not
abbrev pub Answered : Type 0
Answered = Result AnswerParts Fault

-- the same of an answer in a box
abbrev pub answer_by : Result (Box AnswerParts) Fault → Answered
answer_by (Ok answer) = Ok answer.value
answer_by (Err fault) = Err fault

-- 0 is answered with an answer, and else the fault's number
abbrev pub number_of_answered : Answered → ℕ
number_of_answered (Ok answer) = 0
number_of_answered (Err fault) = number_of_fault fault

-- the place that is reported
abbrev pub place_of_answered : Answered → Place
place_of_answered (Ok answer) = nowhere
place_of_answered (Err fault) = place_of_fault fault

-- what a handle has then: the answer, or what it had if there is none
abbrev pub kept_after : Answered → Option AnswerParts → Option AnswerParts
kept_after (Ok answer) was = Some answer
kept_after (Err fault) was = was

-- What a call told that keeps an answer: it gave an answer or a fault, of which Means says what it has to, and the number, what the handle
-- has and the place are those of that.
pub record Keeps (Means : Answered → Type 0) (number : ℕ) (old new : KeptAnswer) (at : Place) : Type 0 where
  pub given : Answered
  pub meant : Means given
  pub number_is : number ≡ number_of_answered given
  pub kept : new.answer ≡ kept_after given old.answer
  pub place : at ≡ place_of_answered given

-- lanes_answer_ask: The table's handle stays as it was. Of a closed one NotOpen is reported. Of an open one the answer is kept of the query
-- over what it has.
abbrev pub AsksKept : ℕ → List ℕ → Table → Table → KeptAnswer → KeptAnswer → Place → Type 0
AsksKept number sql old new was answer place =
    (new.replica ≡ old.replica)
    × MatchOption old.replica (Keeps (λ given. given ≡ Err NotOpen) number was answer place)
    (λ r. Keeps (λ given. Asks given sql (query_answer sql r.schema r.state)) number was answer place)

-- an answer is that to which a partial answer is finished; or why it isn't; out of memory may come in the place of anything
abbrev pub FinishesPartial : Answered → PartialAnswer → Type 0
FinishesPartial (Ok answer) p = IsQueryOf p.schema (string_bytes p.text) × (finished (meaning_of p) ≡ Ok answer)
FinishesPartial (Err fault) p = ((f : PartialAnswerFault) × (fault ≡ told_of_partial_answers f) × RefusesFinishing f p) ⊎ (fault ≡ Refused Memory)

-- lanes_answer_finish: the same of a partial answer in bytes, which may be refused first
abbrev pub FinishesTo : Answered → List ℕ → Type 0
FinishesTo (Ok answer) partial = (p : PartialAnswer) × (partial_answer_read partial ≡ Ok (form_of p)) × IsQueryOf p.schema (string_bytes p.text) × (finished (meaning_of p) ≡ Ok answer)
FinishesTo (Err fault) partial = ((e : PartialAnswerError) × (fault ≡ told_of_partial_answer e) × IsWhyNotFinished e partial) ⊎ (fault ≡ Refused Memory)

-- ---- a kept answer is read

-- An answer is read: the handle stays as it was. Of a closed one this holds, and of an open one that, of its answer.
abbrev pub ReadsAnswer : Type 0 → (AnswerParts → Type 0) → KeptAnswer → KeptAnswer → Type 0
ReadsAnswer Closed Open old new = (new.answer ≡ old.answer) × MatchOption old.answer Closed Open

-- lanes_answer_columns: how many columns there are; none if the handle is closed
abbrev pub CountsColumns : ℕ → KeptAnswer → KeptAnswer → Type 0
CountsColumns count old new = ReadsAnswer (count ≡ 0) (λ answer. count ≡ length answer.heading) old new

-- lanes_answer_rows: the same of rows
abbrev pub CountsRows : ℕ → KeptAnswer → KeptAnswer → Type 0
CountsRows count old new = ReadsAnswer (count ≡ 0) (λ answer. count ≡ length answer.rows) old new

-- the heading of a column; a column that isn't there has none
abbrev pub heading_in : ℕ → AnswerParts → List ℕ
heading_in column answer = slice_index_or answer.heading column []

-- lanes_answer_heading: the heading of a column
abbrev pub GivesHeading : ℕ → ℕ → KeptAnswer → KeptAnswer → List ℕ → List ℕ → Type 0
GivesHeading told column old new was room =
    ReadsAnswer (IsFilled (λ text. text ≡ []) told was room) (λ answer. IsFilled (λ text. text ≡ heading_in column answer) told was room) old new

-- lanes_answer_kind: the kind of a column
abbrev pub TellsKind : ℕ → ℕ → KeptAnswer → KeptAnswer → Type 0
TellsKind kind column old new = ReadsAnswer (kind ≡ 0) (λ answer. kind ≡ kind_of column answer.rows) old new

-- lanes_answer_numbers: A column is written if there is room, and if its numbers have 64 bits at most.
abbrev pub GivesNumbers : Bool → ℕ → KeptAnswer → KeptAnswer → List ℤ → List ℤ → List ℕ → List ℕ → Type 0
GivesNumbers written column old new numbers numbers' marks marks' =
    ReadsAnswer ((written ≡ false) × (numbers' ≡ numbers) × (marks' ≡ marks))
    (λ answer. (written ≡ (has_room answer.rows numbers marks && all_fit column answer.rows)) × Puts written column answer.rows numbers numbers' marks marks') old new

-- lanes_answer_wide: a column is written if there is room
abbrev pub GivesWide : Bool → ℕ → KeptAnswer → KeptAnswer → List ℤ → List ℤ → List ℕ → List ℕ → Type 0
GivesWide written column old new numbers numbers' marks marks' =
    ReadsAnswer ((written ≡ false) × (numbers' ≡ numbers) × (marks' ≡ marks))
    (λ answer. (written ≡ has_room answer.rows numbers marks) × Puts written column answer.rows numbers numbers' marks marks') old new
