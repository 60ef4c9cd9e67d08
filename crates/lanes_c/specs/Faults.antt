-- Why a call gave nothing, as C gets it: a number and a place of two numbers.
use Rattle.std.specs.Prelude.{ℕ}
use Rattle.table_model.specs.RefusalText.{number_of, place_of as named_by}
use Rattle.table_model.specs.declared.place.Place.{Place as Named}
use Rattle.table_model.specs.declared.place.Place.TheVariants as named
use Rattle.table_model.specs.declared.refusal.Refusal.{Refusal}
use Rattle.table_model.specs.declared.refusal.Refusal.TheVariants as refusals
use Rattle.partial_answers.specs.declared.fault.PartialAnswerFault.{PartialAnswerFault}
use Rattle.partial_answers.specs.declared.fault.PartialAnswerFault.TheVariants as partials
use Rattle.partial_commands.specs.declared.expectation_error.ExpectationError.{ExpectationError}
use Rattle.partial_commands.specs.declared.expectation_error.ExpectationError.TheVariants as expectations
use Rattle.partial_commands.specs.declared.partial_answer_error.PartialAnswerError.{PartialAnswerError}
use Rattle.partial_commands.specs.declared.partial_answer_error.PartialAnswerError.TheVariants as errors
use Rattle.csv_rows.specs.declared.error.CsvError.{CsvError}
use Rattle.csv_rows.specs.declared.error.CsvError.TheVariants as csv
use Rattle.folder_parts.specs.declared.fault.PartFault.{PartFault}
use Rattle.folder_parts.specs.declared.fault.PartFault.TheVariants as parts
use Rattle.folder_turns.specs.declared.replay.Fault.{Fault as ReplayFault}
use Rattle.folder_turns.specs.declared.replay.Fault.TheVariants as replay
use Rattle.live_columns.specs.declared.choice.Unchosen.{Unchosen}
use Rattle.live_columns.specs.declared.choice.Unchosen.TheVariants as unchosen
use Rattle.lanes_c.specs.declared.fault.Place.{Place}
use Rattle.lanes_c.specs.declared.fault.Fault.{Fault}
use Rattle.lanes_c.specs.declared.fault.Fault.TheVariants as faults

-- a place of two numbers
abbrev pub pair : ℕ → ℕ → Place
pair first second = record { first = first; second = second }

-- no place
abbrev pub nowhere : Place
nowhere = pair 0 0

-- the numbers of what a refusal names
abbrev pub numbers_of : Named → Place
numbers_of named.Nowhere = nowhere
numbers_of (named.Batch name) = pair name.origin.0 name.number.0
numbers_of (named.Row row) = pair row 0
numbers_of (named.Cell row column) = pair row column
numbers_of (named.Byte at) = pair at 0

-- the place that a refusal names
abbrev pub place_of : Refusal → Place
place_of refusal = numbers_of (named_by refusal)

-- the number of a fault: a refusal's own, 38 for comma-separated values outside the grammar, 39 for a closed handle, 40 to 43 for partial answers, and 44 to
-- 46 for folders
abbrev pub number_of_fault : Fault → ℕ
number_of_fault (faults.Refused refusal) = number_of refusal
number_of_fault (faults.BadCsv line column) = 38
number_of_fault (faults.LineTooLong line) = 32
number_of_fault (faults.OfQuery refusal query) = number_of refusal
number_of_fault (faults.InNames refusal) = number_of refusal
number_of_fault faults.NotOpen = 39
number_of_fault (faults.NotApart name) = 40
number_of_fault faults.QueryDiffers = 41
number_of_fault faults.TooMany = 42
number_of_fault (faults.OfSummary refusal summary) = number_of refusal
number_of_fault (faults.Missing name) = 43
number_of_fault faults.Busy = 44
number_of_fault faults.Damaged = 45
number_of_fault (faults.System code) = 46

-- the place of a fault; next to the byte, that of one query of several has the query, from 0, that of one summary of several the summary, from 1, and that
-- of the names of columns 1
abbrev pub place_of_fault : Fault → Place
place_of_fault (faults.Refused refusal) = place_of refusal
place_of_fault (faults.BadCsv line column) = pair line column
place_of_fault (faults.LineTooLong line) = pair line 0
place_of_fault (faults.OfQuery refusal query) = pair (place_of refusal).first query
place_of_fault (faults.InNames refusal) = pair (place_of refusal).first 1
place_of_fault faults.NotOpen = nowhere
place_of_fault (faults.NotApart name) = pair name.origin.0 name.number.0
place_of_fault faults.QueryDiffers = nowhere
place_of_fault faults.TooMany = nowhere
place_of_fault (faults.OfSummary refusal summary) = pair (place_of refusal).first summary
place_of_fault (faults.Missing name) = pair name.origin.0 name.number.0
place_of_fault faults.Busy = nowhere
place_of_fault faults.Damaged = nowhere
place_of_fault (faults.System code) = pair code 0

-- a refusal as that of one query of several
abbrev pub of_query : Fault → ℕ → Fault
of_query (faults.Refused refusal) query = faults.OfQuery refusal query
of_query other query = other

-- a refusal as that of the names of columns
abbrev pub in_names : Fault → Fault
in_names (faults.Refused refusal) = faults.InNames refusal
in_names other = other

-- what C gets where it isn't known what columns are asked for
abbrev pub told_of_choice : Unchosen → Fault
told_of_choice (unchosen.Refused refusal) = faults.Refused refusal
told_of_choice (unchosen.NoSuchName at) = faults.InNames (refusals.NoSuchColumn at)

-- a refusal as C gets it: writing into memory fails only where memory runs out
abbrev pub told : Refusal → Fault
told refusals.WriteFault = faults.Refused refusals.Memory
told other = faults.Refused other

-- what C gets of a text of comma-separated values that is refused
abbrev pub told_of_csv : CsvError → Fault
told_of_csv (csv.BadCsv line column) = faults.BadCsv line column
told_of_csv (csv.LineTooLong line) = faults.LineTooLong line
told_of_csv (csv.Refused refusal) = told refusal

-- what C gets of partial answers that aren't combined, or of one that isn't finished
abbrev pub told_of_partial_answers : PartialAnswerFault → Fault
told_of_partial_answers partials.Memory = faults.Refused refusals.Memory
told_of_partial_answers partials.SchemaDiffers = faults.Refused refusals.SchemaDiffers
told_of_partial_answers partials.QueryDiffers = faults.QueryDiffers
told_of_partial_answers (partials.NotApart name) = faults.NotApart name
told_of_partial_answers partials.TooMany = faults.TooMany
told_of_partial_answers (partials.Query refusal) = faults.Refused refusal

-- the same where its bytes may be refused
abbrev pub told_of_partial_answer : PartialAnswerError → Fault
told_of_partial_answer (errors.Refused refusal) = told refusal
told_of_partial_answer (errors.Fault fault) = told_of_partial_answers fault

-- what C gets of a partial answer that isn't answered under an expectation
abbrev pub told_of_expectation : ExpectationError → Fault
told_of_expectation expectations.SchemaDiffers = faults.Refused refusals.SchemaDiffers
told_of_expectation (expectations.Missing name) = faults.Missing name
told_of_expectation (expectations.Unanswered e) = told_of_partial_answer e

-- what C gets of a part that is at fault
abbrev pub told_of_part : PartFault → Fault
told_of_part parts.Damaged = faults.Damaged
told_of_part (parts.Refused refusal) = told refusal

-- what C gets of a turn at a folder that can't go on
abbrev pub told_of_replay : ReplayFault → Fault
told_of_replay replay.OutOfMemory = faults.Refused refusals.Memory
told_of_replay replay.Strayed = faults.System 0
