-- What the call gives that answers a partial answer only if it covers what summaries name.
use Rattle.std.specs.Prelude.{◌≡◌, ◌⊎◌, ℕ, ◌+◌, true, false, List, [], ◌∷◌, take, drop, Result, Ok, Err}
use Rattle.table_model.specs.declared.refusal.Refusal.TheVariants.{Memory}
use Rattle.answer_formats.specs.declared.format.Format.{Format}
use Rattle.column_file.specs.Input.{IsUnread}
use Rattle.column_file.specs.SummaryBytes.{summary_read}
use Rattle.partial_answers.specs.Shape.{RefusesFinishing}
use Rattle.partial_answers.specs.declared.partial_answer.PartialAnswer.{PartialAnswer}
use Rattle.partial_commands.specs.Expecting.{Covers, IsLeastMissing, are_of_table}
use Rattle.partial_commands.specs.PartialAnswerTurns.{IsAnswerText}
use Rattle.partial_commands.specs.declared.expectation_error.ExpectationError.{ExpectationError}
use Rattle.partial_commands.specs.declared.expectation_error.ExpectationError.TheVariants.{SchemaDiffers, Missing, Unanswered}
use Rattle.partial_commands.specs.declared.partial_answer_error.PartialAnswerError.TheVariants as errors
use Rattle.partial_file.specs.PartialAnswerReading.{form_of, partial_answer_read}
use Rattle.replica_store.specs.Exchange.{SummaryForm}
use Rattle.lanes_c.specs.Coverage.{IsWhyNoPartial}
use Rattle.lanes_c.specs.Faults.{told_of_expectation}
use Rattle.lanes_c.specs.Rooms.{Given}
use Rattle.lanes_c.specs.declared.fault.Fault.{Fault}
use Rattle.lanes_c.specs.declared.fault.Fault.TheVariants.{Refused, OfSummary}

-- bytes cut into pieces of these lengths, one after another; where the bytes end, a piece is shorter
abbrev pub pieces : List ℕ → List ℕ → List (List ℕ)
pieces [] bytes = []
pieces (length ∷ lengths) bytes = take length bytes ∷ pieces lengths (drop length bytes)

-- the pieces are these summaries
abbrev pub AreSummaries : List (List ℕ) → List SummaryForm → Type 0
AreSummaries [] [] = Unit {0}
AreSummaries (bytes ∷ more) (summary ∷ summaries) = (summary_read bytes ≡ Ok summary) × AreSummaries more summaries
AreSummaries more summaries = ⊥

-- why a piece, which is the one of this number, is refused: its first fault; out of memory and ReadFault may come in the place of anything
abbrev pub IsWhyNoSummary : Fault → ℕ → List ℕ → Type 0
IsWhyNoSummary (OfSummary e number) at bytes = (number ≡ at) × ((summary_read bytes ≡ Err e) ⊎ IsUnread e)
IsWhyNoSummary other at bytes = ⊥

-- why pieces, of which the first has this number, aren't summaries: the first that is refused
abbrev pub IsWhyNoSummaries : Fault → ℕ → List (List ℕ) → Type 0
IsWhyNoSummaries fault at [] = ⊥
IsWhyNoSummaries fault at (bytes ∷ more) = IsWhyNoSummary fault at bytes ⊎ (((s : SummaryForm) × (summary_read bytes ≡ Ok s)) × IsWhyNoSummaries fault (at + 1) more)

-- why a partial answer isn't answered under what is expected: a summary is of another table, a batch is missing, or it can't be finished
abbrev pub RefusesExpected : ExpectationError → PartialAnswer → List SummaryForm → Type 0
RefusesExpected SchemaDiffers p expected = are_of_table p.schema expected ≡ false
RefusesExpected (Missing name) p expected = (are_of_table p.schema expected ≡ true) × IsLeastMissing p.held expected name
RefusesExpected (Unanswered (errors.Fault fault)) p expected = Covers p expected × RefusesFinishing fault p
RefusesExpected (Unanswered (errors.Refused e)) p expected = ⊥

-- the same of pieces
abbrev pub IsWhyNotExpected : Fault → PartialAnswer → List (List ℕ) → Type 0
IsWhyNotExpected fault p more = (expected : List SummaryForm) × AreSummaries more expected × ((e : ExpectationError) × (fault ≡ told_of_expectation e) × RefusesExpected e p expected)

-- lanes_finish_expected: the text is that of the answer that the partial answer is finished to, and it covers what the summaries name. Else
-- the partial answer is refused, or the first summary that is, or it doesn't cover what they name, or it can't be finished; or memory runs out.
abbrev pub FinishesExpected : Given → Format → List ℕ → List (List ℕ) → Type 0
FinishesExpected (Ok text) format partial more =
    (p : PartialAnswer) × (partial_answer_read partial ≡ Ok (form_of p)) × ((expected : List SummaryForm) × AreSummaries more expected × Covers p expected × IsAnswerText format p text)
FinishesExpected (Err fault) format partial more =
    (fault ≡ Refused Memory) ⊎ (IsWhyNoPartial fault partial ⊎ ((p : PartialAnswer) × (partial_answer_read partial ≡ Ok (form_of p)) × (IsWhyNoSummaries fault 1 more ⊎ IsWhyNotExpected fault p more)))
