-- What the calls give that tell what a partial answer and a summary cover.
use Rattle.std.specs.Prelude.{◌≡◌, ◌⊎◌, ℕ, List, Result, Ok, Err}
use Rattle.table_model.specs.Reading.{◌>>=◌}
use Rattle.table_model.specs.declared.refusal.Refusal.{Refusal}
use Rattle.answer_formats.specs.declared.format.ReportForm.{ReportForm}
use Rattle.column_file.specs.Input.{IsUnread}
use Rattle.column_file.specs.SummaryBytes.{summary_read}
use Rattle.partial_answers.specs.declared.partial_answer.PartialAnswer.{PartialAnswer}
use Rattle.partial_commands.specs.Coverage.{partial_answer_coverage, summary_coverage}
use Rattle.partial_file.specs.PartialAnswerReading.{PartialAnswerForm, form_of, partial_answer_read}
use Rattle.lanes_c.specs.Rooms.{Given}
use Rattle.lanes_c.specs.declared.fault.Fault.{Fault}
use Rattle.lanes_c.specs.declared.fault.Fault.TheVariants.{Refused}

-- why the bytes of a partial answer aren't read: their first fault; out of memory and ReadFault may come in the place of anything
abbrev pub IsWhyNoPartial : Fault → List ℕ → Type 0
IsWhyNoPartial (Refused e) partial = (partial_answer_read partial ≡ Err e) ⊎ IsUnread e
IsWhyNoPartial other partial = ⊥

-- lanes_inspect_partial: the text is what is told of the partial answer that the bytes are
abbrev pub InspectsPartial : Given → ReportForm → List ℕ → Type 0
InspectsPartial (Ok text) form partial = (p : PartialAnswer) × (partial_answer_read partial ≡ Ok (form_of p)) × (text ≡ partial_answer_coverage form p)
InspectsPartial (Err fault) form partial = IsWhyNoPartial fault partial

-- lanes_inspect_summary: what is told of the summary that bytes are
abbrev pub coverage_of_summary : ReportForm → List ℕ → Result (List ℕ) Refusal
coverage_of_summary form summary = summary_read summary >>= λ s. Ok (summary_coverage form s)
