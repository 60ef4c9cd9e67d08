-- What was told of a partial answer and of a summary, and why they were not read, as what is given to C.
use Rattle.std.specs.Prelude.{◌≡◌, ◌⊎◌, ℕ, List, Result, Ok, Err}
use Rattle.std.proofs.Common.{refl, sym, ap, subst, ◌∙◌, inl, inr}
use Rattle.table_model.specs.Reading.{◌>>=◌}
use Rattle.table_model.specs.declared.refusal.Refusal.{Refusal}
use Rattle.table_model.specs.declared.refusal.Refusal.TheVariants.{Memory, ReadFault, WriteFault}
use Rattle.answer_formats.specs.declared.format.ReportForm.{ReportForm}
use Rattle.column_file.specs.SummaryBytes.{summary_read}
use Rattle.partial_answers.specs.declared.partial_answer.PartialAnswer.{PartialAnswer}
use Rattle.partial_commands.specs.Coverage.{partial_answer_coverage, summary_coverage}
use Rattle.partial_file.specs.PartialAnswerReading.{form_of, partial_answer_read}
use Rattle.replica_store.specs.Exchange.{SummaryForm}
use Rattle.lanes_c.specs.Calls.{Yields}
use Rattle.lanes_c.specs.Coverage.{InspectsPartial, IsWhyNoPartial, coverage_of_summary}
use Rattle.lanes_c.specs.Faults.{told}
use Rattle.lanes_c.specs.Rooms.{Given}
use Rattle.lanes_c.specs.declared.fault.Fault.{Fault}
use Rattle.lanes_c.specs.declared.fault.Fault.TheVariants.{Refused}

-- ---- a partial answer

-- one whose bytes are refused
pub partial_unread : (e : Refusal) (partial input : List ℕ) → input ≡ partial → ((e ≡ Memory → ⊥) → (e ≡ ReadFault → ⊥) → partial_answer_read input ≡ Err e) → IsWhyNoPartial (told e) partial
partial_unread Memory partial input same h = inr (inl refl)
partial_unread ReadFault partial input same h = inr (inr refl)
partial_unread WriteFault partial input same h = inr (inl refl)
partial_unread other partial input same h = inl (ap partial_answer_read (sym same) ∙ h (λ is. cc) (λ is. cc))

-- one that was read
pub partial_inspected : (given : Given) (form : ReportForm) (p : PartialAnswer) (partial input : List ℕ) → input ≡ partial → partial_answer_read input ≡ Ok (form_of p) → Yields given (Ok (partial_answer_coverage form p)) → InspectsPartial given form partial
partial_inspected (Ok text) form p partial input same read is = let all : partial_answer_coverage form p ≡ text = cc in (p, ap partial_answer_read (sym same) ∙ read, sym all)
partial_inspected (Err (Refused e)) form p partial input same read (inl is) = absurd cc
partial_inspected (Err (Refused e)) form p partial input same read (inr unread) = inr unread
partial_inspected (Err other) form p partial input same read h = absurd h

-- ---- a summary

-- one whose bytes are refused
pub summary_unread : (e : Refusal) (form : ReportForm) (summary input : List ℕ) → input ≡ summary → ((e ≡ Memory → ⊥) → (e ≡ ReadFault → ⊥) → summary_read input ≡ Err e) → Yields (Err (told e)) (coverage_of_summary form summary)
summary_unread Memory form summary input same h = inr (inl refl)
summary_unread ReadFault form summary input same h = inr (inr refl)
summary_unread WriteFault form summary input same h = inr (inl refl)
summary_unread other form summary input same h = inl (ap (λ (x : Result SummaryForm Refusal). x >>= λ (s : SummaryForm). let text : Result (List ℕ) Refusal = Ok (summary_coverage form s) in text) (ap summary_read (sym same) ∙ h (λ is. cc) (λ is. cc)))

-- one that was read
pub summary_inspected : (given : Given) (form : ReportForm) (s : SummaryForm) (summary input : List ℕ) → input ≡ summary → summary_read input ≡ Ok s → Yields given (Ok (summary_coverage form s)) → Yields given (coverage_of_summary form summary)
summary_inspected given form s summary input same read h =
    subst (Yields given) (sym (ap (λ (x : Result SummaryForm Refusal). x >>= λ (s : SummaryForm). let text : Result (List ℕ) Refusal = Ok (summary_coverage form s) in text) (ap summary_read (sym same) ∙ read))) h
