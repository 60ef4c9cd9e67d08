-- The answer under an expectation, step by step.
use Rattle.std.specs.Prelude.{◌≡◌, ◌⊎◌, ℕ, List, Option, Result, Ok, Err}
use Rattle.std.proofs.Common.{inl, inr, refl, sym, subst}
use Rattle.table_model.specs.Counted.{one_more}
use Rattle.table_model.specs.Faults.{AppendsFront, CountsWrites}
use Rattle.table_model.specs.declared.refusal.Refusal.{Refusal}
use Rattle.table_model.specs.declared.refusal.Refusal.TheVariants.{Memory, WriteFault}
use Rattle.answer_formats.specs.declared.format.Format.{Format}
use Rattle.replica_store.specs.Exchange.{SummaryForm}
use Rattle.partial_answers.specs.declared.partial_answer.PartialAnswer.{PartialAnswer}
use Rattle.partial_commands.specs.Expecting.{CountsUnexpected, Covers, IsUncovered, WritesExpected}
use Rattle.partial_commands.specs.PartialAnswerTurns.{IsAnswerText, IsUnfinished}
use Rattle.partial_commands.specs.declared.expectation_error.ExpectationError.{ExpectationError}
use Rattle.partial_commands.specs.declared.expectation_error.ExpectationError.TheVariants.{SchemaDiffers, Missing, Unanswered}
use Rattle.partial_commands.specs.declared.partial_answer_error.PartialAnswerError.{PartialAnswerError}
use Rattle.partial_commands.specs.declared.partial_answer_error.PartialAnswerError.TheVariants.{Refused, Fault}

refused_one : (e f : Refusal) → ◌≡◌ {A = PartialAnswerError} (Refused e) (Refused f) → e ≡ f
refused_one e f is = cc

-- what is expected isn't covered: nothing is written
pub uncovered_told : (format : Format) (e : ExpectationError) (p : PartialAnswer) (expected : List SummaryForm) (known : Option (List ℕ)) → IsUncovered e p expected → WritesExpected format (Err e) p expected known known
uncovered_told format SchemaDiffers p expected known why = (why, refl)
uncovered_told format (Missing name) p expected known why = (why.0, why.1, refl)
uncovered_told format (Unanswered (Refused e)) p expected known why = inl (refused_one e Memory why, refl)
uncovered_told format (Unanswered (Fault fault)) p expected known why = absurd cc

-- and nothing is counted
pub uncovered_counts : (e : ExpectationError) (p : PartialAnswer) (expected : List SummaryForm) (w : ℕ) → IsUncovered e p expected → CountsUnexpected e w w
uncovered_counts SchemaDiffers p expected w why = refl
uncovered_counts (Missing name) p expected w why = refl
uncovered_counts (Unanswered (Refused e)) p expected w why = subst (λ (x : Refusal). CountsWrites x w w) (sym (refused_one e Memory why)) refl
uncovered_counts (Unanswered (Fault fault)) p expected w why = refl

-- what is expected is covered, and the partial answer isn't finished
pub unfinished_told : (format : Format) (e : PartialAnswerError) (p : PartialAnswer) (expected : List SummaryForm) (known : Option (List ℕ)) → Covers p expected → IsUnfinished e p → WritesExpected format (Err (Unanswered e)) p expected known known
unfinished_told format (Refused e) p expected known covers why = inl (why, refl)
unfinished_told format (Fault fault) p expected known covers why = (covers, why, refl)

pub unfinished_counts : (e : PartialAnswerError) (p : PartialAnswer) (w : ℕ) → IsUnfinished e p → CountsUnexpected (Unanswered e) w w
unfinished_counts (Refused e) p w why = subst (λ (x : Refusal). CountsWrites x w w) (sym why) refl
unfinished_counts (Fault fault) p w why = refl

-- the answer's write fails
pub unwritten_told : (format : Format) (e : Refusal) (p : PartialAnswer) (expected : List SummaryForm) (before now : Option (List ℕ)) (text : List ℕ) → Covers p expected → IsAnswerText format p text → e ≡ WriteFault → AppendsFront before now text
    → WritesExpected format (Err (Unanswered (Refused e))) p expected before now
unwritten_told format e p expected before now text covers is fault front = inr (fault, (covers, (text, is, front)))

pub unwritten_counts : (e : Refusal) (w w' : ℕ) → e ≡ WriteFault → w' ≡ one_more w → CountsUnexpected (Unanswered (Refused e)) w w'
unwritten_counts e w w' is more = subst (λ (x : Refusal). CountsWrites x w w') (sym is) more
