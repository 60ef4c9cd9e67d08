-- Answers of partial answers in bytes, or why there are none, as what is given to C.
use Rattle.std.specs.Prelude.{◌≡◌, ℕ, List, Some, Ok, Err}
use Rattle.std.proofs.Common.{refl, sym, ap, subst, ◌∙◌, inl, inr}
use Rattle.table_model.specs.declared.refusal.Refusal.{Refusal}
use Rattle.partial_answers.specs.declared.partial_answer.PartialAnswer.{PartialAnswer}
use Rattle.column_file.specs.Input.{Judges}
use Rattle.partial_file.specs.PartialAnswerReading.{form_of, partial_answer_read}
use Rattle.partial_commands.specs.declared.partial_answer_error.PartialAnswerError.TheVariants as errors
use Rattle.lanes_c.specs.AnswerColumns.{Answered, FinishesPartial, FinishesTo}
use Rattle.lanes_c.specs.Faults.{told}

-- a partial answer that was read
pub answer_given : (given : Answered) (p : PartialAnswer) (partial input : List ℕ) → input ≡ partial → Judges form_of (Ok p) (Some input) partial_answer_read → FinishesPartial given p → FinishesTo given partial
answer_given (Ok answer) p partial input same read (asked, is) = (p, ap partial_answer_read (sym same) ∙ read, asked, is)
answer_given (Err fault) p partial input same read (inl (f, is, why)) = inl (errors.Fault f, is, (p, ap partial_answer_read (sym same) ∙ read, why))
answer_given (Err fault) p partial input same read (inr lacks) = inr lacks

-- bytes that are no partial answer
pub unread_given : (e : Refusal) (partial input : List ℕ) → input ≡ partial → Judges {X = PartialAnswer} form_of (Err e) (Some input) partial_answer_read → FinishesTo (Err (told e)) partial
unread_given e partial input same why =
    let P : List ℕ → Type 0 = λ i. Judges {X = PartialAnswer} form_of (Err e) (Some i) partial_answer_read in
    inl (errors.Refused e, refl, subst P same why)
