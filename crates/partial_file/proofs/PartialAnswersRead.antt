-- A partial answer that was read, as its form.
use Rattle.std.proofs.Common.{◌≡◌, List, ℕ, Result, Ok, Err, inl, inr, refl, ap, ◌∙◌}
use Rattle.table_model.specs.Reading.{Reads, ◌>>=◌}
use Rattle.table_model.specs.declared.refusal.Refusal.{Refusal}
use Rattle.segment_core.specs.Format.{Format, read_whole}
use Rattle.partial_answers.specs.declared.partial_answer.PartialAnswer.{PartialAnswer}
use Rattle.partial_file.specs.PartialAnswerBytes.{body_of, partial, partial_answer_bytes}
use Rattle.partial_file.specs.PartialAnswerReading.{PartialAnswerForm, PartialAnswersAreReadAgain, form_of, partial_answer_listed, partial_answer_read}
use Rattle.column_file.proofs.FileLaws.{whole_again}
use Rattle.partial_file.proofs.PartialAnswerLaws.{partial_answer_is_lawful}
use Rattle.partial_file.proofs.RunLists.{names_are}

-- a partial answer's form is that of its schema and of what comes after it
pub form_is : (p : PartialAnswer) → partial_answer_listed (p.schema, body_of p) ≡ form_of p
form_is p =
    let held = names_are p.held in
    let strays = names_are p.strays in
    λ i. record { schema = p.schema; text = (form_of p).text; held = held i; strays = strays i; groups = (form_of p).groups }

abbrev done : PartialAnswerForm → Result PartialAnswerForm Refusal
done form = Ok form

-- what is read whole is read as that form
pub is_read : (p : PartialAnswer) (bytes : List ℕ) → read_whole partial bytes ≡ Ok (p.schema, body_of p) → partial_answer_read bytes ≡ Ok (form_of p)
is_read p bytes read =
    let made : partial_answer_read bytes ≡ done (partial_answer_listed (p.schema, body_of p)) = rw read refl in
    made ∙ ap done (form_is p)

pub reads_form : (result : Result PartialAnswer Refusal) (bytes : List ℕ) → Reads (λ (p : PartialAnswer). (p.schema, body_of p)) result (read_whole partial bytes) → Reads form_of result (partial_answer_read bytes)
reads_form (Ok p) bytes read = is_read p bytes read
reads_form (Err e) bytes (inl fault) = inl (rw fault refl)
reads_form (Err e) bytes (inr memory) = inr memory

pub partial_answers_are_read_again : PartialAnswersAreReadAgain
partial_answers_are_read_again p valid = is_read p (partial_answer_bytes p) (whole_again partial partial_answer_is_lawful (p.schema, body_of p) valid)
