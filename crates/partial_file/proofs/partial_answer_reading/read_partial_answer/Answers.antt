-- The reader is read whole, and the partial answer is what its bytes are.
use Rattle.std.proofs.Common.{List, ℕ, subst, refl}
use Rattle.std.proofs.lemmas.Result.{err_from_is_err_and}
use Rattle.table_model.specs.Reading.{Reads}
use Rattle.column_file.proofs.FaultsOfBytes.{reads_judged}
use Rattle.column_file.proofs.Inputs.{judged, unread, unread_stops}
use Rattle.partial_file.specs.PartialAnswerReading.{form_of, is_fault_of_partial_answer, partial_answer_read}
use Rattle.partial_file.proofs.FaultsOfPartialAnswers.{partial_answer_read_judged}
use Rattle.partial_file.proofs.partial_answer_reading.read_partial_answer.Goals as goal

pub returns-clause-read : goal.returns-clause-read
returns-clause-read g c =
    let P : List ℕ → Type 0 = λ bytes. Reads form_of c.partial_answer_in.result (partial_answer_read bytes) in
    judged form_of c.partial_answer_in.result (g.R.Read.remaining c.args.reader.now.0) (g.R.Read.remaining c.read_input.new.reader.0) c.in_ok-input.input.items partial_answer_read c.in_ok-input.ensures.bytes c.in_ok-input.ensures.reads.end
    (subst P c.as_slice.ensures.value c.partial_answer_in.ensures)

pub returns-clause-reads : goal.returns-clause-reads
returns-clause-reads g c =
    reads_judged g.R.Read.remaining is_fault_of_partial_answer form_of c.args.reader.now c.read_input.new.reader c.partial_answer_in.result (partial_answer_read c.as_slice.result.now) refl c.in_ok-input.ensures.reads c.partial_answer_in.ensures (partial_answer_read_judged c.as_slice.result.now)

pub returns-in_err-input-clause-read : goal.returns-in_err-input-clause-read
returns-in_err-input-clause-read g c =
    let p = err_from_is_err_and c.from_residual.result c.from_residual.ensures.1 in
    rw (p.1, p.2) (unread form_of c.in_err-input.field-0.0 (g.R.Read.remaining c.args.reader.now.0) partial_answer_read c.in_err-input.ensures.reads.listed)

pub returns-in_err-input-clause-reads : goal.returns-in_err-input-clause-reads
returns-in_err-input-clause-reads g c =
    let p = err_from_is_err_and c.from_residual.result c.from_residual.ensures.1 in
    rw (p.1, p.2) (unread_stops g.R.Read.remaining is_fault_of_partial_answer c.args.reader.now c.read_input.new.reader c.in_err-input.field-0.0 c.in_err-input.ensures.reads)
