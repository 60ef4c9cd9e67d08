-- What the calls on partial answers give.
use Rattle.std.specs.Prelude.{◌≡◌, ◌⊎◌, ℕ, ◌==◌, cond, List, MatchOption, Option, Some, None, Result, Ok, Err}
use Rattle.std.specs.Str.{IsUtf8}
use Rattle.std.specs.Str.Lossy.{utf8_valid_len}
use Rattle.table_model.specs.declared.refusal.Refusal.{Refusal}
use Rattle.table_model.specs.declared.refusal.Refusal.TheVariants.{Memory, Syntax}
use Rattle.answer_formats.specs.declared.format.Format.{Format}
use Rattle.answer_formats.specs.declared.format.Format.TheVariants as formats
use Rattle.partial_answers.specs.Shape.{RefusesFinishing}
use Rattle.partial_answers.specs.declared.partial_answer.PartialAnswer.{PartialAnswer}
use Rattle.column_file.specs.Input.{IsUnread, Judges}
use Rattle.partial_commands.specs.PartialAnswerTurns.{CombinesNext, IsAnswerText, RefusesNext}
use Rattle.partial_commands.specs.StorePartialAnswer.{PartialAnswerMeaning, meaning_of, query_partial_answer}
use Rattle.partial_commands.specs.declared.partial_answer_error.PartialAnswerError.{PartialAnswerError}
use Rattle.partial_commands.specs.declared.partial_answer_error.PartialAnswerError.TheVariants as errors
use Rattle.partial_file.specs.PartialAnswerBytes.{partial_answer_bytes}
use Rattle.partial_file.specs.PartialAnswerReading.{form_of, partial_answer_read}
use Rattle.replica_store.specs.Replica.{Replica}
use Rattle.lanes_c.specs.Faults.{told_of_partial_answer}
use Rattle.lanes_c.specs.Opened.{IsNotOpen}
use Rattle.lanes_c.specs.Rooms.{Given, Tells}
use Rattle.lanes_c.specs.declared.fault.Fault.{Fault}
use Rattle.lanes_c.specs.declared.fault.Fault.TheVariants.{Refused}
use Rattle.lanes_c.specs.declared.fault.Place.{Place}
use Rattle.lanes_c.specs.declared.handle.Table.{Table}

-- bytes are given, if memory doesn't run out
abbrev pub IsSpelled : Given → List ℕ → Type 0
IsSpelled (Ok bytes) wanted = bytes ≡ wanted
IsSpelled (Err fault) wanted = fault ≡ Refused Memory

-- What is given are the bytes of the partial answer that is meant, or the refusal; out of memory may come in the place of anything.
abbrev pub GivesPartialAnswer : Given → Result PartialAnswerMeaning Refusal → Type 0
GivesPartialAnswer (Ok bytes) meaning = (p : PartialAnswer) × (meaning ≡ Ok (meaning_of p)) × (bytes ≡ partial_answer_bytes p)
GivesPartialAnswer (Err (Refused e)) meaning = (meaning ≡ Err e) ⊎ IsUnread e
GivesPartialAnswer (Err other) meaning = ⊥

-- the partial answer that a replica gives to a text's query; bytes that are no text are refused before all else
abbrev pub AsksPartialAnswer : Given → List ℕ → Replica → Type 0
AsksPartialAnswer given text r = (IsUtf8 text → GivesPartialAnswer given (query_partial_answer text r.schema r.state)) × ((IsUtf8 text → ⊥) → given ≡ Err (Refused (Syntax (utf8_valid_len text))))

-- lanes_partial: The handle stays as it was. Of a closed one NotOpen is reported. Of an open one the partial answer is given of what it has.
abbrev pub PartialAnswersOpen : ℕ → List ℕ → Table → Table → List ℕ → List ℕ → ℕ → Place → Type 0
PartialAnswersOpen number sql old new was room length place =
    (new.replica ≡ old.replica)
    × MatchOption old.replica (Tells IsNotOpen number was room length place) (λ r. Tells (λ given. AsksPartialAnswer given sql r) number was room length place)

-- two partial answers in bytes aren't combined: the one is refused, or the other, or they don't go together, or memory runs out
abbrev pub IsWhyNotCombined : Fault → List ℕ → List ℕ → Type 0
IsWhyNotCombined fault one other =
    (e : PartialAnswerError) × (fault ≡ told_of_partial_answer e) × (RefusesNext e None (Some one) ⊎ ((first : PartialAnswer) × CombinesNext None (Some one) first × RefusesNext e (Some first) (Some other)))

-- lanes_combine: the bytes are those of the two partial answers combined; out of memory may come in the place of anything
abbrev pub Combines : Given → List ℕ → List ℕ → Type 0
Combines (Ok bytes) one other = (first both : PartialAnswer) × CombinesNext None (Some one) first × CombinesNext (Some first) (Some other) both × (bytes ≡ partial_answer_bytes both)
Combines (Err fault) one other = IsWhyNotCombined fault one other ⊎ (fault ≡ Refused Memory)

-- the format of a number
abbrev pub format_numbered : ℕ → Format
format_numbered n = cond (n == 1) formats.Csv (cond (n == 2) formats.Json (cond (n == 3) formats.Table formats.Text))

-- a partial answer isn't finished: its bytes are refused, or there is a reason why it can't be, or memory runs out
abbrev pub IsWhyNotFinished : PartialAnswerError → List ℕ → Type 0
IsWhyNotFinished (errors.Refused e) partial = Judges {X = PartialAnswer} form_of (Err e) (Some partial) partial_answer_read
IsWhyNotFinished (errors.Fault f) partial = (p : PartialAnswer) × (partial_answer_read partial ≡ Ok (form_of p)) × RefusesFinishing f p

-- lanes_finish: the text is that of the answer that the partial answer is finished to
abbrev pub Finishes : Given → Format → List ℕ → Type 0
Finishes (Ok text) format partial = (p : PartialAnswer) × (partial_answer_read partial ≡ Ok (form_of p)) × IsAnswerText format p text
Finishes (Err fault) format partial = ((e : PartialAnswerError) × (fault ≡ told_of_partial_answer e) × IsWhyNotFinished e partial) ⊎ (fault ≡ Refused Memory)
