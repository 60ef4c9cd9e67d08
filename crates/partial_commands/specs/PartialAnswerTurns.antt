-- What the calls say that read a partial answer: one that combines it with those before it, and one that writes its answer.
use Rattle.std.specs.Prelude.{◌≡◌, ◌⊎◌, ℕ, List, Option, Some, None, Result, Ok, Err}
use Rattle.std.specs.Io.KnownBytes.{Appends}
use Rattle.std.specs.String.{string_bytes}
use Rattle.table_model.specs.Answer.{AnswerParts}
use Rattle.table_model.specs.Faults.{AppendsFront, CountsBoth, CountsReads}
use Rattle.table_model.specs.declared.refusal.Refusal.{Refusal}
use Rattle.table_model.specs.declared.refusal.Refusal.TheVariants.{Memory, WriteFault}
use Rattle.answer_formats.specs.Formats.{formatted}
use Rattle.answer_formats.specs.declared.format.Format.{Format}
use Rattle.partial_answers.specs.Combining.{AreCombined, IsRefused}
use Rattle.partial_answers.specs.Shape.{IsQueryOf, RefusesFinishing}
use Rattle.partial_answers.specs.declared.fault.PartialAnswerFault.{PartialAnswerFault}
use Rattle.partial_answers.specs.declared.partial_answer.PartialAnswer.{PartialAnswer}
use Rattle.column_file.specs.Input.{Judges}
use Rattle.partial_file.specs.PartialAnswerReading.{form_of, partial_answer_read}
use Rattle.partial_commands.specs.StorePartialAnswer.{finished, meaning_of}
use Rattle.partial_commands.specs.declared.partial_answer_error.PartialAnswerError.{PartialAnswerError}
use Rattle.partial_commands.specs.declared.partial_answer_error.PartialAnswerError.TheVariants.{Refused, Fault}

-- ---- partial answers combined

-- a partial answer, together with the one before it, if there is one
abbrev pub Follows : Option PartialAnswer → PartialAnswer → PartialAnswer → Type 0
Follows None next both = both ≡ next
Follows (Some before) next both = AreCombined before next both

-- why a partial answer isn't combined with the one before it
abbrev pub RefusesToFollow : PartialAnswerFault → Option PartialAnswer → PartialAnswer → Type 0
RefusesToFollow fault None next = ⊥
RefusesToFollow fault (Some before) next = IsRefused fault before next

-- the partial answer that a reader has was combined with the one before it, if there is one
abbrev pub CombinesNext : Option PartialAnswer → Option (List ℕ) → PartialAnswer → Type 0
CombinesNext before input both = (next : PartialAnswer) × Judges form_of (Ok next) input partial_answer_read × Follows before next both

-- why it wasn't: its bytes are refused, or it doesn't go with the one before it
abbrev pub RefusesNext : PartialAnswerError → Option PartialAnswer → Option (List ℕ) → Type 0
RefusesNext (Refused e) before input = Judges {X = PartialAnswer} form_of (Err e) input partial_answer_read
RefusesNext (Fault fault) before input = (next : PartialAnswer) × Judges form_of (Ok next) input partial_answer_read × RefusesToFollow fault before next

-- a reader's count of failures before and after an error
abbrev pub CountsErrors : Type 0 → PartialAnswerError → ℕ → ℕ → Type 0
CountsErrors many (Refused e) before after = CountsReads many e before after
CountsErrors many (Fault fault) before after = after ≡ before

-- ---- the answer of a partial answer

-- The text of a partial answer is a query of its table, and a text is that of the answer to which the partial answer finishes.
pub record IsAnswerText (format : Format) (p : PartialAnswer) (text : List ℕ) : Type 0 where
  pub asked : IsQueryOf p.schema (string_bytes p.text)
  pub answer : AnswerParts
  pub finishes : finished (meaning_of p) ≡ Ok answer
  pub written : text ≡ formatted format answer

-- why a partial answer isn't finished: it can't be, or memory ran out
abbrev pub IsUnfinished : PartialAnswerError → PartialAnswer → Type 0
IsUnfinished (Refused e) p = e ≡ Memory
IsUnfinished (Fault fault) p = RefusesFinishing fault p

-- What was written is the answer that the partial answer of a reader finishes to; or the partial answer can't be finished, or its bytes were refused, or
-- memory ran out, and nothing was written; or a write failed after a front of the answer.
abbrev pub WritesAnswer : Format → Result (Unit {0}) PartialAnswerError → Option (List ℕ) → Option (List ℕ) → Option (List ℕ) → Type 0
WritesAnswer format (Ok done) input before now = (p : PartialAnswer) × (text : List ℕ) × Judges form_of (Ok p) input partial_answer_read × IsAnswerText format p text × Appends before now text
WritesAnswer format (Err (Fault fault)) input before now = (p : PartialAnswer) × Judges form_of (Ok p) input partial_answer_read × RefusesFinishing fault p × (now ≡ before)
WritesAnswer format (Err (Refused e)) input before now =
    (Judges {X = PartialAnswer} form_of (Err e) input partial_answer_read × (now ≡ before))
    ⊎ ((e ≡ WriteFault) × ((p : PartialAnswer) × (text : List ℕ) × Judges form_of (Ok p) input partial_answer_read × IsAnswerText format p text × AppendsFront before now text))

-- both counts before and after an error
abbrev pub CountsBothErrors : Type 0 → PartialAnswerError → ℕ → ℕ → ℕ → ℕ → Type 0
CountsBothErrors many (Refused e) r r' w w' = CountsBoth many e r r' w w'
CountsBothErrors many (Fault fault) r r' w w' = (r' ≡ r) × (w' ≡ w)
