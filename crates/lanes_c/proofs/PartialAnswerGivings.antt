-- Partial answers in bytes, as they were read, written or refused, as what is given to C.
use Rattle.std.specs.Prelude.{◌≡◌, ◌⊎◌, ℕ, List, [], Option, Some, None, Result, Ok, Err}
use Rattle.std.proofs.Common.{refl, sym, ap, subst, ◌∙◌, inl, inr}
use Rattle.table_model.specs.declared.refusal.Refusal.{Refusal}
use Rattle.table_model.specs.declared.refusal.Refusal.TheVariants.{Memory, WriteFault}
use Rattle.answer_formats.specs.declared.format.Format.{Format}
use Rattle.partial_answers.specs.declared.partial_answer.PartialAnswer.{PartialAnswer}
use Rattle.column_file.specs.Files.{Exports}
use Rattle.column_file.specs.Input.{Judges}
use Rattle.partial_commands.specs.PartialAnswerTurns.{CombinesNext, IsAnswerText, RefusesNext, WritesAnswer}
use Rattle.partial_commands.specs.StorePartialAnswer.{PartialAnswerMeaning, meaning_of}
use Rattle.partial_commands.specs.declared.partial_answer_error.PartialAnswerError.{PartialAnswerError}
use Rattle.partial_commands.specs.declared.partial_answer_error.PartialAnswerError.TheVariants as errors
use Rattle.partial_file.specs.PartialAnswerBytes.{partial_answer_bytes}
use Rattle.partial_file.specs.PartialAnswerReading.{form_of, partial_answer_read}
use Rattle.lanes_c.specs.Faults.{told, told_of_partial_answer}
use Rattle.lanes_c.specs.PartialAnswers.{Combines, Finishes, GivesPartialAnswer, IsSpelled, IsWhyNotCombined}
use Rattle.lanes_c.specs.Rooms.{Given}
use Rattle.lanes_c.specs.Taking.{taken_of}
use Rattle.lanes_c.specs.declared.fault.Fault.{Fault}
use Rattle.lanes_c.specs.declared.fault.Fault.TheVariants.{Refused}

-- ---- written

-- bytes that were written into a vector
pub bytes_given : (given : Given) (done : Result (Unit {0}) Refusal) (start written : List ℕ) (w w' : ℕ) (bytes : List ℕ) → given ≡ taken_of done written → start ≡ []
    → Exports done (Some start) (Some written) w w' bytes → IsSpelled given bytes
bytes_given given done start written w w' bytes taken empty h =
    let P : List ℕ → Type 0 = λ s. Exports done (Some s) (Some written) w w' bytes in
    subst (λ (g : Given). IsSpelled g bytes) (sym taken) (gives done (subst P empty h))
  where
    gives : (done : Result (Unit {0}) Refusal) → Exports done (Some []) (Some written) w w' bytes → IsSpelled (taken_of done written) bytes
    gives (Ok unit) h = h.0
    gives (Err Memory) h = refl
    gives (Err other) h = ap told h.0

-- ---- asked

-- the bytes of the partial answer that is meant
pub partial_answer_given : (given : Given) (p : PartialAnswer) (meaning : Result PartialAnswerMeaning Refusal) → meaning ≡ Ok (meaning_of p) → IsSpelled given (partial_answer_bytes p) → GivesPartialAnswer given meaning
partial_answer_given (Ok bytes) p meaning is all = (p, is, all)
partial_answer_given (Err fault) p meaning is lacks = let P : Fault → Type 0 = λ f. GivesPartialAnswer (Err f) meaning in subst P (sym lacks) (inr (inl refl))

-- a query that is refused
pub partial_answer_refused : (e : Refusal) (meaning : Result PartialAnswerMeaning Refusal) → (meaning ≡ Err e) ⊎ (e ≡ Memory) → GivesPartialAnswer (Err (told e)) meaning
partial_answer_refused WriteFault meaning why = inr (inl refl)
partial_answer_refused other meaning (inl is) = inl is
partial_answer_refused other meaning (inr is) = inr (inl is)

-- ---- combined

-- two partial answers that were read and combined
pub both_given : (first both : PartialAnswer) (one other input next : List ℕ) → input ≡ one → next ≡ other → CombinesNext None (Some input) first → CombinesNext (Some first) (Some next) both
    → (f : PartialAnswer) × CombinesNext None (Some one) f × CombinesNext (Some f) (Some other) both
both_given first both one other input next same same' a b =
    let P : List ℕ → Type 0 = λ i. CombinesNext None (Some i) first in
    let Q : List ℕ → Type 0 = λ i. CombinesNext (Some first) (Some i) both in
    (first, subst P same a, subst Q same' b)

-- the first partial answer is refused
pub first_refused : (e : PartialAnswerError) (one other input : List ℕ) → input ≡ one → RefusesNext e None (Some input) → IsWhyNotCombined (told_of_partial_answer e) one other
first_refused e one other input same why =
    let P : List ℕ → Type 0 = λ i. RefusesNext e None (Some i) in
    (e, refl, inl (subst P same why))

-- the second one is, or the two don't go together
pub second_refused : (e : PartialAnswerError) (first : PartialAnswer) (one other input next : List ℕ) → input ≡ one → next ≡ other → CombinesNext None (Some input) first → RefusesNext e (Some first) (Some next)
    → IsWhyNotCombined (told_of_partial_answer e) one other
second_refused e first one other input next same same' a why =
    let P : List ℕ → Type 0 = λ i. CombinesNext None (Some i) first in
    let Q : List ℕ → Type 0 = λ i. RefusesNext e (Some first) (Some i) in
    (e, refl, inr (first, subst P same a, subst Q same' why))

-- the bytes of both
pub combined_given : (given : Given) (both : PartialAnswer) (one other : List ℕ) → (first : PartialAnswer) × CombinesNext None (Some one) first × CombinesNext (Some first) (Some other) both → IsSpelled given (partial_answer_bytes both)
    → Combines given one other
combined_given (Ok bytes) both one other (first, a, b) all = (first, both, a, b, all)
combined_given (Err fault) both one other h lacks = inr lacks

-- ---- finished

-- an answer that was written
pub finished_given : (format : Format) (unit : Unit {0}) (partial input start written : List ℕ) → input ≡ partial → start ≡ [] → WritesAnswer format (Ok unit) (Some input) (Some start) (Some written)
    → Finishes (Ok written) format partial
finished_given format unit partial input start written same empty h =
    let P : List ℕ → Type 0 = λ s. WritesAnswer format (Ok unit) (Some input) (Some s) (Some written) in
    let Q : List ℕ → Type 0 = λ i. WritesAnswer format (Ok unit) (Some i) (Some []) (Some written) in
    gives (subst Q same (subst P empty h))
  where
    gives : WritesAnswer format (Ok unit) (Some partial) (Some []) (Some written) → Finishes (Ok written) format partial
    gives (p, text, read, is, all) = (p, read, (let R : List ℕ → Type 0 = λ t. IsAnswerText format p t in subst R (sym all) is))

-- a partial answer that is refused, or that has no answer
pub not_finished : (format : Format) (e : PartialAnswerError) (partial input : List ℕ) (start now : Option (List ℕ)) → input ≡ partial → WritesAnswer format (Err e) (Some input) start now
    → Finishes (Err (told_of_partial_answer e)) format partial
not_finished format (errors.Refused e) partial input start now same (inl (read, is)) =
    let P : List ℕ → Type 0 = λ i. Judges {X = PartialAnswer} form_of (Err e) (Some i) partial_answer_read in
    inl (errors.Refused e, refl, subst P same read)
not_finished format (errors.Refused e) partial input start now same (inr (is, front)) = inr (ap told is)
not_finished format (errors.Fault f) partial input start now same (p, read, why, is) =
    inl (errors.Fault f, refl, (p, ap partial_answer_read (sym same) ∙ read, why))
