-- The partial answer of a store, step by step: it is made and written.
use Rattle.std.specs.Prelude.{◌≡◌, ◌⊎◌, ℕ, true, false, List, Option, Result, Ok, Err, IsTrue, IfErr, OnOk}
use Rattle.std.proofs.Common.{inl, inr, refl, ap}
use Rattle.table_model.specs.Faults.{AppendsFront, CountsWrites}
use Rattle.table_model.specs.Reading.{Reads}
use Rattle.table_model.specs.declared.refusal.Refusal.{Refusal}
use Rattle.table_model.specs.declared.refusal.Refusal.TheVariants.{Memory, WriteFault}
use Rattle.partial_answers.specs.declared.partial_answer.PartialAnswer.{PartialAnswer}
use Rattle.column_file.specs.Files.{Exports}
use Rattle.partial_file.specs.PartialAnswerBytes.{partial_answer_bytes}
use Rattle.partial_file.specs.PartialAnswerReading.{has_bytes}
use Rattle.replica_reports.specs.Asking.{is_refusal_of_answering}
use Rattle.replica_changes.proofs.CommandSteps.{exported_put}
use Rattle.store_view.specs.Asked.{is_refusal_of_query}
use Rattle.partial_commands.specs.PartialAnswerWriting.{WritesPartialAnswer}
use Rattle.partial_commands.specs.StorePartialAnswer.{PartialAnswerMeaning, meaning_of}

-- its query is refused: nothing is written
pub query_refused : (e : Refusal) (known : Option (List ℕ)) (given : Result PartialAnswerMeaning Refusal) → Reads {X = PartialAnswer} meaning_of (Err e) given → WritesPartialAnswer (Err e) known known given
query_refused e known given (inl is) = inl (refl, inl is)
query_refused e known given (inr lacks) = inl (refl, inr lacks)

unwritten : (p : PartialAnswer) (e : Refusal) (before now : Option (List ℕ)) (given : Result PartialAnswerMeaning Refusal) → given ≡ Ok (meaning_of p)
    → ((e ≡ Memory) × (now ≡ before)) ⊎ ((e ≡ WriteFault) × AppendsFront before now (partial_answer_bytes p)) → WritesPartialAnswer (Err e) before now given
unwritten p e before now given is (inl lacks) = inl (lacks.1, inr lacks.0)
unwritten p e before now given is (inr failed) = inr (failed.0, (p, is, failed.1))

-- its bytes are written
pub partial_answer_written : (p : PartialAnswer) (result : Result (Unit {0}) Refusal) (before now : Option (List ℕ)) (w w' : ℕ) (given : Result PartialAnswerMeaning Refusal) → given ≡ Ok (meaning_of p)
    → Exports result before now w w' (partial_answer_bytes p) → OnOk result (IsTrue (has_bytes p)) → WritesPartialAnswer result before now given
partial_answer_written p (Ok done) before now w w' given is h has = (p, is, h.0, has)
partial_answer_written p (Err e) before now w w' given is h has = unwritten p e before now given is (exported_put e before now w w' (partial_answer_bytes p) h)

listed : (e : Refusal) (before now : Option (List ℕ)) (bytes : List ℕ) → ((e ≡ Memory) × (now ≡ before)) ⊎ ((e ≡ WriteFault) × AppendsFront before now bytes) → IsTrue (is_refusal_of_answering e)
listed e before now bytes (inl lacks) = ap is_refusal_of_answering lacks.0
listed e before now bytes (inr failed) = ap is_refusal_of_answering failed.0

pub writing_listed : (result : Result (Unit {0}) Refusal) (before now : Option (List ℕ)) (w w' : ℕ) (bytes : List ℕ) → Exports result before now w w' bytes → IfErr result (λ e. IsTrue (is_refusal_of_answering e))
writing_listed (Ok done) before now w w' bytes h = tt
writing_listed (Err e) before now w w' bytes h = listed e before now bytes (exported_put e before now w w' bytes h)

pub writing_kept : (result : Result (Unit {0}) Refusal) (before now : Option (List ℕ)) (w w' : ℕ) (bytes : List ℕ) → Exports result before now w w' bytes → OnOk result (w' ≡ w)
writing_kept (Ok done) before now w w' bytes h = h.1
writing_kept (Err e) before now w w' bytes h = tt

pub query_answers : (e : Refusal) → IsTrue (is_refusal_of_query e) → IsTrue (is_refusal_of_answering e)
query_answers WriteFault h = refl
query_answers other h = h

pub query_counts : (e : Refusal) (w : ℕ) → IsTrue (is_refusal_of_query e) → CountsWrites e w w
query_counts WriteFault w h = let wrong : false ≡ true = h in absurd cc
query_counts other w h = refl
