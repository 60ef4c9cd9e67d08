-- A file is opened or refused, and a query over what is open is answered as it is over the file.
use Rattle.std.specs.Prelude.{◌≡◌, ◌⊎◌, ℕ, List, Result, Ok, Err}
use Rattle.std.proofs.Common.{refl, sym, ap, subst, ◌∙◌, inl, inr}
use Rattle.table_model.specs.Answer.{AnswerParts, answer_text}
use Rattle.table_model.specs.Reading.{◌>>=◌}
use Rattle.table_model.specs.declared.refusal.Refusal.{Refusal}
use Rattle.table_model.specs.declared.refusal.Refusal.TheVariants.{Memory, ReadFault, WriteFault}
use Rattle.replica_reports.specs.Held.{held_in}
use Rattle.replica_store.specs.Replica.{Replica}
use Rattle.store_view.specs.Asked.{query_answer}
use Rattle.lanes_c.specs.Calls.{Yields, query_of}
use Rattle.lanes_c.specs.Faults.{told}
use Rattle.lanes_c.specs.Opened.{IsWhyNotOpened, answered_at}
use Rattle.lanes_c.proofs.Givings.{told_why}

-- a file that is refused as it is read
pub why_not_opened : (e : Refusal) (file input : List ℕ) → input ≡ file → ((e ≡ Memory → ⊥) → (e ≡ ReadFault → ⊥) → held_in input ≡ Err e) → IsWhyNotOpened (told e) file
why_not_opened Memory file input same h = inr (inl refl)
why_not_opened ReadFault file input same h = inr (inr refl)
why_not_opened WriteFault file input same h = inr (inl refl)
why_not_opened other file input same h = inl (ap held_in (sym same) ∙ h (λ is. cc) (λ is. cc))

-- an answer as its text
pub text_given : (r : Replica) (sql : List ℕ) (answer : AnswerParts) (text : List ℕ) → query_answer sql r.schema r.state ≡ Ok answer → text ≡ answer_text answer → answered_at r sql ≡ Ok text
text_given r sql answer text is same =
    let next : AnswerParts → Result (List ℕ) Refusal = λ answer. Ok (answer_text answer) in
    let texts : List ℕ → Result (List ℕ) Refusal = λ text. Ok text in
    ap (λ (a : Result AnswerParts Refusal). a >>= next) is ∙ ap texts (sym same)

-- a query that is refused
pub query_refused : (r : Replica) (sql : List ℕ) (e : Refusal) → (query_answer sql r.schema r.state ≡ Err e) ⊎ (e ≡ Memory) → Yields (Err (told e)) (answered_at r sql)
query_refused r sql e (inl is) =
    let next : AnswerParts → Result (List ℕ) Refusal = λ answer. Ok (answer_text answer) in
    told_why e (answered_at r sql) (inl (ap (λ (a : Result AnswerParts Refusal). a >>= next) is))
query_refused r sql e (inr is) = told_why e (answered_at r sql) (inr (inl is))

-- what holds at the replica of a file holds of the file
pub at_file : (P : (List ℕ → Result (List ℕ) Refusal) → Type 0) (file : List ℕ) (r : Replica) → held_in file ≡ Ok r → P (answered_at r) → P (λ sql. query_of sql file)
at_file P file r held h =
    let meaning : Result Replica Refusal → List ℕ → Result (List ℕ) Refusal = λ opened sql. opened >>= λ (r : Replica). answered_at r sql in
    subst P (sym (ap meaning held)) h
