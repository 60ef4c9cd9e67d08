-- The laws of the commands on partial answers.
use Rattle.std.specs.Prelude.{◌≡◌, ◌↔◌, ◌⊎◌, ℕ, List, ◌++◌, Some, Ok, Err}
use Rattle.table_model.specs.State.{State}
use Rattle.table_model.specs.Table.{Table}
use Rattle.table_model.specs.declared.refusal.Refusal.{Refusal}
use Rattle.partial_answers.specs.Combining.{AreCombined}
use Rattle.partial_answers.specs.PartialAnswerLaws.{Shards, One, Two, joined}
use Rattle.partial_answers.specs.Shape.{IsShaped, RefusesFinishing}
use Rattle.partial_answers.specs.declared.fault.PartialAnswerFault.{PartialAnswerFault}
use Rattle.partial_answers.specs.declared.fault.PartialAnswerFault.TheVariants.{Memory, TooMany}
use Rattle.partial_answers.specs.declared.partial_answer.PartialAnswer.{PartialAnswer as CodePartialAnswer}
use Rattle.store_view.specs.Asked.{query_answer}
use Rattle.partial_commands.specs.PartialAnswerWriting.{WritesPartialAnswer, meaning_read}
use Rattle.partial_commands.specs.StorePartialAnswer.{PartialAnswerMeaning, finished, meaning_of, query_partial_answer}

-- a partial answer came of a tree of states: it is the partial answer of one state, with groups of the shape that its query asks for, or it was combined of the partial answers that came of two trees
abbrev pub ComesOf : List ℕ → Table → Shards → CodePartialAnswer → Type 0
ComesOf text table (One s) p = (query_partial_answer text table s ≡ Ok (meaning_of p)) × IsShaped p
ComesOf text table (Two a b) p = (first second : CodePartialAnswer) × ComesOf text table a first × ComesOf text table b second × AreCombined first second p

-- A state's partial answer is refused exactly as the query is, and alone it finishes to the query's answer. A partial answer that came of any tree of
-- states is the partial answer of the states joined, and finishes to the query's answer over them; its groups have the shape that its query
-- asks for, so that nothing but memory and what is too large refuses to finish it. The bytes that were written of a state's partial answer
-- are read as a partial answer that means the same.
pub record PartialCommandLaws : Type 0 where
  pub refused : (text : List ℕ) (table : Table) (s : State) (e : Refusal) → (query_partial_answer text table s ≡ Err e) ↔ (query_answer text table s ≡ Err e)
  pub answered : (text : List ℕ) (table : Table) (s : State) (p : PartialAnswerMeaning) → query_partial_answer text table s ≡ Ok p → finished p ≡ query_answer text table s
  pub joins : (text : List ℕ) (table : Table) (shards : Shards) (p : CodePartialAnswer) → ComesOf text table shards p → query_partial_answer text table (joined shards) ≡ Ok (meaning_of p)
  pub answers : (text : List ℕ) (table : Table) (shards : Shards) (p : CodePartialAnswer) → ComesOf text table shards p → finished (meaning_of p) ≡ query_answer text table (joined shards)
  pub shaped : (text : List ℕ) (table : Table) (shards : Shards) (p : CodePartialAnswer) → ComesOf text table shards p → IsShaped p
  pub finishes : (text : List ℕ) (table : Table) (shards : Shards) (p : CodePartialAnswer) (fault : PartialAnswerFault) → ComesOf text table shards p → RefusesFinishing fault p → (fault ≡ Memory) ⊎ (fault ≡ TooMany)
  pub read_again : (text : List ℕ) (table : Table) (s : State) (start now : List ℕ) → WritesPartialAnswer (Ok tt) (Some start) (Some now) (query_partial_answer text table s) → (bytes : List ℕ) × (now ≡ start ++ bytes) × (meaning_read bytes ≡ query_partial_answer text table s)
