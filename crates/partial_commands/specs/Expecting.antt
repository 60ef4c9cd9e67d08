-- What summaries expect of a partial answer: that each batch that one of them names was counted.
use Rattle.std.specs.Prelude.{◌≡◌, ◌⊎◌, ℕ, Bool, true, false, List, Option, Some, None, is_some, Result, Ok, Err}
use Rattle.std.specs.FinMap as map
use Rattle.std.specs.FinSet as set
use Rattle.std.specs.Io.KnownBytes.{Appends}
use Rattle.std.specs.List.{list_all, list_any}
use Rattle.std.specs.declared.cmp.Ordering.TheVariants.{Less}
use Rattle.table_model.specs.Faults.{AppendsFront, CountsWrites}
use Rattle.table_model.specs.Name.{name_cmp}
use Rattle.table_model.specs.State.{State}
use Rattle.table_model.specs.Table.{Table, same_table}
use Rattle.table_model.specs.declared.names.BatchName.{BatchName}
use Rattle.table_model.specs.declared.refusal.Refusal.TheVariants.{Memory, WriteFault}
use Rattle.answer_formats.specs.declared.format.Format.{Format}
use Rattle.replica_store.specs.Exchange.{SummaryForm}
use Rattle.partial_answers.specs.Counted.{Names}
use Rattle.partial_answers.specs.PartialAnswerLaws.{Shards, joined}
use Rattle.partial_answers.specs.Shape.{RefusesFinishing}
use Rattle.partial_answers.specs.declared.partial_answer.PartialAnswer.{PartialAnswer}
use Rattle.store_view.specs.Asked.{query_answer}
use Rattle.partial_commands.specs.PartialAnswerTurns.{IsAnswerText}
use Rattle.partial_commands.specs.PartialCommandLaws.{ComesOf}
use Rattle.partial_commands.specs.StorePartialAnswer.{finished, meaning_of}
use Rattle.partial_commands.specs.declared.expectation_error.ExpectationError.{ExpectationError}
use Rattle.partial_commands.specs.declared.expectation_error.ExpectationError.TheVariants.{SchemaDiffers, Missing, Unanswered}
use Rattle.partial_commands.specs.declared.partial_answer_error.PartialAnswerError.TheVariants.{Refused, Fault}

-- whether a summary names a batch
abbrev pub is_named_by : BatchName → SummaryForm → Bool
is_named_by name s = set.contains s.names name

-- whether one of some summaries names it
abbrev pub is_expected : List SummaryForm → BatchName → Bool
is_expected expected name = list_any (is_named_by name) expected

-- whether all of some summaries are of a table
abbrev pub are_of_table : Table → List SummaryForm → Bool
are_of_table table expected = list_all (λ (s : SummaryForm). same_table table s.schema) expected

-- each batch that one of some summaries names was counted
abbrev pub CountsAll : Names → List SummaryForm → Type 0
CountsAll held expected = (name : BatchName) → is_expected expected name ≡ true → set.contains held name ≡ true

-- the least batch that one of some summaries names and that was not counted
pub record IsLeastMissing (held : Names) (expected : List SummaryForm) (name : BatchName) : Type 0 where
  pub named : is_expected expected name ≡ true
  pub uncounted : set.contains held name ≡ false
  pub least : (other : BatchName) → is_expected expected other ≡ true → set.contains held other ≡ false → name_cmp other name ≡ Less → ⊥

-- the least such batch, if there is one
abbrev pub IsFirstMissing : Names → List SummaryForm → Option BatchName → Type 0
IsFirstMissing held expected None = CountsAll held expected
IsFirstMissing held expected (Some name) = IsLeastMissing held expected name

-- a partial answer covers what summaries expect: they are of its table, and it counted each batch that one of them names
pub record Covers (p : PartialAnswer) (expected : List SummaryForm) : Type 0 where
  pub tables : are_of_table p.schema expected ≡ true
  pub names : CountsAll p.held expected

-- why a partial answer doesn't cover what summaries expect: one of them is of another table, or a batch is missing; memory can run out at any time
abbrev pub IsUncovered : ExpectationError → PartialAnswer → List SummaryForm → Type 0
IsUncovered SchemaDiffers p expected = are_of_table p.schema expected ≡ false
IsUncovered (Missing name) p expected = (are_of_table p.schema expected ≡ true) × IsLeastMissing p.held expected name
IsUncovered (Unanswered e) p expected = e ≡ Refused Memory

-- What was written under an expectation is the answer that a partial answer finishes to, and the partial answer covers what is expected. Else nothing was
-- written: the partial answer doesn't cover it, or it does and can't be finished; or memory ran out. Or a write failed after a front of the answer.
abbrev pub WritesExpected : Format → Result (Unit {0}) ExpectationError → PartialAnswer → List SummaryForm → Option (List ℕ) → Option (List ℕ) → Type 0
WritesExpected format (Ok done) p expected before now = Covers p expected × ((text : List ℕ) × IsAnswerText format p text × Appends before now text)
WritesExpected format (Err SchemaDiffers) p expected before now = (are_of_table p.schema expected ≡ false) × (now ≡ before)
WritesExpected format (Err (Missing name)) p expected before now = (are_of_table p.schema expected ≡ true) × IsLeastMissing p.held expected name × (now ≡ before)
WritesExpected format (Err (Unanswered (Fault fault))) p expected before now = Covers p expected × RefusesFinishing fault p × (now ≡ before)
WritesExpected format (Err (Unanswered (Refused e))) p expected before now =
    ((e ≡ Memory) × (now ≡ before)) ⊎ ((e ≡ WriteFault) × (Covers p expected × ((text : List ℕ) × IsAnswerText format p text × AppendsFront before now text)))

-- a writer's count of failures before and after an error
abbrev pub CountsUnexpected : ExpectationError → ℕ → ℕ → Type 0
CountsUnexpected SchemaDiffers before after = after ≡ before
CountsUnexpected (Missing name) before after = after ≡ before
CountsUnexpected (Unanswered (Fault fault)) before after = after ≡ before
CountsUnexpected (Unanswered (Refused e)) before after = CountsWrites e before after

-- a state holds each batch that one of some summaries names
abbrev pub HoldsAll : State → List SummaryForm → Type 0
HoldsAll state expected = (name : BatchName) → is_expected expected name ≡ true → is_some (map.get state.batches name) ≡ true

-- A partial answer that came of a tree of states and covers what is expected is that of the states joined, which hold each batch that is
-- expected, and it finishes to the query's answer over them.
pub record ExpectationLaws : Type 0 where
  pub holds : (text : List ℕ) (table : Table) (shards : Shards) (p : PartialAnswer) (expected : List SummaryForm) → ComesOf text table shards p → Covers p expected → HoldsAll (joined shards) expected
  pub answers : (text : List ℕ) (table : Table) (shards : Shards) (p : PartialAnswer) (expected : List SummaryForm) → ComesOf text table shards p → Covers p expected → finished (meaning_of p) ≡ query_answer text table (joined shards)
