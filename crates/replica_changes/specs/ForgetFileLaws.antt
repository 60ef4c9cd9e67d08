-- The law of files in which batches were forgotten: what such a file represents, which commands add to, and which alone decides its
-- answers, and its bytes once it has forgotten.
use Rattle.std.specs.Prelude.{◌≡◌, ℕ, List, [], ◌∷◌, ◌++◌, Ok}
use Rattle.table_model.specs.Operation.{Operation, AreAgreeing, SameOperations, state_of}
use Rattle.table_model.specs.State.{State, live_rows}
use Rattle.table_model.specs.Table.{Table}
use Rattle.table_model.specs.declared.names.BatchName.{BatchName}
use Rattle.table_model.specs.declared.names.RowName.{RowName}
use Rattle.replica_store.specs.Forgotten.{IsRestOf}
use Rattle.replica_store.specs.ForgetHistory.{TookListed}
use Rattle.replica_store.specs.Exchange.{SummaryForm, OfferForm, summary_of}
use Rattle.replica_store.specs.ExchangeLaws.{IsOffer}
use Rattle.replica_store.specs.Replica.{Replica, deleted_rows, rows_between}
use Rattle.store_view.specs.Asked.{query_answer}
use Rattle.column_file.specs.Files.{canonical_file}
use Rattle.replica_reports.specs.Held.{held_in}
use Rattle.replica_changes.specs.Commands.{file_of, as_held, Made, deleting, applying, merged_files}
use Rattle.replica_changes.specs.FileLaws.{Holds, inserts, deletes, deletes_where, operations_in, all_of}
use Rattle.replica_changes.specs.Forgetting.{forgetting}
use Rattle.replica_changes.specs.Loads.{LoadForm, named_batches, importing_as}

-- A file represents a set of operations of a table, as a list of which only the members matter: no name has two lists of rows; the
-- file is the canonical file of what is left of the state that they make where some batches of which every row is deleted were
-- dropped, at whatever times; and it is read as that.
pub record StandsFor (bytes : List ℕ) (table : Table) (ops : List Operation) : Type 0 where
  pub agree : AreAgreeing ops
  pub state : State
  pub rest : IsRestOf state (state_of ops)
  pub file : bytes ≡ canonical_file table state
  pub read : held_in bytes ≡ Ok (record { schema = table; own = record { 0 = 1 }; state = state })

-- A command adds operations to what a file represents: wherever it answers, and these and those agree, the file that it leaves represents
-- for these and what the file stood for.
abbrev pub AddsToStanding : {Y : Type 0} → (Replica → Made Y) → (Table → List Operation → List Operation) → Type 0
AddsToStanding {Y = Y} command more =
    (input : List ℕ) (table : Table) (ops : List Operation) (old new : Replica) (answer : Y) →
    StandsFor input table ops → AreAgreeing (more table ops ++ ops) → held_in input ≡ Ok old → command old ≡ Ok (answer, new) → held_in (file_of new) ≡ Ok (as_held new) →
    StandsFor (file_of new) table (more table ops ++ ops)

-- each file represents the set of operations at its place
abbrev pub EachStandsFor : List (List ℕ) → Table → List (List Operation) → Type 0
EachStandsFor [] table [] = Unit {0}
EachStandsFor (bytes ∷ files) table (ops ∷ sets) = StandsFor bytes table ops × EachStandsFor files table sets
EachStandsFor files table sets = ⊥

-- a merge of files represents all that they represent, where all of it agrees
abbrev pub MergesStand : Type 0
MergesStand =
    (first : List ℕ) (others : List (List ℕ)) (table : Table) (ops : List Operation) (sets : List (List Operation)) (new : Replica) →
    StandsFor first table ops → EachStandsFor others table sets → AreAgreeing (all_of sets ++ ops) → merged_files first others ≡ Ok new → held_in (file_of new) ≡ Ok (as_held new) →
    StandsFor (file_of new) table (all_of sets ++ ops)

-- A file that takes an offer, however late, represents all that the file that offered represented, where the summary listed only batches
-- that the taker had taken, forgotten since or not, and where all of it agrees.
abbrev pub PullsStand : Type 0
PullsStand =
    (input given : List ℕ) (table : Table) (ops others : List Operation) (server old new : Replica) (summary : SummaryForm) (offer : OfferForm) (answer : ℕ × ℕ × ℕ) →
    StandsFor input table ops → StandsFor given table others → AreAgreeing (others ++ ops) →
    held_in given ≡ Ok server → IsOffer server summary offer → TookListed ops summary.names →
    held_in input ≡ Ok old → applying (offer ∷ []) old ≡ Ok (answer, new) → held_in (file_of new) ≡ Ok (as_held new) →
    StandsFor (file_of new) table (others ++ ops)

-- what a file answers, and the rows that it has, are those of the state of all that it represents
pub record MeansWhole (r : Replica) (table : Table) (ops : List Operation) : Type 0 where
  pub rows : live_rows r.state ≡ live_rows (state_of ops)
  pub answers : (sql : List ℕ) → query_answer sql r.schema r.state ≡ query_answer sql table (state_of ops)

-- files that represent the same answer each query alike
abbrev pub AnswersAlike : Type 0
AnswersAlike =
    (a b : List ℕ) (table : Table) (ops others : List Operation) (r q : Replica) (sql : List ℕ) →
    StandsFor a table ops → StandsFor b table others → SameOperations ops others → held_in a ≡ Ok r → held_in b ≡ Ok q →
    query_answer sql r.schema r.state ≡ query_answer sql q.schema q.state

-- and they have the same bytes once each has forgotten
abbrev pub SameForgottenFiles : Type 0
SameForgottenFiles =
    (a b : List ℕ) (table : Table) (ops others : List Operation) (r q new other : Replica) (dropped parted : ℕ × ℕ) →
    StandsFor a table ops → StandsFor b table others → SameOperations ops others → held_in a ≡ Ok r → held_in b ≡ Ok q →
    forgetting r ≡ Ok (dropped, new) → forgetting q ≡ Ok (parted, other) → file_of new ≡ file_of other

-- What a file holds it represents. Each command adds to what its file represents what it adds to what a file holds, given that names
-- agree over all of it; its summary lists what it took, and goes on to be so; a forget adds nothing. What a file represents decides its answers, by their meaning over all
-- that was taken, and its bytes once it has forgotten.
pub record ForgetFileLaws : Type 0 where
  pub holds : (bytes : List ℕ) (table : Table) (ops : List Operation) → Holds bytes table ops → StandsFor bytes table ops
  pub import : (load : LoadForm) (first : BatchName) → AddsToStanding (importing_as load first) (λ table ops. inserts (named_batches first load.batches))
  pub delete : (text : List ℕ) → AddsToStanding (deleting text) (deletes_where text)
  pub delete_rows : (first : RowName) (last : ℕ) → AddsToStanding (λ r. deleted_rows r first last) (λ table ops. deletes (rows_between first last))
  pub apply : (offers : List OfferForm) → AddsToStanding (applying offers) (λ table ops. operations_in offers)
  pub lists : (bytes : List ℕ) (table : Table) (ops more : List Operation) (r : Replica) → StandsFor bytes table ops → held_in bytes ≡ Ok r → TookListed (more ++ ops) (summary_of r).names
  pub pull : PullsStand
  pub merge : MergesStand
  pub forget : AddsToStanding forgetting (λ table ops. [])
  pub means : (bytes : List ℕ) (table : Table) (ops : List Operation) (r : Replica) → StandsFor bytes table ops → held_in bytes ≡ Ok r → MeansWhole r table ops
  pub answers : AnswersAlike
  pub same : SameForgottenFiles
