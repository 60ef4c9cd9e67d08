-- The law of files: what a file holds is a set of operations, which commands add to, and which alone decides its bytes.
use Rattle.std.specs.Prelude.{◌≡◌, ℕ, List, [], ◌∷◌, ◌++◌, map as each, Result, Ok, Err}
use Rattle.table_model.specs.Operation.{Operation, Insert, Delete, AreAgreeing, SameOperations, state_of, operations_of}
use Rattle.table_model.specs.State.{Batch, empty_state}
use Rattle.table_model.specs.Table.{Table, schema_of}
use Rattle.table_model.specs.declared.schema.ColType.{ColType}
use Rattle.table_model.specs.declared.names.BatchName.{BatchName}
use Rattle.table_model.specs.declared.names.RowName.{RowName}
use Rattle.table_model.specs.declared.refusal.Refusal.{Refusal}
use Rattle.replica_store.specs.Exchange.{OfferForm, SummaryForm}
use Rattle.replica_store.specs.ExchangeLaws.{HoldsListed}
use Rattle.replica_store.specs.Replica.{Replica, deleted_rows, rows_between}
use Rattle.store_view.specs.Asked.{condition_names}
use Rattle.column_file.specs.Files.{canonical_file}
use Rattle.replica_reports.specs.Held.{held_in}
use Rattle.replica_changes.specs.Commands.{file_of, as_held, Made, deleting, applying, merged_files, OffersTo}
use Rattle.replica_changes.specs.Loads.{LoadForm, named_batches, importing_as}

-- the replica of the state of operations
abbrev pub replica_of : Table → List Operation → Replica
replica_of table ops = record { schema = table; own = record { 0 = 1 }; state = state_of ops }

-- A file holds a set of operations of a table, as a list of which only the members matter: no name has two lists of rows, the file
-- is the canonical file of the state that they make, and it is read as that state.
pub record Holds (bytes : List ℕ) (table : Table) (ops : List Operation) : Type 0 where
  pub agree : AreAgreeing ops
  pub file : bytes ≡ canonical_file table (state_of ops)
  pub read : held_in bytes ≡ Ok (replica_of table ops)

-- A command adds operations to what a file holds: wherever it answers, the file that it leaves holds these and what the file held.
abbrev pub AddsTo : {Y : Type 0} → (Replica → Made Y) → (Table → List Operation → List Operation) → Type 0
AddsTo {Y = Y} command more =
    (input : List ℕ) (table : Table) (ops : List Operation) (old new : Replica) (answer : Y) →
    Holds input table ops → held_in input ≡ Ok old → command old ≡ Ok (answer, new) → held_in (file_of new) ≡ Ok (as_held new) →
    Holds (file_of new) table (more table ops ++ ops)

-- the inserts of batches under their names
abbrev pub inserts : List (BatchName × Batch) → List Operation
inserts [] = []
inserts (e ∷ es) = Insert e.0 e.1 ∷ inserts es

-- the deletes of rows
abbrev pub deletes : List RowName → List Operation
deletes rows = each Delete rows

-- the deletes of the rows that a condition found; none where it was refused
abbrev pub deletes_found : Result (List RowName) Refusal → List Operation
deletes_found (Ok names) = deletes names
deletes_found (Err e) = []

-- one delete for each row of the state of operations that isn't deleted there and at which the condition that a text is is true
abbrev pub deletes_where : List ℕ → Table → List Operation → List Operation
deletes_where text table ops = deletes_found (condition_names text table (state_of ops))

-- the operations of offers
abbrev pub operations_in : List OfferForm → List Operation
operations_in [] = []
operations_in (offer ∷ offers) = operations_in offers ++ operations_of offer.state

-- each file holds the set of operations at its place
abbrev pub EachHolds : List (List ℕ) → Table → List (List Operation) → Type 0
EachHolds [] table [] = Unit {0}
EachHolds (bytes ∷ files) table (ops ∷ sets) = Holds bytes table ops × EachHolds files table sets
EachHolds files table sets = ⊥

-- all operations of some sets
abbrev pub all_of : List (List Operation) → List Operation
all_of [] = []
all_of (ops ∷ sets) = all_of sets ++ ops

-- files that hold the same set, in whatever order and however often its operations came, have the same bytes
abbrev pub SameFiles : Type 0
SameFiles = (a b : List ℕ) (table : Table) (ops others : List Operation) → Holds a table ops → Holds b table others → SameOperations ops others → a ≡ b

-- an offer of the state of operations brings these
abbrev pub OffersBring : Type 0
OffersBring = (ops : List Operation) → AreAgreeing ops → SameOperations (operations_of (state_of ops)) ops

-- a new file, as create writes it of a name and columns, holds nothing
abbrev pub StartsEmpty : Type 0
StartsEmpty = (name : List ℕ) (columns : List (List ℕ × ColType)) (table : Table) → schema_of name columns ≡ Ok table → Holds (canonical_file table empty_state) table []

-- a merge of files holds all that they hold
abbrev pub MergesHold : Type 0
MergesHold =
    (first : List ℕ) (others : List (List ℕ)) (table : Table) (ops : List Operation) (sets : List (List Operation)) (new : Replica) →
    Holds first table ops → EachHolds others table sets → merged_files first others ≡ Ok new → held_in (file_of new) ≡ Ok (as_held new) →
    Holds (file_of new) table (all_of sets ++ ops)

-- A pull: an offer that their file makes to a summary, applied to my file, brings all that theirs holds, where no name has two lists
-- of rows in what both hold. My file has each batch that the summary lists: it is the summary of my file, or of what it was before.
abbrev pub PullsBring : Type 0
PullsBring =
    (mine theirs : List ℕ) (table : Table) (ops others : List Operation) (old server new : Replica) (summary : SummaryForm) (offer : OfferForm) (answer : ℕ × ℕ × ℕ) →
    Holds mine table ops → Holds theirs table others → AreAgreeing (others ++ ops) →
    held_in mine ≡ Ok old → held_in theirs ≡ Ok server → HoldsListed old summary → OffersTo server summary offer →
    applying (offer ∷ []) old ≡ Ok (answer, new) → held_in (file_of new) ≡ Ok (as_held new) → Holds (file_of new) table (others ++ ops)

-- what commands keep: each adds to what its file holds what its steps add in a history, and files that hold the same are the same
pub record FileLaws : Type 0 where
  pub create : StartsEmpty
  pub import : (load : LoadForm) (first : BatchName) → AddsTo (importing_as load first) (λ table ops. inserts (named_batches first load.batches))
  pub delete : (text : List ℕ) → AddsTo (deleting text) (deletes_where text)
  pub delete_rows : (first : RowName) (last : ℕ) → AddsTo (λ r. deleted_rows r first last) (λ table ops. deletes (rows_between first last))
  pub apply : (offers : List OfferForm) → AddsTo (applying offers) (λ table ops. operations_in offers)
  pub merge : MergesHold
  pub pull : PullsBring
  pub offers : OffersBring
  pub same : SameFiles
