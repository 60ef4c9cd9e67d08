-- The rows of a text as batches: 65,536 rows in each but the last.
use Rattle.std.specs.Prelude.{◌≡◌, ◌⊎◌, ℕ, ◌≤◌, List, [], ◌∷◌, ◌++◌, length, Option, Some, None, Ok, Err}
use Rattle.table_model.specs.Counted.{one_more}
use Rattle.table_model.specs.State.{Batch}
use Rattle.table_model.specs.Table.{row_limit}
use Rattle.table_model.specs.declared.refusal.Refusal.{Refusal}
use Rattle.table_model.specs.declared.refusal.Refusal.TheVariants.{Memory, ReadFault, Full}
use Rattle.replica_store.specs.Replica.{batch_limit}
use Rattle.csv_rows.specs.Reading.{Reading, to_come}
use Rattle.csv_rows.specs.declared.error.CsvError.{CsvError}
use Rattle.csv_rows.specs.declared.error.CsvError.TheVariants.{Refused}
use Rattle.replica_changes.specs.Loads.{LoadForm, added_batch}

-- each has as many rows as a batch may have
abbrev pub AreFull : List Batch → Type 0
AreFull [] = Unit {0}
AreFull (rows ∷ batches) = (length rows ≡ row_limit) × AreFull batches

-- all rows of batches, in order
abbrev pub rows_of : List Batch → Batch
rows_of [] = []
rows_of (rows ∷ batches) = rows ++ rows_of batches

-- the batch of the last rows, if there are such
abbrev pub last_batch : Batch → List Batch
last_batch [] = []
last_batch (row ∷ rows) = (row ∷ rows) ∷ []

-- rows were cut into batches: full ones, and then the last rows, if there are such, which are fewer
pub record AreCut (rows : Batch) (batches : List Batch) : Type 0 where
  pub full : List Batch
  pub last : Batch
  pub are_full : AreFull full
  pub whole : rows ≡ rows_of full ++ last
  pub cut : batches ≡ full ++ last_batch last

-- the load with more batches
abbrev pub with_batches : LoadForm → List Batch → LoadForm
with_batches load batches = record { schema = load.schema; batches = load.batches ++ batches }

-- the rows that were to come were loaded as batches
abbrev pub LoadsRows : Reading → Option (List ℕ) → LoadForm → LoadForm → Type 0
LoadsRows csv None old new = Unit {0}
LoadsRows csv (Some bytes) old new = (rows : Batch) × (batches : List Batch) × (to_come csv bytes ≡ Ok rows) × AreCut rows batches × (new ≡ with_batches old batches)

-- the first fault of the text; other refusals are none of it
abbrev pub RefusesText : Reading → CsvError → Option (List ℕ) → Type 0
RefusesText csv (Refused refusal) before = Unit {0}
RefusesText csv fault None = Unit {0}
RefusesText csv fault (Some bytes) = to_come csv bytes ≡ Err fault

-- rows weren't added to a load: it refused them, or memory ran out
abbrev pub IsNotAdded : LoadForm → Batch → CsvError → Type 0
IsNotAdded load rows e = (refusal : Refusal) × (e ≡ Refused refusal) × (1 ≤ length rows) × ((added_batch load rows ≡ Err refusal) ⊎ (refusal ≡ Memory))

-- ---- a load that was stopped

-- Which errors stop a load of the text's own table: a fault of the text; out of memory; a failed read; and that it has as many batches as
-- a load may have.
abbrev pub MayStop : LoadForm → CsvError → Type 0
MayStop load (Refused Memory) = Unit {0}
MayStop load (Refused ReadFault) = Unit {0}
MayStop load (Refused Full) = batch_limit ≤ length load.batches
MayStop load (Refused other) = ⊥
MayStop load fault = Unit {0}

-- a reader's count of failures before and after an error: it rose with a ReadFault, unless many is what made that, and else it stayed
abbrev pub CountsText : Type 0 → CsvError → ℕ → ℕ → Type 0
CountsText many (Refused ReadFault) before after = (after ≡ one_more before) ⊎ (many × (after ≡ before))
CountsText many other before after = after ≡ before

-- these batches are the first rows of a text that has no fault; if the load was full, more rows come after them
abbrev pub AreFirst : Reading → CsvError → Option (List ℕ) → List Batch → Type 0
AreFirst csv e before batches =
    (bytes : List ℕ) (rows : Batch) → before ≡ Some bytes → to_come csv bytes ≡ Ok rows → ((left : Batch) × (rows ≡ rows_of batches ++ left) × (e ≡ Refused Full → 1 ≤ length left))

-- What a load has when an error stopped it: full batches were added, which are the first rows of the text if that has no fault; and the
-- error is one that may stop it.
pub record StopsLoading (csv : Reading) (before : Option (List ℕ)) (old new : LoadForm) (e : CsvError) : Type 0 where
  pub full : List Batch
  pub are_full : AreFull full
  pub loaded : new ≡ with_batches old full
  pub first : AreFirst csv e before full
  pub may_stop : old.schema ≡ csv.table → MayStop new e
