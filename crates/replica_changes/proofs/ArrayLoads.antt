-- A batch whose rows fit is added to a load if there is room.
use Rattle.std.proofs.Common.{◌≡◌, ℕ, ◌<◌, ◌≤◌, ◌==◌, Bool, true, false, cond, nat_lt, List, [], ◌∷◌, ◌++◌, length, Option, Some, None, Result, Ok, Err, sym, ap, ◌∙◌, arith}
use Rattle.std.proofs.lemmas.Bool.Decides.{nat_tests}
use Rattle.table_model.proofs.Batches.{fault-IsBatch}
use Rattle.table_model.specs.State.{Batch}
use Rattle.table_model.specs.Table.{Table, IsBatch, first_fault, row_limit, rows_fault}
use Rattle.table_model.specs.declared.refusal.Refusal.{Refusal}
use Rattle.table_model.specs.declared.refusal.Refusal.TheVariants.{BatchTooLong, EmptyBatch, Full}
use Rattle.replica_store.specs.Replica.{batch_limit, unless_fault}
use Rattle.replica_changes.specs.Loads.{LoadForm, added_batch}

-- the fault of as many rows as a batch may have is that of a list of rows
pub rows_first : (table : Table) (rows : Batch) → 1 ≤ length rows → length rows ≤ row_limit → rows_fault table rows ≡ first_fault table.columns 0 rows
unfolding rows_fault
rows_first table rows some few =
    let one : (length rows == 0) ≡ false = grind (arith, nat_tests, some) in
    let short : nat_lt row_limit (length rows) ≡ false = grind (arith, nat_tests, few) in
    ap (λ (b : Bool). cond b (Some EmptyBatch) (cond (nat_lt row_limit (length rows)) (Some BatchTooLong) (first_fault table.columns 0 rows))) one
    ∙ ap (λ (b : Bool). cond b (Some BatchTooLong) (first_fault table.columns 0 rows)) short

-- a load with one more batch
abbrev pub with_batch : LoadForm → Batch → LoadForm
with_batch load rows = record { schema = load.schema; batches = load.batches ++ (rows ∷ []) }

pub added_if_room : (load : LoadForm) (rows : Batch) → IsBatch load.schema rows → added_batch load rows ≡ cond (nat_lt (length load.batches) batch_limit) (Ok (tt, with_batch load rows)) (Err Full)
added_if_room load rows h =
    let none : rows_fault load.schema rows ≡ None = rows_first load.schema rows h.some h.limit ∙ fault-IsBatch load.schema rows h in
    ap (λ (o : Option Refusal). unless_fault o (cond (nat_lt (length load.batches) batch_limit) (Ok (tt, with_batch load rows)) (Err Full))) none
