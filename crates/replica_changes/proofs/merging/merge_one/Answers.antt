-- The file is read, and refused or joined.
use Rattle.std.specs.Prelude.{ℕ, List, Option, Result, Ok, Err, IfErr, IsTrue}
use Rattle.std.proofs.Common.{arith}
use Rattle.std.proofs.lemmas.Result.{err_from_is_err_and}
use Rattle.table_model.specs.Reading.{Reads}
use Rattle.table_model.specs.declared.refusal.Refusal.{Refusal}
use Rattle.column_file.specs.Input.{IsReadWhole}
use Rattle.replica_store.specs.Replica.{Replica, merged}
use Rattle.replica_store.specs.Segments.{StoreForm}
use Rattle.replica_changes.specs.Refusals.{is_refusal_of_merge, reading_or, StopsAt}
use Rattle.replica_changes.proofs.FileMerges.{merging_done, for_ok}
use Rattle.replica_changes.proofs.StoreCommands.{join_listed}
use Rattle.replica_changes.proofs.RefusedOnFile.{or_reading, or_command}
use Rattle.replica_changes.proofs.ReadersInTurn.{unmerged_stops}
use Rattle.replica_changes.proofs.merging.merge_one.Goals as goal

-- which refusals a join has
refused_listed : {Y : Type 0} (view : Y → Replica) (result : Result Y Refusal) (r other : Replica) → Reads (λ (y : Y). (tt, view y)) result (merged r other) → IfErr result (λ e. IsTrue (is_refusal_of_merge e))
refused_listed view (Ok y) r other joined = tt
refused_listed view (Err e) r other joined = join_listed r other e joined

all_listed : {Y : Type 0} (result : Result Y Refusal) → IfErr result (λ e. IsTrue (is_refusal_of_merge e)) → IfErr result (λ e. IsTrue (reading_or is_refusal_of_merge e))
all_listed (Ok y) listed = tt
all_listed (Err e) listed = or_command is_refusal_of_merge e listed

all_stop : {D Y : Type 0} (remaining : D → Option (List ℕ)) (result : Result Y Refusal) (old new : D × ℕ) → IsReadWhole remaining old new → IfErr result (λ e. IsTrue (is_refusal_of_merge e)) → IfErr result (λ e. StopsAt remaining e old new)
all_stop remaining (Ok y) old new whole listed = tt
all_stop remaining (Err e) old new whole listed = unmerged_stops remaining e old new whole listed

pub returns-in_err-other-clause-listed : goal.returns-in_err-other-clause-listed
returns-in_err-other-clause-listed g c =
    let p = err_from_is_err_and c.from_residual.result c.from_residual.ensures.1 in
    rw (p.1, p.2) (or_reading is_refusal_of_merge c.in_err-other.field-0.0 (c.in_err-other.ensures.reads (omega arith)).listed)

pub returns-in_err-other-clause-stops : goal.returns-in_err-other-clause-stops
returns-in_err-other-clause-stops g c =
    let p = err_from_is_err_and c.from_residual.result c.from_residual.ensures.1 in
    let stops = c.in_err-other.ensures.reads (omega arith) in
    rw (p.1, p.2) (record { whole = stops.whole; counts = stops.counts })

pub returns-clause-merged : goal.returns-clause-merged
returns-clause-merged g c =
    merging_done (λ (store : StoreForm). store.replica) (λ (whole : StoreForm). whole.replica) c.in_ok-other.other c.with.result (g.R.Read.remaining c.args.reader.now.0) c.args.joined.replica c.in_ok-other.ensures.read c.with.ensures.value

pub returns-clause-read : goal.returns-clause-read
returns-clause-read g c = for_ok c.with.result (c.in_ok-other.ensures.reads (omega arith))

pub returns-clause-listed : goal.returns-clause-listed
returns-clause-listed g c =
    all_listed c.with.result (refused_listed (λ (whole : StoreForm). whole.replica) c.with.result c.args.joined.replica c.in_ok-other.other.replica c.with.ensures.value)

pub returns-clause-stops : goal.returns-clause-stops
returns-clause-stops g c =
    all_stop g.R.Read.remaining c.with.result c.args.reader.now c.open.new.reader (c.in_ok-other.ensures.reads (omega arith))
    (refused_listed (λ (whole : StoreForm). whole.replica) c.with.result c.args.joined.replica c.in_ok-other.other.replica c.with.ensures.value)
