-- What a table's rows and deletions need for a file: its segments' names are in their ranges, and its ranges are a slice's.
use Rattle.std.proofs.Common.{◌≡◌, ◌<◌, All, List, [], ◌∷◌, length, Result, Ok, Err, OnOk, sym, ap, subst, ◌∙◌}
use Rattle.std.specs.List.{AllByRecursion}
use Rattle.std.specs.FinMap as finite
use Rattle.std.proofs.lemmas.List.Elements.{All-from_recursion, recursion_from_All}
use Rattle.table_model.specs.Name.{name_cmp}
use Rattle.table_model.specs.State.{State, Batch}
use Rattle.table_model.specs.Table.{Table, IsTable}
use Rattle.table_model.specs.declared.names.BatchName.{BatchName}
use Rattle.table_model.specs.declared.refusal.Refusal.{Refusal}
use Rattle.catalogue_join.specs.RowRange.{RowRange, AreMaximal, rows_in as rows_deleted}
use Rattle.segment_core.specs.Segment.{SegmentForm}
use Rattle.replica_store.specs.Replica.{IsWithinLimits}
use Rattle.replica_store.specs.Segments.{Entry as Held, rows_in, rows_entries}
use Rattle.replica_store.proofs.RowsIn.{entries-rows_in}
use Rattle.column_file.specs.Files.{IsNumbered, AreNumbered, HasFile}

-- the rows of segments, as a map's entries
pub entries_are : (batches : finite.FinMap name_cmp Batch) (segments : finite.FinMap name_cmp SegmentForm) (items : List Held) → batches ≡ rows_in segments → finite.entries segments ≡ items → finite.entries batches ≡ rows_entries items
entries_are batches segments items rows entries = ap finite.entries rows ∙ entries-rows_in segments ∙ ap rows_entries entries

each_numbered : (items : List Held) → AllByRecursion (λ (e : Held). IsNumbered e.0) items → AllByRecursion (λ (e : BatchName × Batch). IsNumbered e.0) (rows_entries items)
each_numbered [] numbered = tt
each_numbered (e ∷ items) numbered = (numbered.0, each_numbered items numbered.1)

pub has_file : (t : Table) (state : State) (segments : finite.FinMap name_cmp SegmentForm) (items : List Held) (rs : List RowRange) → IsTable t → IsWithinLimits t state.batches → state.batches ≡ rows_in segments
    → finite.entries segments ≡ items → AreNumbered items → AreMaximal rs → rows_deleted rs ≡ state.deleted → length rs < 18446744073709551616 → HasFile t state
has_file t state segments items rs table within batches entries numbered maximal rows count =
    let AllOf : List (BatchName × Batch) → Type 0 = λ es. All (λ (e : BatchName × Batch). IsNumbered e.0) es in
    let listed = All-from_recursion (λ (e : BatchName × Batch). IsNumbered e.0) (rows_entries items) (each_numbered items (recursion_from_All (λ (e : Held). IsNumbered e.0) items numbered)) in
    record {
      schema = table;
      within = within;
      names = subst AllOf (sym (entries_are state.batches segments items batches entries)) listed;
      ranges = rs;
      maximal = maximal;
      rows = rows;
      count = count;
    }

-- what follows of a call that succeeded
pub on_ok : {P Q : Type 0} (r : Result (Unit {0}) Refusal) → (P → Q) → OnOk r P → OnOk r Q
on_ok (Ok done) f h = f h
on_ok (Err e) f h = h

-- what holds anyway
pub always : {P : Type 0} (r : Result (Unit {0}) Refusal) → P → OnOk r P
always (Ok done) h = h
always (Err e) h = tt
