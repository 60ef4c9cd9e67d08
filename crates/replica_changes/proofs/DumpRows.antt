-- What a dump wrote are the lines of the live rows, which are rows of the table, so it is read as these; and batches under consecutive
-- names, none of whose rows is deleted, have their rows as live rows, one batch after another.
use Rattle.std.specs.Prelude.{◌≡◌, ℕ, ◌+◌, Bool, true, false, T, cond, not, filter, List, [], ◌∷◌, ◌++◌, Result, Ok}
use Rattle.std.proofs.Common.{refl, sym, ap, subst, ◌∙◌, append_assoc}
use Rattle.std.proofs.lemmas.List.{append-nil}
use Rattle.std.specs.FinMap as map
use Rattle.std.specs.FinSet as set
use Rattle.std.specs.List.{flat_map}
use Rattle.table_model.specs.Name.{name_cmp, row_name_cmp}
use Rattle.table_model.specs.Operation.{Operation, AreAgreeing, state_of}
use Rattle.table_model.specs.State.{State, Batch, Cells, named_rows, live_rows}
use Rattle.table_model.specs.Table.{Table}
use Rattle.table_model.specs.declared.names.BatchName.{BatchName}
use Rattle.table_model.specs.declared.names.RowName.{RowName}
use Rattle.table_model.proofs.NameOrder.{names_total}
use Rattle.table_model.proofs.Joins.{same_maps}
use Rattle.replica_store.specs.Replica.{Replica, merged}
use Rattle.column_file.specs.Files.{HasFile}
use Rattle.csv_rows.specs.CsvText.{csv_rows}
use Rattle.csv_rows.specs.declared.error.CsvError.{CsvError}
use Rattle.csv_rows.specs.Written.{header_line, row_line}
use Rattle.csv_rows.proofs.Dumps.{rows_read_again}
use Rattle.replica_changes.specs.Commands.{Made}
use Rattle.replica_changes.specs.CsvLoads.{AreCut, rows_of, last_batch}
use Rattle.replica_changes.specs.DumpLaws.{DumpLaws}
use Rattle.replica_reports.specs.Dumps.{cells_of, row_text, dumping}
use Rattle.replica_changes.specs.FileLaws.{replica_of, inserts}
use Rattle.replica_changes.specs.Loads.{LoadForm, named_batches, numbered_from, loaded, imported_as, importing_as}
use Rattle.replica_changes.specs.declared.importing.Imported.{Imported}
use Rattle.replica_changes.proofs.FileLaws.{bound_parts, ok_one}
use Rattle.replica_reports.proofs.LiveRows.{rows_in, cells_first, live_fit}
use Rattle.replica_changes.proofs.LoadedBatches.{sorted_numbered}
use Rattle.replica_changes.proofs.OperationSets.{Adds, state_of-inserts, named_agree, merge-adds}

-- ---- read again

row_lines : (xs : List (RowName × Cells)) → flat_map (row_text false) xs ≡ flat_map row_line (cells_of xs)
row_lines [] = refl
row_lines (x ∷ xs) = ap (λ (t : List ℕ). row_line x.1 ++ t) (row_lines xs)

dump_is_read : (old : Replica) → HasFile old.schema old.state → csv_rows old.schema true (dumping false old) ≡ Ok (cells_of (live_rows old.state))
dump_is_read old h =
    ap (λ (t : List ℕ). csv_rows old.schema true (header_line old.schema.columns ++ t)) (row_lines (live_rows old.state))
    ∙ rows_read_again old.schema h.schema (cells_of (live_rows old.state)) (live_fit old h.within.fits)

-- ---- imported

T_of : (b : Bool) → b ≡ true → T b
T_of b e = subst T (sym e) tt

-- entries in order are those of their map
entries_kept : (es : List (BatchName × Batch)) → map.is_sorted name_cmp es ≡ true → map.entries (map.from_entries {R = name_cmp} es) ≡ es
entries_kept es e =
    let sorted : T (map.is_sorted name_cmp es) = T_of (map.is_sorted name_cmp es) e in
    ap map.entries (same_maps (map.from_entries {R = name_cmp} es) (map.from_sorted {R = name_cmp} es) (λ q. map.get-from_entries names_total es q ∙ sym (map.get-from_sorted name_cmp es q sorted)))
    ∙ map.entries-from_sorted name_cmp es sorted

-- the rows of batches under consecutive names
cells_numbered : (first : BatchName) (n : ℕ) (batches : List Batch) → cells_of (rows_in (numbered_from first n batches)) ≡ rows_of batches
cells_numbered first n [] = refl
cells_numbered first n (rows ∷ batches) =
    let rest : List (BatchName × Batch) = numbered_from first (n + 1) batches in
    cells_first (record { origin = first.origin; number = record { 0 = n } }, rows) rest ∙ ap (λ (more : Batch). rows ++ more) (cells_numbered first (n + 1) batches)

kept_all : (deleted : set.FinSet row_name_cmp) (xs : List (RowName × Cells)) → deleted ≡ set.empty → filter (λ (row : RowName × Cells). not (set.contains deleted row.0)) xs ≡ xs
kept_all deleted [] none = refl
kept_all deleted (x ∷ xs) none =
    let out : set.contains deleted x.0 ≡ false = ap (λ (s : set.FinSet row_name_cmp). set.contains s x.0) none ∙ set.contains-empty row_name_cmp x.0 in
    ap (λ (b : Bool). cond (not b) (x ∷ filter (λ (row : RowName × Cells). not (set.contains deleted row.0)) xs) (filter (λ (row : RowName × Cells). not (set.contains deleted row.0)) xs)) out
    ∙ ap (λ (rest : List (RowName × Cells)). x ∷ rest) (kept_all deleted xs none)

live_numbered : (s : State) (first : BatchName) (batches : List Batch) → s ≡ record { batches = map.from_entries (named_batches first batches); deleted = set.empty } → cells_of (live_rows s) ≡ rows_of batches
unfolding live_rows
live_numbered s first batches is =
    ap cells_of (kept_all s.deleted (named_rows s) (ap (λ (x : State). x.deleted) is))
    ∙ ap (λ (es : List (BatchName × Batch)). cells_of (rows_in es)) (ap (λ (x : State). map.entries x.batches) is ∙ entries_kept (named_batches first batches) (sorted_numbered first first.number.0 batches))
    ∙ cells_numbered first first.number.0 batches

rows-append : (xs ys : List Batch) → rows_of (xs ++ ys) ≡ rows_of xs ++ rows_of ys
rows-append [] ys = refl
rows-append (x ∷ xs) ys = ap (λ (t : Batch). x ++ t) (rows-append xs ys) ∙ sym (append_assoc x (rows_of xs) (rows_of ys))

rows_last : (last : Batch) → rows_of (last_batch last) ≡ last
rows_last [] = refl
rows_last (row ∷ rows) = append-nil (row ∷ rows)

cut_whole : (rows : Batch) (batches : List Batch) → AreCut rows batches → rows_of batches ≡ rows
cut_whole rows batches h = ap rows_of h.cut ∙ rows-append h.full (last_batch h.last) ∙ ap (λ (t : Batch). rows_of h.full ++ t) (rows_last h.last) ∙ sym h.whole

-- what an import into a new file makes is the state of its batches
imported_state : (table : Table) (load : LoadForm) (first : BatchName) (new : Replica) (answer : Imported) → importing_as load first (replica_of table []) ≡ Ok (answer, new)
    → new.state ≡ record { batches = map.from_entries (named_batches first load.batches); deleted = set.empty }
imported_state table load first new answer made =
    let old : Replica = replica_of table [] in
    let told : Unit {0} × Replica → Imported × Replica = λ done. (imported_as load first old done.1, done.1) in
    let inner = bound_parts (merged old (loaded old load first)) (λ (done : Unit {0} × Replica). let made : Made Imported = Ok (told done) in made) (answer, new) made in
    let last : inner.0.1 ≡ new = ap (λ (p : Imported × Replica). p.1) (ok_one (told inner.0) (answer, new) inner.2) in
    let more : List Operation = inserts (named_batches first load.batches) in
    let none : AreAgreeing [] = λ n a b g h. absurd g in
    let adds : Adds table [] more inner.0.1 =
    merge-adds table [] more old (loaded old load first) inner.0.1 inner.0.0 refl refl (sym (state_of-inserts (named_batches first load.batches))) none (named_agree first load.batches) inner.1 in
    ap (λ (r : Replica). r.state) (sym last) ∙ adds.state ∙ ap state_of (append-nil more) ∙ state_of-inserts (named_batches first load.batches)

ok_rows : (xs ys : Batch) → ◌≡◌ {A = Result Batch CsvError} (Ok xs) (Ok ys) → xs ≡ ys
ok_rows xs ys e = cc

dump_is_imported : (old new : Replica) (rows : Batch) (load : LoadForm) (first : BatchName) (answer : Imported) → HasFile old.schema old.state → csv_rows old.schema true (dumping false old) ≡ Ok rows → AreCut rows load.batches
    → importing_as load first (replica_of old.schema []) ≡ Ok (answer, new) → cells_of (live_rows new.state) ≡ cells_of (live_rows old.state)
dump_is_imported old new rows load first answer h read cut made =
    live_numbered new.state first load.batches (imported_state old.schema load first new answer made)
    ∙ cut_whole rows load.batches cut
    ∙ ok_rows rows (cells_of (live_rows old.state)) (sym read ∙ dump_is_read old h)

pub dump_laws_hold : DumpLaws
dump_laws_hold = record { read = dump_is_read; import = dump_is_imported }
