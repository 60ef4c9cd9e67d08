-- An import, step by step: the file's table, the rows of the text as batches of it, and the file with these.
use Rattle.std.specs.Prelude.{◌≡◌, ℕ, ◌+◌, ◌*◌, ◌≤◌, Bool, List, [], ◌∷◌, ◌++◌, length, Option, Some, Result, Ok, Err, IfOk, IfErr}
use Rattle.std.proofs.Common.{refl, sym, ap, subst, ◌∙◌, inl, inr, arith}
use Rattle.std.proofs.lemmas.List.{length-append}
use Rattle.table_model.specs.Outcome.{Gives}
use Rattle.table_model.specs.Reading.{◌>>=◌}
use Rattle.table_model.specs.State.{Batch}
use Rattle.table_model.specs.Table.{Table, row_limit}
use Rattle.table_model.specs.declared.names.BatchName.{BatchName}
use Rattle.table_model.specs.declared.refusal.Refusal.{Refusal}
use Rattle.table_model.specs.declared.refusal.Refusal.TheVariants.{Memory, ReadFault, WriteFault, Full}
use Rattle.replica_store.specs.Replica.{Replica, batch_limit}
use Rattle.csv_rows.specs.DialectForm.{DialectForm}
use Rattle.csv_rows.specs.Reading.{Reading, at_start_in, to_come}
use Rattle.csv_rows.specs.declared.error.CsvError.{CsvError}
use Rattle.csv_rows.specs.declared.error.CsvError.TheVariants as csv
use Rattle.replica_reports.specs.Held.{held_in}
use Rattle.replica_changes.specs.Commands.{schema_in}
use Rattle.replica_changes.specs.CsvLoads.{AreCut, AreFull, LoadsRows, MayStop, RefusesText, StopsLoading, rows_of, with_batches}
use Rattle.replica_changes.specs.Loads.{LoadForm, empty_load}
use Rattle.lanes_c.specs.Faults.{told, told_of_csv}
use Rattle.lanes_c.specs.Importing.{HasTooMany, Loads, LoadsIn, LoadsText, IsWhyNotLoaded, IsWhyNotRead, IsWhyNotReadIn, ImportsLoad, Imports}
use Rattle.lanes_c.specs.Opened.{IsWhyNotOpened}
use Rattle.lanes_c.specs.Rooms.{Given}
use Rattle.lanes_c.specs.declared.fault.Fault.{Fault}

-- the table of a file is that of what it holds
pub schema_held : (file : List ℕ) (schema : Table) → schema_in file ≡ Ok schema → (r : Replica) × (held_in file ≡ Ok r) × (r.schema ≡ schema)
schema_held file schema made = go (held_in file) refl made
  where
    go : (x : Result Replica Refusal) → held_in file ≡ x → (x >>= λ (r : Replica). let named : Result Table Refusal = Ok r.schema in named) ≡ Ok schema → (r : Replica) × (held_in file ≡ Ok r) × (r.schema ≡ schema)
    go (Ok r) is named = let same : r.schema ≡ schema = cc in (r, is, same)
    go (Err e) is named = absurd cc

-- ---- rows that aren't loaded

unheld : (x : Result Replica Refusal) (e : Refusal) → (x >>= λ (r : Replica). let named : Result Table Refusal = Ok r.schema in named) ≡ Err e → x ≡ Err e
unheld (Ok r) e is = cc
unheld (Err f) e is = cc

-- a file that is refused as its schema is read
pub file_refused : (e : Refusal) (file input : List ℕ) → input ≡ file → ((e ≡ Memory → ⊥) → (e ≡ ReadFault → ⊥) → schema_in input ≡ Err e) → IsWhyNotOpened (told e) file
file_refused Memory file input same h = inr (inl refl)
file_refused ReadFault file input same h = inr (inr refl)
file_refused WriteFault file input same h = inr (inl refl)
file_refused other file input same h = inl (ap held_in (sym same) ∙ unheld (held_in input) other (h (λ is. cc) (λ is. cc)))

-- a load for which there is no memory
pub load_lacks : (dialect : DialectForm) (schema : Table) (e : Refusal) (text : List ℕ) (has_heading : Bool) → Gives {X = LoadForm} (λ (load : LoadForm). load) (Err e) (Ok (empty_load schema)) → IsWhyNotReadIn dialect schema text has_heading (told e)
load_lacks dialect schema e text has_heading (inl is) = absurd cc
load_lacks dialect schema e text has_heading (inr lack) =
    let P : Refusal → Type 0 = λ x. IsWhyNotReadIn dialect schema text has_heading (told x) in subst P (sym lack.0) (inl (inl refl))

-- how many rows full batches have
full_rows : (batches : List Batch) → AreFull batches → length (rows_of batches) ≡ length batches * row_limit
full_rows [] h = refl
full_rows (rows ∷ batches) h =
    let more : length (rows_of batches) ≡ length batches * row_limit = full_rows batches h.1 in
    length-append rows (rows_of batches) ∙ omega (arith, h.0, more)

-- where a load was stopped that is full, a text without a fault has too many rows
too_many : (dialect : DialectForm) (reading : Reading) (old new : LoadForm) (text : List ℕ) (schema : Table) (has_heading : Bool) → reading ≡ at_start_in dialect schema has_heading → old ≡ empty_load schema
    → (stops : StopsLoading reading (Some text) old new (csv.Refused Full)) → batch_limit ≤ length new.batches → HasTooMany dialect schema has_heading text
too_many dialect reading old new text schema has_heading start empty stops many rows come =
    let P : Reading → Type 0 = λ x. to_come x text ≡ Ok rows in
    let left = stops.first text rows refl (subst P (sym start) come) in
    let batches : new.batches ≡ stops.full = ap (λ (l : LoadForm). l.batches) stops.loaded ∙ ap (λ (l : LoadForm). l.batches ++ stops.full) empty in
    let some : 1 ≤ length left.0 = left.2 refl in
    let count : length rows ≡ length (rows_of stops.full) + length left.0 = ap length left.1 ∙ length-append (rows_of stops.full) left.0 in
    omega (arith, ap length batches, many, some, count, full_rows stops.full stops.are_full)

-- what stops the rows of a text
stop_told : (dialect : DialectForm) (e : Refusal) (reading : Reading) (schema : Table) (old new : LoadForm) (text : List ℕ) (has_heading : Bool) → reading ≡ at_start_in dialect schema has_heading → old ≡ empty_load schema
    → StopsLoading reading (Some text) old new (csv.Refused e) → MayStop new (csv.Refused e) → IsWhyNotReadIn dialect schema text has_heading (told e)
stop_told dialect Memory reading schema old new text has_heading start empty stops may = inl (inl refl)
stop_told dialect ReadFault reading schema old new text has_heading start empty stops may = inl (inr refl)
stop_told dialect Full reading schema old new text has_heading start empty stops may = inr (refl, too_many dialect reading old new text schema has_heading start empty stops may)
stop_told dialect other reading schema old new text has_heading start empty stops may = absurd may

csv_told : (dialect : DialectForm) (e : CsvError) (csv : Reading) (schema : Table) (old new : LoadForm) (text : List ℕ) (has_heading : Bool) → csv ≡ at_start_in dialect schema has_heading → old ≡ empty_load schema
    → RefusesText csv e (Some text) → StopsLoading csv (Some text) old new e → IsWhyNotReadIn dialect schema text has_heading (told_of_csv e)
csv_told dialect (csv.Refused refusal) reading schema old new text has_heading start empty why stops =
    let same : old.schema ≡ reading.table = ap (λ (l : LoadForm). l.schema) empty ∙ sym (ap (λ (x : Reading). x.table) start) in
    stop_told dialect refusal reading schema old new text has_heading start empty stops (stops.may_stop same)
csv_told dialect (csv.BadCsv line column) reading schema old new text has_heading start empty why stops =
    let P : Reading → Type 0 = λ x. RefusesText x (csv.BadCsv line column) (Some text) in subst P start why
csv_told dialect (csv.LineTooLong line) reading schema old new text has_heading start empty why stops =
    let P : Reading → Type 0 = λ x. RefusesText x (csv.LineTooLong line) (Some text) in subst P start why

-- ---- rows that are loaded

-- the rows that came are batches of the table
loads_of : (dialect : DialectForm) (csv : Reading) (schema : Table) (old load : LoadForm) (text : List ℕ) (has_heading : Bool) → csv ≡ at_start_in dialect schema has_heading → old ≡ empty_load schema → LoadsRows csv (Some text) old load
    → LoadsIn dialect schema text has_heading load
loads_of dialect csv schema old load text has_heading start empty (rows, batches, come, cut, new) =
    let P : Reading → Type 0 = λ x. to_come x text ≡ Ok rows in
    let whole : load ≡ with_batches (empty_load schema) batches = new ∙ ap (λ (l : LoadForm). with_batches l batches) empty in
    let R : List Batch → Type 0 = λ b. AreCut rows b in
    (rows, subst P start come, ap (λ (l : LoadForm). l.schema) whole, subst R (sym (ap (λ (l : LoadForm). l.batches) whole)) cut)

-- what is loaded for the table of a file, or why not
pub loads_held : (result : Result LoadForm Fault) (schema : Table) (file input text : List ℕ) (has_heading : Bool) → input ≡ file → schema_in input ≡ Ok schema → IfOk result (λ load. LoadsText schema text has_heading load)
    → IfOk result (λ load. Loads file text has_heading load)
loads_held (Ok load) schema file input text has_heading same named h =
    let held = schema_held file schema (ap schema_in (sym same) ∙ named) in
    let P : Table → Type 0 = λ t. LoadsText t text has_heading load in
    (held.0, held.1, subst P (sym held.2) h)
loads_held (Err fault) schema file input text has_heading same named h = tt

pub unread_held : (result : Result LoadForm Fault) (schema : Table) (file input text : List ℕ) (has_heading : Bool) → input ≡ file → schema_in input ≡ Ok schema → IfErr result (λ fault. IsWhyNotRead schema text has_heading fault)
    → IfErr result (λ fault. IsWhyNotLoaded file text has_heading fault)
unread_held (Ok load) schema file input text has_heading same named h = tt
unread_held (Err fault) schema file input text has_heading same named h =
    let held = schema_held file schema (ap schema_in (sym same) ∙ named) in
    let P : Table → Type 0 = λ t. IsWhyNotRead t text has_heading fault in
    inr (held.0, held.1, subst P (sym held.2) h)

-- an import of the rows of a text is one of their load
pub imports_of : (given : Given) (load : LoadForm) (first : Option BatchName) (words file text : List ℕ) (has_heading : Bool) → Loads file text has_heading load → ImportsLoad given load first words file
    → Imports given text has_heading first words file
imports_of (Ok bytes) load first words file text has_heading loads h = (load, loads, h)
imports_of (Err fault) load first words file text has_heading loads h = inr (load, loads, h)

-- the same, over a reader that had the text
pub text_refused : (dialect : DialectForm) (e : CsvError) (csv : Reading) (schema : Table) (old new : LoadForm) (text given : List ℕ) (has_heading : Bool) → given ≡ text → csv ≡ at_start_in dialect schema has_heading
    → ◌≡◌ {A = Result LoadForm Refusal} (Ok (empty_load schema)) (Ok old) → RefusesText csv e (Some given) → StopsLoading csv (Some given) old new e → IsWhyNotReadIn dialect schema text has_heading (told_of_csv e)
text_refused dialect e csv schema old new text given has_heading is start empty why stops =
    let P : List ℕ → Type 0 = λ t. RefusesText csv e (Some t) in
    let Q : List ℕ → Type 0 = λ t. StopsLoading csv (Some t) old new e in
    let made : old ≡ empty_load schema = cc in
    csv_told dialect e csv schema old new text has_heading start made (subst P is why) (subst Q is stops)

pub rows_loaded : (dialect : DialectForm) (csv : Reading) (schema : Table) (old load : LoadForm) (text given : List ℕ) (has_heading : Bool) → given ≡ text → csv ≡ at_start_in dialect schema has_heading
    → ◌≡◌ {A = Result LoadForm Refusal} (Ok (empty_load schema)) (Ok old) → LoadsRows csv (Some given) old load → LoadsIn dialect schema text has_heading load
rows_loaded dialect csv schema old load text given has_heading is start empty rows =
    let P : List ℕ → Type 0 = λ t. LoadsRows csv (Some t) old load in
    let made : old ≡ empty_load schema = cc in
    loads_of dialect csv schema old load text has_heading start made (subst P is rows)
