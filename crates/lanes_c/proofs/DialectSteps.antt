-- Where a word of a list begins, byte by byte; and the rows that are read in a dialect, and imported.
use Rattle.std.proofs.Common.{◌≡◌, ◌-◌, ℕ, suc, Bool, cond, List, [], ◌∷◌, Option, Result, Ok, Err, IfOk, IfErr, inl, inr, refl, sym, ap, subst, ◌∙◌}
use Rattle.std.proofs.lemmas.Bool.{ne_eqb}
use Rattle.table_model.specs.Table.{ColumnShape, Table}
use Rattle.table_model.specs.declared.names.BatchName.{BatchName}
use Rattle.csv_rows.specs.DialectForm.{DialectForm}
use Rattle.replica_reports.specs.Held.{held_in}
use Rattle.replica_store.specs.Replica.{Replica}
use Rattle.replica_changes.specs.CommandForms.{Import}
use Rattle.replica_changes.specs.Loads.{LoadForm}
use Rattle.lanes_c.specs.Calls.{Yields}
use Rattle.lanes_c.specs.Dialects.{ImportsRows, ImportsRowsInto, ReadsRows, RowsForm, SaysDialect, commas_left, dialect_said, word_start}
use Rattle.lanes_c.specs.Importing.{ImportsLoad, IsWhyNotReadIn, LoadsIn}
use Rattle.lanes_c.specs.Rooms.{Given}
use Rattle.lanes_c.specs.TableChanges.{Changed, with_command}
use Rattle.lanes_c.specs.declared.fault.Fault.{Fault}

-- the byte at which a word begins, one byte further
pub word_further : (byte : ℕ) (words : List ℕ) (before : ℕ) → (before ≡ 0 → ⊥) → word_start (byte ∷ words) before ≡ suc (word_start words (commas_left byte before))
word_further byte words before some = ap (λ (t : Bool). cond t 0 (suc (word_start words (commas_left byte before)))) (ne_eqb before 0 some)

pub word_here : (words : List ℕ) (before : ℕ) → before ≡ 0 → word_start words before ≡ 0
word_here [] before is = refl
word_here (byte ∷ words) before is = subst (λ (n : ℕ). word_start (byte ∷ words) n ≡ 0) (sym is) refl

-- ---- the rows

-- rows that were read in the dialect that is said, or not
pub rows_read : (result : Result LoadForm Fault) (table : Table) (columns : List ColumnShape) (form : RowsForm) (dialect : DialectForm) (text : List ℕ) (has_heading : Bool) → columns ≡ table.columns → dialect_said columns form ≡ Ok dialect
    → IfOk result (λ load. LoadsIn dialect table text has_heading load) → IfErr result (λ fault. IsWhyNotReadIn dialect table text has_heading fault) → ReadsRows result table form text has_heading
rows_read (Ok load) table columns form dialect text has_heading same said loads why = (dialect, ap (λ (c : List ColumnShape). dialect_said c form) (sym same) ∙ said, loads)
rows_read (Err fault) table columns form dialect text has_heading same said loads why = inr (dialect, ap (λ (c : List ColumnShape). dialect_said c form) (sym same) ∙ said, why)

-- the dialect was refused
pub rows_unread : (table : Table) (columns : List ColumnShape) (form : RowsForm) (fault : Fault) (text : List ℕ) (has_heading : Bool) → columns ≡ table.columns → SaysDialect (Err fault) columns form → ReadsRows (Err fault) table form text has_heading
rows_unread table columns form fault text has_heading same h = inl (subst (λ (c : List ColumnShape). SaysDialect (Err fault) c form) same h)

-- rows that were loaded, and imported or not, into a table
pub rows_imported : (changed : Changed) (load : LoadForm) (first : Option BatchName) (words text : List ℕ) (form : RowsForm) (has_heading : Bool) (r : Replica) → ReadsRows (Ok load) r.schema form text has_heading
    → Yields changed (with_command (Import load first words) r) → ImportsRowsInto changed form text has_heading first words r
rows_imported (Ok new) load first words text form has_heading r loads h = (load, loads, h)
rows_imported (Err fault) load first words text form has_heading r loads h = inr (load, loads, h)

-- the same, into a file
pub file_imported : (given : Given) (load : LoadForm) (first : Option BatchName) (words file text : List ℕ) (form : RowsForm) (has_heading : Bool) (table : Table) → ((r : Replica) × (held_in file ≡ Ok r) × (r.schema ≡ table))
    → ReadsRows (Ok load) table form text has_heading → ImportsLoad given load first words file → ImportsRows given form text has_heading first words file
file_imported (Ok bytes) load first words file text form has_heading table (r, held, same) loads h =
    (r, load, held, subst (λ (t : Table). ReadsRows (Ok load) t form text has_heading) (sym same) loads, h)
file_imported (Err fault) load first words file text form has_heading table (r, held, same) loads h =
    inr (r, held, inr (load, subst (λ (t : Table). ReadsRows (Ok load) t form text has_heading) (sym same) loads, h))

-- the rows were refused that go into a file
pub file_unread : (fault : Fault) (first : Option BatchName) (words file text : List ℕ) (form : RowsForm) (has_heading : Bool) (table : Table) → ((r : Replica) × (held_in file ≡ Ok r) × (r.schema ≡ table)) → ReadsRows (Err fault) table form text has_heading
    → ImportsRows (Err fault) form text has_heading first words file
file_unread fault first words file text form has_heading table (r, held, same) h = inr (r, held, inl (subst (λ (t : Table). ReadsRows (Err fault) t form text has_heading) (sym same) h))
