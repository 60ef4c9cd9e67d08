-- The dialects of comma-separated values as a caller says them, and what an import in a dialect gives.
use Rattle.std.specs.Prelude.{◌≡◌, ◌⊎◌, ℕ, suc, Bool, ◌==◌, ◌&&◌, ◌||◌, ◌-◌, nat_le, not, cond, List, [], ◌∷◌, Option, Some, None, Result, Ok, Err}
use Rattle.std.specs.Str.{IsUtf8}
use Rattle.table_model.specs.Table.{ColumnShape, Table}
use Rattle.table_model.specs.declared.names.BatchName.{BatchName}
use Rattle.table_model.specs.declared.refusal.Refusal.TheVariants.{Memory, NoSuchColumn}
use Rattle.csv_rows.specs.DialectForm.{DialectForm}
use Rattle.csv_rows.specs.Wording.{order_of_words}
use Rattle.replica_reports.specs.Held.{held_in}
use Rattle.replica_store.specs.Replica.{Replica}
use Rattle.replica_changes.specs.CommandForms.{Import}
use Rattle.replica_changes.specs.Loads.{LoadForm}
use Rattle.lanes_c.specs.Calls.{Yields}
use Rattle.lanes_c.specs.Importing.{ImportsLoad, IsWhyNotReadIn, LoadsIn}
use Rattle.lanes_c.specs.Opened.{IsWhyNotOpened}
use Rattle.lanes_c.specs.Rooms.{Given}
use Rattle.lanes_c.specs.TableChanges.{Changed, with_command}
use Rattle.lanes_c.specs.declared.fault.Fault.{Fault}
use Rattle.lanes_c.specs.declared.fault.Fault.TheVariants.{BadCsv, InNames, Refused}

-- How rows are written, as a caller says it: the byte between two fields, or 0; the word that is a null besides the usual ones, or nothing; the words
-- that say what the fields are, with a comma between each two, or nothing; and whether the last line needs an end.
pub record RowsForm : Type 0 where
  pub separator : ℕ
  pub null_word : List ℕ
  pub columns : List ℕ
  pub needs_ends : Bool

-- the byte that separates fields: 0 stands for a comma
abbrev pub comma_or : ℕ → ℕ
comma_or separator = cond (separator == 0) 44 separator

-- whether a byte is one of a range
abbrev pub is_within : ℕ → ℕ → ℕ → Bool
is_within first last byte = nat_le first byte && nat_le byte last

-- whether a byte is a digit or a letter of ASCII
abbrev pub is_letter_or_digit : ℕ → Bool
is_letter_or_digit byte = is_within 48 57 byte || (is_within 65 90 byte || is_within 97 122 byte)

-- whether a byte is the end of a line, a quote, a hyphen, a backslash or an underscore
abbrev pub is_taken : ℕ → Bool
is_taken byte = byte == 10 || (byte == 13 || (byte == 34 || (byte == 45 || (byte == 92 || byte == 95))))

-- whether a byte may separate fields: a character of ASCII that no name, no number, no null and no line's end has
abbrev pub may_separate : ℕ → Bool
may_separate byte = nat_le byte 127 && not (is_taken byte || is_letter_or_digit byte)

-- a word that is a null; none where it is empty
abbrev pub own_word : List ℕ → Option (List ℕ)
own_word [] = None
own_word (byte ∷ word) = Some (byte ∷ word)

-- the dialect, where the fields are those of the heading or of the table's order
abbrev pub plain_dialect : RowsForm → DialectForm
plain_dialect form = record { separator = comma_or form.separator; null_word = own_word form.null_word; order = None; needs_ends = form.needs_ends }

-- how many commas are left before a word, behind a byte
abbrev pub commas_left : ℕ → ℕ → ℕ
commas_left byte before = cond (byte == 44) (before - 1) before

-- the byte at which a word of a list begins, by how many commas are before it
abbrev pub word_start : List ℕ → ℕ → ℕ
word_start [] before = 0
word_start (byte ∷ words) before = cond (before == 0) 0 (suc (word_start words (commas_left byte before)))

-- a dialect in which the fields are what words say, or the first word that names no new column, by its first byte
abbrev pub in_order : DialectForm → List ℕ → Result (List (Option ℕ)) ℕ → Result DialectForm Fault
in_order dialect words (Ok order) = Ok (record { separator = dialect.separator; null_word = dialect.null_word; order = Some order; needs_ends = dialect.needs_ends })
in_order dialect words (Err number) = Err (InNames (NoSuchColumn (word_start words (number - 1))))

-- the same, where there are words
abbrev pub in_columns : List ColumnShape → DialectForm → List ℕ → Result DialectForm Fault
in_columns columns dialect [] = Ok dialect
in_columns columns dialect (byte ∷ words) = in_order dialect (byte ∷ words) (order_of_words columns (byte ∷ words))

-- the dialect that a form says of rows of a table's columns, or why it says none
abbrev pub dialect_said : List ColumnShape → RowsForm → Result DialectForm Fault
dialect_said columns form = cond (may_separate (comma_or form.separator)) (in_columns columns (plain_dialect form) form.columns) (Err (BadCsv 0 1))

-- why there is no word: it is no text, or memory ran out
abbrev pub IsNoWord : Fault → List ℕ → Type 0
IsNoWord fault word = ((fault ≡ BadCsv 0 2) × (IsUtf8 word → ⊥)) ⊎ (fault ≡ Refused Memory)

-- the order that words say, or the first that names no new column
abbrev pub SaysOrder : Result (List (Option ℕ)) Fault → List ColumnShape → List ℕ → Type 0
SaysOrder (Ok order) columns words = order_of_words columns words ≡ Ok order
SaysOrder (Err fault) columns words = ((number : ℕ) × (order_of_words columns words ≡ Err number) × (fault ≡ InNames (NoSuchColumn (word_start words (number - 1))))) ⊎ (fault ≡ Refused Memory)

-- the same where memory may run out
abbrev pub SaysColumns : Result DialectForm Fault → List ColumnShape → DialectForm → List ℕ → Type 0
SaysColumns (Ok said) columns dialect words = in_columns columns dialect words ≡ Ok said
SaysColumns (Err fault) columns dialect words = (in_columns columns dialect words ≡ Err fault) ⊎ (fault ≡ Refused Memory)

-- The dialect is that which is said, or the refusal is; or the word for a null is no text, or memory ran out.
abbrev pub SaysDialect : Result DialectForm Fault → List ColumnShape → RowsForm → Type 0
SaysDialect (Ok dialect) columns form = dialect_said columns form ≡ Ok dialect
SaysDialect (Err fault) columns form = (dialect_said columns form ≡ Err fault) ⊎ IsNoWord fault form.null_word

-- the rows of a text are batches of the table, read in the dialect that is said; or why not
abbrev pub ReadsRows : Result LoadForm Fault → Table → RowsForm → List ℕ → Bool → Type 0
ReadsRows (Ok load) table form text has_heading = (dialect : DialectForm) × (dialect_said table.columns form ≡ Ok dialect) × LoadsIn dialect table text has_heading load
ReadsRows (Err fault) table form text has_heading =
    SaysDialect (Err fault) table.columns form ⊎ ((dialect : DialectForm) × (dialect_said table.columns form ≡ Ok dialect) × IsWhyNotReadIn dialect table text has_heading fault)

-- lanes_import_in: the canonical file of what a file holds and the rows of a text; or why the file wasn't opened, or these rows weren't
-- loaded; or what their import is refused as
abbrev pub ImportsRows : Given → RowsForm → List ℕ → Bool → Option BatchName → List ℕ → List ℕ → Type 0
ImportsRows (Ok bytes) form text has_heading first words file =
    (r : Replica) × (load : LoadForm) × (held_in file ≡ Ok r) × ReadsRows (Ok load) r.schema form text has_heading × ImportsLoad (Ok bytes) load first words file
ImportsRows (Err fault) form text has_heading first words file =
    IsWhyNotOpened fault file
    ⊎ ((r : Replica) × (held_in file ≡ Ok r)
    × (ReadsRows (Err fault) r.schema form text has_heading ⊎ ((load : LoadForm) × ReadsRows (Ok load) r.schema form text has_heading × ImportsLoad (Err fault) load first words file)))

-- lanes_table_import_in: the replica with the rows of a text; or why these weren't loaded; or what their import is refused as
abbrev pub ImportsRowsInto : Changed → RowsForm → List ℕ → Bool → Option BatchName → List ℕ → Replica → Type 0
ImportsRowsInto (Ok new) form text has_heading first words r = (load : LoadForm) × ReadsRows (Ok load) r.schema form text has_heading × Yields (Ok new) (with_command (Import load first words) r)
ImportsRowsInto (Err fault) form text has_heading first words r =
    ReadsRows (Err fault) r.schema form text has_heading ⊎ ((load : LoadForm) × ReadsRows (Ok load) r.schema form text has_heading × Yields (Err fault) (with_command (Import load first words) r))
