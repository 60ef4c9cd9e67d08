-- What the calls for C give, as functions of the bytes that they are given.
use Rattle.std.specs.Prelude.{◌≡◌, ◌⊎◌, ℕ, Bool, List, [], ◌∷◌, ◌++◌, codes, Option, Some, Result, Ok, Err}
use Rattle.std.specs.Str.{IsUtf8}
use Rattle.std.specs.Str.Lossy.{utf8_valid_len}
use Rattle.table_model.specs.Answer.{answer_text}
use Rattle.table_model.specs.Reading.{◌>>=◌}
use Rattle.table_model.specs.State.{State, empty_state}
use Rattle.table_model.specs.Table.{schema_of}
use Rattle.table_model.specs.declared.refusal.Refusal.{Refusal}
use Rattle.table_model.specs.declared.refusal.Refusal.TheVariants.{Syntax, BadSchema}
use Rattle.column_file.specs.Files.{canonical_file, checked_from, offer_bytes, offer_read}
use Rattle.column_file.specs.Input.{IsUnread}
use Rattle.column_file.specs.SummaryBytes.{summary_read}
use Rattle.replica_store.specs.Exchange.{OfferForm, SummaryForm, offered}
use Rattle.replica_store.specs.Replica.{Replica}
use Rattle.store_view.specs.Asked.{query_answer}
use Rattle.replica_reports.specs.Held.{held_in, summarizing}
use Rattle.replica_changes.specs.CommandForms.{CommandForm, Apply, adding}
use Rattle.replica_changes.specs.Commands as commands
use Rattle.replica_reports.specs.Dumps.{dumping}
use Rattle.replica_changes.specs.Forgetting.{forgetting}
use Rattle.script_lines.specs.Line.{command_of}
use Rattle.script_lines.specs.TableWords.{TableWords}
use Rattle.script_lines.specs.declared.command.Command.{Command}
use Rattle.script_lines.specs.declared.command.Command.TheVariants.{Table as MakesTable}
use Rattle.replica_reports.specs.Asking.{checked_text}
use Rattle.replica_store.specs.Segments.{StoreForm}
use Rattle.lanes_c.specs.Rooms.{Given}
use Rattle.lanes_c.specs.declared.fault.Fault.{Fault}
use Rattle.lanes_c.specs.declared.fault.Fault.TheVariants.{Refused}

-- ---- what is given

-- What is given is what a meaning gives, the bytes or a replica, or the refusal; out of memory may come in the place of anything, and so may
-- ReadFault, which means an input of more than 2^48 bytes.
abbrev pub Yields : {X : Type 0} → Result X Fault → Result X Refusal → Type 0
Yields (Ok x) meaning = meaning ≡ Ok x
Yields (Err (Refused e)) meaning = (meaning ≡ Err e) ⊎ IsUnread e
Yields (Err other) meaning = ⊥

-- the same where a text is asked: bytes that are no text are refused before all else
abbrev pub Asks : {X : Type 0} → Result X Fault → List ℕ → Result X Refusal → Type 0
Asks given text meaning = (IsUtf8 text → Yields given meaning) × ((IsUtf8 text → ⊥) → given ≡ Err (Refused (Syntax (utf8_valid_len text))))

-- ---- the calls

-- lanes_check: the line of a file's check
abbrev pub check_of : List ℕ → Result (List ℕ) Refusal
check_of file = checked_from file >>= λ found. Ok (checked_text found)

-- lanes_query: the text of a query's answer over what a file holds
abbrev pub query_of : List ℕ → List ℕ → Result (List ℕ) Refusal
query_of sql file = held_in file >>= λ r. query_answer sql r.schema r.state >>= λ answer. Ok (answer_text answer)

-- lanes_dump: the live rows of what a file holds
abbrev pub dump_of : Bool → List ℕ → Result (List ℕ) Refusal
dump_of has_names file = held_in file >>= λ r. Ok (dumping has_names r)

-- the line of a script that makes a table of these words
abbrev pub line_of : List ℕ → List ℕ
line_of words = codes "table 1 " ++ words

-- the words of a table, as such a line has them
abbrev pub words_in : Option Command → Result TableWords Refusal
words_in (Some (MakesTable words)) = Ok words
words_in other = Err BadSchema

-- the canonical file of the empty table of some words
abbrev pub empty_file_of : TableWords → Result (List ℕ) Refusal
empty_file_of words = schema_of words.table words.columns >>= λ table. Ok (canonical_file table empty_state)

-- lanes_create: the same of the words that a text has
abbrev pub create_of : List ℕ → Result (List ℕ) Refusal
create_of text = words_in (command_of (line_of text)) >>= empty_file_of

-- the canonical file of what a file holds once a command was done on it
abbrev pub change_of : CommandForm → List ℕ → Result (List ℕ) Refusal
change_of command file = commands.file_made (held_in file >>= adding command)

-- lanes_forget: the canonical file without the batches of which every row is deleted
abbrev pub forget_of : List ℕ → Result (List ℕ) Refusal
forget_of file = commands.file_made (held_in file >>= forgetting)

-- lanes_summary: the summary of what a file holds
abbrev pub summary_of : List ℕ → Result (List ℕ) Refusal
summary_of file = held_in file >>= summarizing

-- lanes_apply: the canonical file of what a file holds and an offer brings
abbrev pub apply_of : List ℕ → List ℕ → Result (List ℕ) Refusal
apply_of offer file = offer_read offer >>= λ o. change_of (Apply (o ∷ [])) file

-- lanes_merge: the canonical file of what two files hold
abbrev pub merge_of : List ℕ → List ℕ → Result (List ℕ) Refusal
merge_of one other = commands.written_of (commands.merged_files one (other ∷ []))

-- the state that is offered of what a file holds to a summary; refused are the summary, the file, or that they are of two tables
abbrev pub offered_of : List ℕ → List ℕ → Result State Refusal
offered_of summary file = summary_read summary >>= λ s. held_in file >>= λ r. offered r s

-- an offer of what is open to a summary, and it is read as that
abbrev pub OffersAt : Given → StoreForm → SummaryForm → Type 0
OffersAt (Ok bytes) s summary = (o : OfferForm) × commands.OffersTo s.replica summary o × (bytes ≡ offer_bytes o)
OffersAt (Err (Refused e)) s summary = (offered s.replica summary ≡ Err e) ⊎ IsUnread e
OffersAt (Err other) s summary = ⊥

-- lanes_offer: the bytes are an offer of what the file holds to the summary, and are read as that
abbrev pub OffersTo : Given → List ℕ → List ℕ → Type 0
OffersTo (Ok bytes) summary file =
    (r : Replica) × (s : SummaryForm) × (o : OfferForm) × (held_in file ≡ Ok r) × (summary_read summary ≡ Ok s) × commands.OffersTo r s o × (bytes ≡ offer_bytes o)
OffersTo (Err (Refused e)) summary file = (offered_of summary file ≡ Err e) ⊎ IsUnread e
OffersTo (Err other) summary file = ⊥
