-- What a file that is open is asked: a text that is written whole, or one text after another.
use Rattle.std.specs.Prelude.{◌≡◌, ◌⊎◌, ℕ, Bool, true, List, [], ◌∷◌, ◌++◌, codes, length, Option, Some, None, Result, Ok, Err}
use Rattle.std.specs.FinMap as map
use Rattle.std.specs.Fmt.{decimal}
use Rattle.std.specs.Io.KnownBytes.{Appends}
use Rattle.table_model.specs.Counted.{one_more}
use Rattle.table_model.specs.Faults.{AppendsFront}
use Rattle.table_model.specs.Reading.{◌>>=◌}
use Rattle.table_model.specs.declared.refusal.Refusal.{Refusal}
use Rattle.table_model.specs.declared.refusal.Refusal.TheVariants.{Memory, ReadFault, WriteFault}
use Rattle.answer_formats.specs.Formats.{formatted}
use Rattle.answer_formats.specs.declared.format.Format.{Format}
use Rattle.column_file.specs.Files.{ranges_of, offer_bytes}
use Rattle.replica_store.specs.Exchange.{OfferForm, SummaryForm, offered, unlisted}
use Rattle.replica_store.specs.Replica.{Replica}
use Rattle.replica_store.specs.Segments.{StoreForm}
use Rattle.store_view.specs.Asked.{query_answer, is_refusal_of_query}
use Rattle.replica_reports.specs.declared.answers.NotAnswered.{NotAnswered}

-- A call that writes a text whole: it was written; or it was refused as it has to be, or memory ran out, and nothing was written; or a
-- write failed after a front of the text. The count of failures rose with a failed write alone.
abbrev pub WritesText : Result (Unit {0}) Refusal → Option (List ℕ) → Option (List ℕ) → ℕ → ℕ → Result (List ℕ) Refusal → Type 0
WritesText (Ok done) old new before after made = (text : List ℕ) × (made ≡ Ok text) × Appends old new text × (after ≡ before)
WritesText (Err WriteFault) old new before after made = (text : List ℕ) × (made ≡ Ok text) × AppendsFront old new text × (after ≡ one_more before)
WritesText (Err Memory) old new before after made = (new ≡ old) × (after ≡ before)
WritesText (Err other) old new before after made = (made ≡ Err other) × (new ≡ old) × (after ≡ before)

-- ---- the texts

-- how many batches and maximal ranges of deleted rows there are, and how the line ends
abbrev pub checked_line : ℕ × ℕ → List ℕ → List ℕ
checked_line found ending = codes "ok batches=" ++ (decimal found.0 ++ (codes " ranges=" ++ (decimal found.1 ++ ending)))

-- check: how many batches and maximal ranges of deleted rows there are
abbrev pub checked_text : ℕ × ℕ → List ℕ
checked_text found = checked_line found (codes "\n")

-- check with a digest: how the line ends
abbrev pub digest_ending : List ℕ → List ℕ
digest_ending digest = codes " digest=" ++ (digest ++ codes "\n")

-- the same of a replica
abbrev pub counts_of : Replica → ℕ × ℕ
counts_of r = (map.len r.state.batches, length (ranges_of r.state.deleted))

-- the answer of a query at a replica, in a format
abbrev pub answered_in : Format → Replica → List ℕ → Result (List ℕ) Refusal
answered_in format r sql = query_answer sql r.schema r.state >>= λ answer. Ok (formatted format answer)

-- the offer of a store to a summary: the batches that the summary does not list, as they are coded, and all deletions
abbrev pub offer_of : StoreForm → SummaryForm → Result OfferForm Refusal
offer_of s summary = offered s.replica summary >>= λ state. Ok (record { schema = s.replica.schema; state = state; segments = unlisted summary.names s.segments })

-- its bytes
abbrev pub offer_text : StoreForm → SummaryForm → Result (List ℕ) Refusal
offer_text s summary = offer_of s summary >>= λ o. Ok (offer_bytes o)

-- ---- one text after another

-- a text that is written, and the refusal that ends it, if one does
abbrev pub Report : Type 0
Report = List ℕ × Option Refusal

-- nothing is written, and nothing refused
abbrev pub no_report : Report
no_report = ([], None)

-- a refusal before anything is written
abbrev pub refused : Refusal → Report
refused e = ([], Some e)

-- a text, and then a report
abbrev pub after_text : List ℕ → Report → Report
after_text text report = (text ++ report.0, report.1)

-- a text, and then what comes after it; a refusal ends all
abbrev pub text_report : Result (List ℕ) Refusal → Report → Report
text_report (Ok text) rest = after_text text rest
text_report (Err e) rest = refused e

-- the answers of queries at a replica, one after another, up to the first that is refused
abbrev pub answers_report : Format → Replica → List (List ℕ) → Report
answers_report format r [] = no_report
answers_report format r (sql ∷ sqls) = text_report (answered_in format r sql) (answers_report format r sqls)

-- the refusals that no input decides: memory runs out, a read fails, a write fails
abbrev pub IsFromOutside : Refusal → Type 0
IsFromOutside e = (e ≡ Memory) ⊎ ((e ≡ ReadFault) ⊎ (e ≡ WriteFault))

-- What was written is the report's text, and the call ended as the report does; or one of those refusals ended it, after a front
-- of the text.
abbrev pub Tells : Result (Unit {0}) Refusal → Option (List ℕ) → Option (List ℕ) → Report → Type 0
Tells (Ok done) before now report = (report.1 ≡ None) × Appends before now report.0
Tells (Err e) before now report = ((report.1 ≡ Some e) × Appends before now report.0) ⊎ (IsFromOutside e × AppendsFront before now report.0)

-- whether a refusal is one that writing the answer of a query may have
abbrev pub is_refusal_of_answering : Refusal → Bool
is_refusal_of_answering WriteFault = true
is_refusal_of_answering other = is_refusal_of_query other

-- what came of queries, without which one was refused
abbrev pub refusal_in : Result (Unit {0}) NotAnswered → Result (Unit {0}) Refusal
refusal_in (Ok done) = Ok done
refusal_in (Err stopped) = Err stopped.refusal
