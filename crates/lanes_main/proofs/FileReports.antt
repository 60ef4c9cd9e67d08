-- What is written for a file, step by step: the file is opened, and the line of its check or one answer after another is written.
use Rattle.std.proofs.Common.{◌≡◌, inl, inr, ℕ, Bool, true, false, ◌||◌, IsTrue, List, length, Option, Some, None, Result, Ok, Err, refl, sym, ap, subst}
use Rattle.std.specs.FinMap as map
use Rattle.std.specs.Io.KnownBytes.{Appends}
use Rattle.table_model.specs.Faults.{AppendsFront, GaveMore, CountsBoth, CountsReads, CountsWrites}
use Rattle.table_model.specs.Reading.{◌>>=◌}
use Rattle.table_model.specs.declared.refusal.Refusal.{Refusal}
use Rattle.table_model.specs.declared.refusal.Refusal.TheVariants.{Memory, ReadFault, WriteFault}
use Rattle.column_file.specs.Files.{canonical_read, checked_from, ranges_of}
use Rattle.column_file.specs.Input.{Judges, IsReadWhole, StopsReading, is_refusal_of_reading}
use Rattle.replica_store.specs.Exchange.{OfferForm, offering}
use Rattle.replica_store.specs.Replica.{Replica}
use Rattle.replica_reports.specs.Asking.{Report, WritesText, Tells, refused, checked_text, counts_of, is_refusal_of_answering}
use Rattle.replica_reports.specs.Held.{held_in}
use Rattle.replica_reports.proofs.AskedTexts.{front_none}
use Rattle.replica_changes.proofs.RefusedOnFile.{or_command}
use Rattle.lanes_main.specs.FileReport.{checked_report, check_report, is_refusal_of_checking, is_refusal_of_querying, Reports, IsUnreported, EndsReport}
use Rattle.lanes_main.proofs.Tellings.{appends_none}

-- a file that is refused as it is read: nothing is written
pub reading_refused : {X Y : Type 0} (view : X → Y) (e : Refusal) (input known : Option (List ℕ)) (meaning : List ℕ → Result Y Refusal) (report : List ℕ → Report)
    → ((bytes : List ℕ) → meaning bytes ≡ Err e → report bytes ≡ refused e)
    → Judges {X = X} view (Err e) input meaning → Reports (Err e) input known known report
reading_refused view e None known meaning report to h = tt
reading_refused view Memory (Some bytes) known meaning report to h = inr (inl refl, front_none known (report bytes).0)
reading_refused view ReadFault (Some bytes) known meaning report to h = inr (inr (inl refl), front_none known (report bytes).0)
reading_refused view other (Some bytes) known meaning report to h =
    let is : report bytes ≡ refused other = to bytes (h (λ is. cc) (λ is. cc)) in
    let P : Report → Type 0 = λ r. Tells (Err other) known known r in
    subst P (sym is) (inl (refl, appends_none known))

reading_counted : (many : Type 0) (e : Refusal) (r r' w : ℕ) → IsTrue (is_refusal_of_reading e) → CountsReads many e r r' → CountsBoth many e r r' w w
reading_counted many ReadFault r r' w listed h = (h, refl)
reading_counted many WriteFault r r' w listed h = let wrong : false ≡ true = listed in absurd cc
reading_counted many other r r' w listed h = (h, refl)

-- and how the call ends then
pub reading_ends : {D E : Type 0} (remaining : D → Option (List ℕ)) (is_refusal : Refusal → Bool) (reader reader' : D × ℕ) (writer : E × ℕ) (e : Refusal)
    → IsTrue (is_refusal e) → StopsReading remaining is_refusal_of_reading reader reader' e → IsUnreported remaining is_refusal reader reader' writer writer e
reading_ends remaining is_refusal reader reader' writer e listed stops = record {
  listed = listed;
  counts = reading_counted (GaveMore (remaining reader.0) (remaining reader'.0)) e reader.1 reader'.1 writer.1 stops.listed stops.counts;
}

-- a refusal of reading a file is one of its check
pub reading_checks : (e : Refusal) → IsTrue (is_refusal_of_reading e) → IsTrue (is_refusal_of_checking e)
reading_checks WriteFault listed = refl
reading_checks other listed = listed

-- and one of its queries
pub reading_queries : (e : Refusal) → IsTrue (is_refusal_of_reading e) → IsTrue (is_refusal_of_querying e)
reading_queries e listed = ap (λ (b : Bool). b || is_refusal_of_answering e) listed

-- ---- the line of a check

ok_one : {X : Type 0} (x y : X) → ◌≡◌ {A = Result X Refusal} (Ok x) (Ok y) → x ≡ y
ok_one x y e = cc

err_one : {X : Type 0} (e f : Refusal) → ◌≡◌ {A = Result X Refusal} (Err e) (Err f) → e ≡ f
err_one e f same = cc

counted : (x : Result OfferForm Refusal) (r : Replica) → (x >>= λ (o : OfferForm). Ok (offering (record { 0 = 1 }) o)) ≡ Ok r
    → (x >>= λ (o : OfferForm). Ok (map.len o.state.batches, length (ranges_of o.state.deleted))) ≡ Ok (counts_of r)
counted (Ok o) r is = ap (λ (q : Replica). Ok (counts_of q)) (ok_one (offering (record { 0 = 1 }) o) r is)
counted (Err e) r is = cc

-- a file is checked where it is opened, with the counts of what it holds
checked_as : (bytes : List ℕ) (r : Replica) → held_in bytes ≡ Ok r → checked_from bytes ≡ Ok (counts_of r)
checked_as bytes r is = counted (canonical_read bytes) r is

-- how many batches and ranges an offer of a file has
abbrev counts_in : OfferForm → Result (ℕ × ℕ) Refusal
counts_in o = Ok (map.len o.state.batches, length (ranges_of o.state.deleted))

uncounted : (x : Result OfferForm Refusal) (e : Refusal) → (x >>= λ (o : OfferForm). let held : Result Replica Refusal = Ok (offering (record { 0 = 1 }) o) in held) ≡ Err e → (x >>= counts_in) ≡ Err e
uncounted (Ok o) e is = cc
uncounted (Err f) e is = ap Err (err_one f e is)

-- and has the same fault where it isn't
pub unchecked : (bytes : List ℕ) (e : Refusal) → held_in bytes ≡ Err e → check_report bytes ≡ refused e
unchecked bytes e is = ap checked_report (uncounted (canonical_read bytes) e is)

-- a text that is written whole is told
tells_text : (result : Result (Unit {0}) Refusal) (before now : Option (List ℕ)) (w w' : ℕ) (text : List ℕ) → WritesText result before now w w' (Ok text) → Tells result before now (text, None)
tells_text (Ok done) before now w w' text h = (refl, (let P : List ℕ → Type 0 = λ t. Appends before now t in subst P (sym (ok_one text h.0 h.1)) h.2))
tells_text (Err Memory) before now w w' text h =
    let P : Option (List ℕ) → Type 0 = λ k. AppendsFront before k text in inr (inl refl, subst P (sym h.0) (front_none before text))
tells_text (Err WriteFault) before now w w' text h =
    let P : List ℕ → Type 0 = λ t. AppendsFront before now t in inr (inr (inr refl), subst P (sym (ok_one text h.0 h.1)) h.2)
tells_text (Err other) before now w w' text h = absurd cc

pub check_told : {X : Type 0} (view : X → Replica) (x : X) (input before now : Option (List ℕ)) (w w' : ℕ) (result : Result (Unit {0}) Refusal)
    → Judges view (Ok x) input held_in → WritesText result before now w w' (Ok (checked_text (counts_of (view x)))) → Reports result input before now check_report
check_told view x None before now w w' result h wrote = tt
check_told view x (Some bytes) before now w w' result h wrote =
    let P : Result (ℕ × ℕ) Refusal → Type 0 = λ c. Tells result before now (checked_report c) in
    subst P (sym (checked_as bytes (view x) h)) (tells_text result before now w w' (checked_text (counts_of (view x))) wrote)

-- and how the call ends then
pub text_ends : {D E : Type 0} (remaining : D → Option (List ℕ)) (reader reader' : D × ℕ) (writer writer' : E × ℕ) (result : Result (Unit {0}) Refusal) (before now : Option (List ℕ)) (text : List ℕ)
    → IsReadWhole remaining reader reader' → WritesText result before now writer.1 writer'.1 (Ok text) → EndsReport remaining is_refusal_of_checking reader reader' writer writer' result
text_ends remaining reader reader' writer writer' (Ok done) before now text whole h = record { read = whole; kept = h.3 }
text_ends remaining reader reader' writer writer' (Err Memory) before now text whole h = record { listed = refl; counts = (whole.kept, h.1) }
text_ends remaining reader reader' writer writer' (Err WriteFault) before now text whole h = record { listed = refl; counts = (whole.kept, h.3) }
text_ends remaining reader reader' writer writer' (Err other) before now text whole h = absurd cc

-- ---- an answer that is refused

answering_counted : (many : Type 0) (e : Refusal) (r r' w w' : ℕ) → IsTrue (is_refusal_of_answering e) → r' ≡ r → CountsWrites e w w' → CountsBoth many e r r' w w'
answering_counted many ReadFault r r' w w' listed same h = let wrong : false ≡ true = listed in absurd cc
answering_counted many other r r' w w' listed same h = (same, h)

pub answering_ends : {D E : Type 0} (remaining : D → Option (List ℕ)) (reader reader' : D × ℕ) (writer writer' : E × ℕ) (e : Refusal)
    → IsTrue (is_refusal_of_answering e) → IsReadWhole remaining reader reader' → CountsWrites e writer.1 writer'.1 → IsUnreported remaining is_refusal_of_querying reader reader' writer writer' e
answering_ends remaining reader reader' writer writer' e listed whole h = record {
  listed = or_command is_refusal_of_answering e listed;
  counts = answering_counted (GaveMore (remaining reader.0) (remaining reader'.0)) e reader.1 reader'.1 writer.1 writer'.1 listed whole.kept h;
}
