-- What the calls of the libraries below say of a vector that they wrote into, as what is given to C.
use Rattle.std.specs.Prelude.{◌≡◌, ◌⊎◌, ℕ, Bool, true, false, cond, List, [], ◌∷◌, Option, Some, Result, Ok, Err, OnOk}
use Rattle.std.proofs.Common.{refl, sym, ap, subst, ◌∙◌, inl, inr}
use Rattle.table_model.specs.Reading.{◌>>=◌}
use Rattle.table_model.specs.declared.refusal.Refusal.{Refusal}
use Rattle.table_model.specs.declared.refusal.Refusal.TheVariants.{Memory, WriteFault}
use Rattle.column_file.specs.Files.{offer_bytes, offer_read}
use Rattle.column_file.specs.Input.{IsUnread}
use Rattle.column_file.specs.SummaryBytes.{summary_read}
use Rattle.replica_store.specs.Exchange.{OfferForm, SummaryForm, offered, unlisted}
use Rattle.replica_store.specs.Replica.{Replica}
use Rattle.replica_store.specs.Segments.{StoreForm}
use Rattle.table_model.specs.State.{State}
use Rattle.replica_reports.specs.Held.{held_in}
use Rattle.replica_changes.specs.CommandForms.{Apply}
use Rattle.replica_changes.specs.Commands.{file_of, file_made, written_of, Made, Makes, Puts, Refuses, Leaves, Changes, Merges}
use Rattle.replica_changes.proofs.CommandSteps.{written_changes}
use Rattle.replica_reports.specs.Asking.{WritesText, Tells, IsFromOutside, answered_in, no_report, offer_of, offer_text, text_report}
use Rattle.answer_formats.specs.Formats.{formatted}
use Rattle.answer_formats.specs.declared.format.Format.TheVariants.{Text}
use Rattle.lanes_main.specs.FileReport.{opened_report, queries_report}
use Rattle.store_view.specs.Asked.{query_answer}
use Rattle.table_model.specs.Answer.{AnswerParts, answer_text}
use Rattle.std.proofs.lemmas.List.{append-nil}
use Rattle.replica_reports.specs.Dumps.{WritesLines}
use Rattle.script_lines.specs.Line.{command_of}
use Rattle.script_lines.specs.TableWords.{TableWords}
use Rattle.script_lines.specs.declared.command.Command.{Command}
use Rattle.script_lines.specs.declared.command.Command.TheVariants.{Table as MakesTable}
use Rattle.lanes_c.specs.Calls.{Yields, OffersAt, OffersTo, apply_of, change_of, create_of, empty_file_of, line_of, merge_of, words_in, query_of}
use Rattle.lanes_c.specs.Faults.{told}
use Rattle.lanes_c.specs.Opened.{IsWhyNotOpened}
use Rattle.lanes_c.specs.Rooms.{Given}
use Rattle.lanes_c.specs.Taking.{taken_of, LeftBy}
use Rattle.lanes_c.specs.declared.fault.Fault.{Fault}
use Rattle.lanes_c.specs.declared.fault.Fault.TheVariants.{Refused}

-- ---- refusals

-- the refusal that is told is the one that was given, but for a write that failed
pub told_why : (e : Refusal) (meaning : Result (List ℕ) Refusal) → (meaning ≡ Err e) ⊎ IsUnread e → Yields (Err (told e)) meaning
told_why WriteFault meaning why = inr (inl refl)
told_why other meaning why = why

told_write : (e : Refusal) (meaning : Result (List ℕ) Refusal) → e ≡ WriteFault → Yields (Err (told e)) meaning
told_write e meaning is = let P : Refusal → Type 0 = λ x. Yields (Err (told x)) meaning in subst P (sym is) (inr (inl refl))

lacks : (fault : Fault) (meaning : Result (List ℕ) Refusal) → fault ≡ Refused Memory → Yields (Err fault) meaning
lacks fault meaning is = let P : Fault → Type 0 = λ x. Yields (Err x) meaning in subst P (sym is) (inr (inl refl))

-- a refused call that writes
pub refused_yields : (e : Refusal) (now : Option (List ℕ)) (written : Result (List ℕ) Refusal) → Refuses e (Some []) now written → Yields (Err (told e)) written
refused_yields e now written (inl (same, why)) = told_why e written why
refused_yields e now written (inr (is, front)) = told_write e written is

-- ---- calls that write a file

pub merged_given : (given : Given) (done : Result (Unit {0}) Refusal) (one other start written : List ℕ) → given ≡ taken_of done written → start ≡ [] → Merges done (Some start) (Some written) one (other ∷ [])
    → Yields given (merge_of one other)
merged_given given done one other start written taken empty h =
    let P : List ℕ → Type 0 = λ s. Merges done (Some s) (Some written) one (other ∷ []) in
    subst (λ (g : Given). Yields g (merge_of one other)) (sym taken) (merges_yield done one other written (subst P empty h))
  where
    merges_yield : (done : Result (Unit {0}) Refusal) (one other written : List ℕ) → Merges done (Some []) (Some written) one (other ∷ []) → Yields (taken_of done written) (merge_of one other)
    merges_yield (Ok done) one other written (new, made, all, again) =
        ap written_of made ∙ ap (λ (text : List ℕ). let given : Result (List ℕ) Refusal = Ok text in given) (sym all)
    merges_yield (Err e) one other written h = refused_yields e (Some written) (merge_of one other) h

-- the file that was left is the command's
left_file : (b : Bool) (bytes file written wanted : List ℕ) → bytes ≡ cond b written file → Leaves b file (Some []) (Some written) wanted → bytes ≡ wanted
left_file true bytes file written wanted is all = is ∙ all
left_file false bytes file written wanted is (same, all) = is ∙ all

changes_yield : {X Y : Type 0} (view : X → Y) (changed : X → Bool) (x : X) (given : Given) (file written : List ℕ) (command : Replica → Made Y)
    → Changes view changed (Ok x) (Some file) (Some []) (Some written) command → LeftBy given (changed x) written file → Yields given (file_made (held_in file >>= command))
changes_yield {Y = Y} view changed x (Ok bytes) file written command (old, new, is, held, made, leaves, again, says) left =
    ap (λ (h : Result Replica Refusal). file_made (h >>= command)) held ∙ ap (λ (m : Made Y). file_made m) made
    ∙ ap (λ (text : List ℕ). let file : Result (List ℕ) Refusal = Ok text in file) (sym (left_file (changed x) bytes file written (file_of new) left leaves))
changes_yield view changed x (Err fault) file written command h left = lacks fault (file_made (held_in file >>= command)) left

-- a command that was done, over a reader that had the file and a writer that had nothing
pub changed_given : {X Y : Type 0} (view : X → Y) (changed : X → Bool) (x : X) (given : Given) (file input start written : List ℕ) (command : Replica → Made Y)
    → input ≡ file → start ≡ [] → Changes view changed (Ok x) (Some input) (Some start) (Some written) command → LeftBy given (changed x) written file → Yields given (file_made (held_in file >>= command))
changed_given view changed x given file input start written command same empty h left =
    let P : List ℕ → Type 0 = λ i. Changes view changed (Ok x) (Some i) (Some start) (Some written) command in
    let Q : List ℕ → Type 0 = λ s. Changes view changed (Ok x) (Some file) (Some s) (Some written) command in
    changes_yield view changed x given file written command (subst Q empty (subst P same h)) left

-- and one that was refused
pub refused_given : {X Y : Type 0} (view : X → Y) (changed : X → Bool) (e : Refusal) (fault : Fault) (file input start : List ℕ) (now : Option (List ℕ)) (command : Replica → Made Y)
    → fault ≡ told e → input ≡ file → start ≡ [] → Changes {X = X} view changed (Err e) (Some input) (Some start) now command → Yields (Err fault) (file_made (held_in file >>= command))
refused_given {X = X} view changed e fault file input start now command is same empty h =
    let P : List ℕ → Type 0 = λ i. Changes {X = X} view changed (Err e) (Some i) (Some start) now command in
    let Q : List ℕ → Type 0 = λ s. Changes {X = X} view changed (Err e) (Some file) (Some s) now command in
    let R : Fault → Type 0 = λ f. Yields (Err f) (file_made (held_in file >>= command)) in
    subst R (sym is) (refused_yields e now (file_made (held_in file >>= command)) (subst Q empty (subst P same h)))

-- ---- a command on what a file holds

-- a file that is refused
pub held_refused : {Y : Type 0} (e : Refusal) (file : List ℕ) (command : Replica → Made Y) → (held_in file ≡ Err e) ⊎ (e ≡ Memory) → Yields (Err (told e)) (file_made (held_in file >>= command))
held_refused e file command (inl is) = told_why e (file_made (held_in file >>= command)) (inl (ap (λ (h : Result Replica Refusal). file_made (h >>= command)) is))
held_refused e file command (inr lack) = told_why e (file_made (held_in file >>= command)) (inr (inl lack))

-- a command that is refused over what the file holds
pub done_refused : {Y : Type 0} (e : Refusal) (file : List ℕ) (r : Replica) (command : Replica → Made Y) → held_in file ≡ Ok r → (command r ≡ Err e) ⊎ (e ≡ Memory) → Yields (Err (told e)) (file_made (held_in file >>= command))
done_refused {Y = Y} e file r command held (inl is) = told_why e (file_made (held_in file >>= command)) (inl (ap (λ (h : Result Replica Refusal). file_made (h >>= command)) held ∙ ap (λ (m : Made Y). file_made m) is))
done_refused e file r command held (inr lack) = told_why e (file_made (held_in file >>= command)) (inr (inl lack))

-- a file that isn't written
pub done_unwritten : (b : Bool) (e : Refusal) (before now : Option (List ℕ)) (r : Replica) (meaning : Result (List ℕ) Refusal) → Puts b (Err e) before now r → Yields (Err (told e)) meaning
done_unwritten true e before now r meaning (inl lack) = told_why e meaning (inr (inl lack.0))
done_unwritten true e before now r meaning (inr fault) = told_write e meaning fault.0
done_unwritten false e before now r meaning put = absurd put

-- a file that was written, or left as it was
pub done_given : {X Y : Type 0} (view : X → Y) (changed : X → Bool) (x : X) (is : Bool) (given : Given) (file start written : List ℕ) (old new : Replica) (command : Replica → Made Y)
    → start ≡ [] → is ≡ changed x → held_in file ≡ Ok old → Makes view changed old (Ok x) new (command old) → Puts is (Ok tt) (Some start) (Some written) new → LeftBy given is written file → Yields given (file_made (held_in file >>= command))
done_given view changed x is given file start written old new command empty says held made put left =
    let P : List ℕ → Type 0 = λ s. Puts is (Ok tt) (Some s) (Some written) new in
    let whole : Changes view changed (Ok x) (Some file) (Some []) (Some written) command = written_changes (λ (r : Replica). r) old view changed x is (Some file) (Some []) (Some written) new command (sym says) held made (subst P empty put) in
    changes_yield view changed x given file written command whole (subst (λ (b : Bool). LeftBy given b written file) says left)

-- the table of a line
pub created_given : (given : Given) (words line slice : List ℕ) (table : TableWords) → slice ≡ line → line ≡ line_of words → command_of slice ≡ Some (MakesTable table) → Yields given (empty_file_of table)
    → Yields given (create_of words)
created_given given words line slice table same is found h =
    let found_there : command_of (line_of words) ≡ Some (MakesTable table) = ap command_of (sym (same ∙ is)) ∙ found in
    subst (Yields given) (sym (ap (λ (command : Option Command). words_in command >>= empty_file_of) found_there)) h

-- ---- queries

plain_text : (made : Result AnswerParts Refusal) → (made >>= λ (a : AnswerParts). let text : Result (List ℕ) Refusal = Ok (formatted Text a) in text) ≡ (made >>= λ (a : AnswerParts). let text : Result (List ℕ) Refusal = Ok (answer_text a) in text)
unfolding formatted
plain_text (Ok a) = refl
plain_text (Err e) = refl

outside_yields : (e : Refusal) (meaning : Result (List ℕ) Refusal) → IsFromOutside e → Yields (Err (told e)) meaning
outside_yields e meaning (inl lack) = told_why e meaning (inr (inl lack))
outside_yields e meaning (inr (inl unread)) = told_why e meaning (inr (inr unread))
outside_yields e meaning (inr (inr fault)) = told_write e meaning fault

-- one text that was told
text_told : (made : Result (List ℕ) Refusal) (done : Result (Unit {0}) Refusal) (written : List ℕ) → Tells done (Some []) (Some written) (text_report made no_report) → Yields (taken_of done written) made
text_told (Ok text) (Ok unit) written (none, all) = ap (λ (t : List ℕ). let given : Result (List ℕ) Refusal = Ok t in given) (sym (append-nil text) ∙ sym all)
text_told (Err e) (Ok unit) written (none, all) = absurd cc
text_told (Ok text) (Err f) written (inl (is, all)) = absurd cc
text_told (Err e) (Err f) written (inl (is, all)) = told_why f (Err e) (inl (let same : e ≡ f = cc in ap (λ (x : Refusal). let refusal : Result (List ℕ) Refusal = Err x in refusal) same))
text_told made (Err f) written (inr (outside, front)) = outside_yields f made outside

query_told : (held : Result Replica Refusal) (sql : List ℕ) (done : Result (Unit {0}) Refusal) (written : List ℕ) → Tells done (Some []) (Some written) (opened_report (sql ∷ []) held)
    → Yields (taken_of done written) (held >>= λ (r : Replica). answered_in Text r sql)
query_told (Ok r) sql done written h = text_told (answered_in Text r sql) done written h
query_told (Err e) sql done written h = text_told (Err e) done written h

-- a query that was answered over a file
pub queried_given : (given : Given) (done : Result (Unit {0}) Refusal) (sql start input file written : List ℕ) → given ≡ taken_of done written → start ≡ [] → input ≡ file
    → Tells done (Some start) (Some written) (queries_report (sql ∷ []) input) → Yields given (query_of sql file)
queried_given given done sql start input file written taken empty same h =
    let P : List ℕ → Type 0 = λ s. Tells done (Some s) (Some written) (queries_report (sql ∷ []) input) in
    let Q : List ℕ → Type 0 = λ f. Tells done (Some []) (Some written) (queries_report (sql ∷ []) f) in
    let plain : (held_in file >>= λ (r : Replica). answered_in Text r sql) ≡ query_of sql file = λ i. held_in file >>= λ (r : Replica). plain_text (query_answer sql r.schema r.state) i in
    subst (λ (g : Given). Yields g (query_of sql file)) (sym taken)
    (subst (Yields (taken_of done written)) plain (query_told (held_in file) sql done written (subst Q same (subst P empty h))))

-- ---- messages

-- an offer of a store that has this state
abbrev offer_with : StoreForm → SummaryForm → State → OfferForm
offer_with s summary state = record { schema = s.replica.schema; state = state; segments = unlisted summary.names s.segments }

-- an offer of a store, by its parts
offer_parts : (s : StoreForm) (summary : SummaryForm) (text : List ℕ) (x : Result State Refusal) → (x >>= (λ (state : State). Ok (offer_with s summary state)) >>= (λ (o : OfferForm). Ok (offer_bytes o))) ≡ Ok text
    → (state : State) × (x ≡ Ok state) × (text ≡ offer_bytes (offer_with s summary state))
offer_parts s summary text (Ok state) made = (state, refl, (let same : offer_bytes (offer_with s summary state) ≡ text = cc in sym same))
offer_parts s summary text (Err e) made = cc

-- that is refused
offer_fault : (s : StoreForm) (summary : SummaryForm) (e : Refusal) (x : Result State Refusal) → (x >>= (λ (state : State). Ok (offer_with s summary state)) >>= (λ (o : OfferForm). Ok (offer_bytes o))) ≡ Err e → x ≡ Err e
offer_fault s summary e (Ok state) made = cc
offer_fault s summary e (Err f) made = cc

-- the offer that was written of a store
pub offer_given : (given : Given) (done : Result (Unit {0}) Refusal) (s : StoreForm) (summary : SummaryForm) (start written : List ℕ) (w w' : ℕ) → given ≡ taken_of done written → start ≡ []
    → WritesText done (Some start) (Some written) w w' (offer_text s summary) → OnOk done ((o : OfferForm) → offer_of s summary ≡ Ok o → offer_read (offer_bytes o) ≡ Ok o) → OffersAt given s summary
offer_given given done s summary start written w w' taken empty h again =
    let P : List ℕ → Type 0 = λ t. WritesText done (Some t) (Some written) w w' (offer_text s summary) in
    subst (λ (g : Given). OffersAt g s summary) (sym taken) (gives done (subst P empty h) again)
  where
    gives : (done : Result (Unit {0}) Refusal) → WritesText done (Some []) (Some written) w w' (offer_text s summary) → OnOk done ((o : OfferForm) → offer_of s summary ≡ Ok o → offer_read (offer_bytes o) ≡ Ok o)
        → OffersAt (taken_of done written) s summary
    gives (Ok unit) h again =
        let parts = offer_parts s summary h.0 (offered s.replica summary) h.1 in
        let made : offer_of s summary ≡ Ok (offer_with s summary parts.0) = ap (λ (x : Result State Refusal). x >>= (λ (state : State). Ok (offer_with s summary state))) parts.1 in
        (offer_with s summary parts.0, (refl, parts.1, again (offer_with s summary parts.0) made), h.2 ∙ parts.2)
    gives (Err Memory) h again = inr (inl refl)
    gives (Err WriteFault) h again = inr (inl refl)
    gives (Err other) h again = inl (offer_fault s summary other (offered s.replica summary) h.0)

-- the same of a file
pub offered_given : (given : Given) (s : StoreForm) (summary : SummaryForm) (asked bytes file : List ℕ) → asked ≡ bytes → summary_read asked ≡ Ok summary → held_in file ≡ Ok s.replica → OffersAt given s summary → OffersTo given bytes file
offered_given (Ok text) s summary asked bytes file same read held (o, offers, is) = (s.replica, summary, o, held, ap summary_read (sym same) ∙ read, offers, is)
offered_given (Err (Refused e)) s summary asked bytes file same read held (inl is) =
    inl (ap (λ (x : Result SummaryForm Refusal). x >>= λ (s : SummaryForm). held_in file >>= λ (r : Replica). offered r s) (ap summary_read (sym same) ∙ read)
    ∙ ap (λ (x : Result Replica Refusal). x >>= λ (r : Replica). offered r summary) held ∙ is)
offered_given (Err (Refused e)) s summary asked bytes file same read held (inr unread) = inr unread
offered_given (Err other) s summary asked bytes file same read held h = absurd h

-- a file that is not opened gives no offer
pub unopened_offer : (fault : Fault) (summary : SummaryForm) (asked bytes file : List ℕ) → asked ≡ bytes → summary_read asked ≡ Ok summary → IsWhyNotOpened fault file → OffersTo (Err fault) bytes file
unopened_offer (Refused e) summary asked bytes file same read (inl is) =
    inl (ap (λ (x : Result SummaryForm Refusal). x >>= λ (s : SummaryForm). held_in file >>= λ (r : Replica). offered r s) (ap summary_read (sym same) ∙ read)
    ∙ ap (λ (x : Result Replica Refusal). x >>= λ (r : Replica). offered r summary) is)
unopened_offer (Refused e) summary asked bytes file same read (inr unread) = inr unread
unopened_offer other summary asked bytes file same read why = absurd why

-- ---- calls over what is open

-- a file that is not opened gives nothing
pub unopened : (fault : Fault) (file : List ℕ) (command : Replica → Result (List ℕ) Refusal) → IsWhyNotOpened fault file → Yields (Err fault) (held_in file >>= command)
unopened (Refused e) file command (inl is) = inl (ap (λ (x : Result Replica Refusal). x >>= command) is)
unopened (Refused e) file command (inr unread) = inr unread
unopened other file command why = absurd why

-- what is given at a replica is given of the file
pub given_of_file : (given : Given) (r : Replica) (file : List ℕ) (command : Replica → Result (List ℕ) Refusal) → held_in file ≡ Ok r → Yields given (command r) → Yields given (held_in file >>= command)
given_of_file given r file command held h = subst (Yields given) (sym (ap (λ (x : Result Replica Refusal). x >>= command) held)) h

-- a text that was written
pub text_given : (given : Given) (done : Result (Unit {0}) Refusal) (start written : List ℕ) (w w' : ℕ) (made : Result (List ℕ) Refusal) → given ≡ taken_of done written → start ≡ []
    → WritesText done (Some start) (Some written) w w' made → Yields given made
text_given given done start written w w' made taken empty h =
    let P : List ℕ → Type 0 = λ t. WritesText done (Some t) (Some written) w w' made in
    subst (λ (g : Given). Yields g made) (sym taken) (gives done (subst P empty h))
  where
    gives : (done : Result (Unit {0}) Refusal) → WritesText done (Some []) (Some written) w w' made → Yields (taken_of done written) made
    gives (Ok unit) h = h.1 ∙ ap (λ (text : List ℕ). let given : Result (List ℕ) Refusal = Ok text in given) (sym h.2)
    gives (Err Memory) h = inr (inl refl)
    gives (Err WriteFault) h = inr (inl refl)
    gives (Err other) h = told_why other made (inl h.0)

-- lines that were written
pub lines_given : (given : Given) (done : Result (Unit {0}) Refusal) (start written : List ℕ) (w w' : ℕ) (text : List ℕ) → given ≡ taken_of done written → start ≡ []
    → WritesLines done (Some start) (Some written) w w' text → Yields given (Ok text)
lines_given given done start written w w' text taken empty h =
    let P : List ℕ → Type 0 = λ t. WritesLines done (Some t) (Some written) w w' text in
    subst (λ (g : Given). Yields g (Ok text)) (sym taken) (gives done (subst P empty h))
  where
    gives : (done : Result (Unit {0}) Refusal) → WritesLines done (Some []) (Some written) w w' text → Yields (taken_of done written) (Ok text)
    gives (Ok unit) h = ap (λ (t : List ℕ). let given : Result (List ℕ) Refusal = Ok t in given) (sym h.0)
    gives (Err Memory) h = inr (inl refl)
    gives (Err WriteFault) h = inr (inl refl)
    gives (Err other) h = absurd h

pub applied_given : (given : Given) (o : OfferForm) (offers : List OfferForm) (offer input file : List ℕ) → offers ≡ o ∷ [] → input ≡ offer → offer_read input ≡ Ok o → Yields given (change_of (Apply offers) file) → Yields given (apply_of offer file)
applied_given given o offers offer input file one same read h =
    let read_there : offer_read offer ≡ Ok o = ap offer_read (sym same) ∙ read in
    let made : Yields given (change_of (Apply (o ∷ [])) file) = subst (λ (os : List OfferForm). Yields given (change_of (Apply os) file)) one h in
    subst (Yields given) (sym (ap (λ (x : Result OfferForm Refusal). x >>= λ (p : OfferForm). change_of (Apply (p ∷ [])) file) read_there)) made
