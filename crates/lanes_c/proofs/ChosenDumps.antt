-- A dump of some rows and columns: what is chosen, and the lines that were written.
use Rattle.std.proofs.Common.{◌≡◌, ◌⊎◌, ℕ, Bool, List, [], Some, Result, Ok, Err, inl, inr, refl, sym, ap, subst, ◌∙◌}
use Rattle.table_model.specs.declared.refusal.Refusal.{Refusal}
use Rattle.table_model.specs.declared.refusal.Refusal.TheVariants.{Memory, Syntax, WriteFault}
use Rattle.live_columns.specs.Choices.{ChoiceForm, choice_of}
use Rattle.live_columns.specs.declared.choice.Choice.{Choice}
use Rattle.live_columns.specs.declared.choice.Unchosen.{Unchosen}
use Rattle.replica_reports.specs.Dumps.{WritesLines, dumping_where}
use Rattle.replica_reports.specs.Held.{held_in}
use Rattle.replica_store.specs.Replica.{Replica}
use Rattle.lanes_c.specs.ChosenDumps.{Dumps, DumpsFile, dump_of_choice}
use Rattle.lanes_c.specs.ColumnCalls.{AsksTexts, IsGiven, ReadsChoice, told_choice}
use Rattle.lanes_c.specs.Faults.{told_of_choice}
use Rattle.lanes_c.specs.Rooms.{Given}
use Rattle.lanes_c.specs.Taking.{taken_of}
use Rattle.lanes_c.specs.declared.fault.Fault.{Fault}
use Rattle.lanes_c.specs.declared.fault.Fault.TheVariants.{Refused}

-- what is given of two meanings, if the one gives it where the other does
pub texts_as : {X Y : Type 0} (one : Result X Fault → Type 0) (two : Result Y Fault → Type 0) (x : Result X Fault) (y : Result Y Fault) (names condition : List ℕ) → (one x → two y) → ((fault : Fault) → x ≡ Err fault → y ≡ Err fault)
    → AsksTexts one x names condition → AsksTexts two y names condition
texts_as one two x y names condition goes same h = (λ named. let there = h.0 named in (λ read. goes (there.0 read), λ unread. same _ (there.1 unread)), λ unnamed. same _ (h.1 unnamed))

-- a choice that isn't known is no dump
undumped : (has_names : Bool) (r : Replica) (choice : Result ChoiceForm Unchosen) (fault : Fault) → IsGiven (told_choice choice) (Err fault) → IsGiven (dump_of_choice has_names r choice) (Err fault)
undumped has_names r (Ok choice) fault (inl is) = absurd cc
undumped has_names r (Ok choice) fault (inr lack) = inr lack
undumped has_names r (Err why) fault (inl is) = let same : told_of_choice why ≡ fault = cc in inl (ap (λ (f : Fault). let given : Given = Err f in given) same)
undumped has_names r (Err why) fault (inr lack) = inr lack

pub choice_refused : (fault : Fault) (has_names : Bool) (names condition : List ℕ) (r : Replica) → ReadsChoice (Err fault) names condition r.schema → Dumps (Err fault) has_names names condition r
choice_refused fault has_names names condition r h =
    let choice : Result ChoiceForm Unchosen = choice_of r.schema 32 names condition in
    let x : Result ChoiceForm Fault = Err fault in
    let y : Given = Err fault in
    texts_as (IsGiven (told_choice choice)) (IsGiven (dump_of_choice has_names r choice)) x y names condition (undumped has_names r choice fault) (λ f is. let same : fault ≡ f = cc in ap (λ (e : Fault). let given : Given = Err e in given) same) h

-- lines that were written, or memory ran out
lines_are : (done : Result (Unit {0}) Refusal) (written : List ℕ) (w w' : ℕ) (text : List ℕ) → WritesLines done (Some []) (Some written) w w' text → IsGiven (let given : Given = Ok text in given) (taken_of done written)
lines_are (Ok unit) written w w' text h = ap (λ (t : List ℕ). let given : Given = Ok t in given) (sym h.0)
lines_are (Err Memory) written w w' text h = inr refl
lines_are (Err WriteFault) written w w' text h = inr refl
lines_are (Err other) written w w' text h = absurd h

-- the dump of what is chosen
dumped : (given : Given) (has_names : Bool) (r : Replica) (choice : Result ChoiceForm Unchosen) (form : ChoiceForm) → IsGiven (let text : Given = Ok (dumping_where has_names form r) in text) given → IsGiven (told_choice choice) (Ok form)
    → IsGiven (dump_of_choice has_names r choice) given
dumped given has_names r (Ok choice) form h is =
    let same : choice ≡ form = cc in subst (λ (c : ChoiceForm). IsGiven (dump_of_choice has_names r (Ok c)) given) (sym same) h
dumped given has_names r (Err why) form h is = absurd cc

pub choice_dumped : (given : Given) (has_names : Bool) (names condition : List ℕ) (r : Replica) (choice : Choice) (done : Result (Unit {0}) Refusal) (start written : List ℕ) (w w' : ℕ) → ReadsChoice (Ok choice) names condition r.schema → given ≡ taken_of done written → start ≡ []
    → WritesLines done (Some start) (Some written) w w' (dumping_where has_names (record { condition = choice.condition; places = choice.places.items }) r) → Dumps given has_names names condition r
choice_dumped given has_names names condition r choice done start written w w' read taken empty h =
    let form : ChoiceForm = record { condition = choice.condition; places = choice.places.items } in
    let asked : Result ChoiceForm Unchosen = choice_of r.schema 32 names condition in
    let text : List ℕ = dumping_where has_names form r in
    let x : Result ChoiceForm Fault = Ok form in
    let P : List ℕ → Type 0 = λ t. WritesLines done (Some t) (Some written) w w' text in
    let lines : IsGiven (let whole : Given = Ok text in whole) given = subst (λ (g : Given). IsGiven (let whole : Given = Ok text in whole) g) (sym taken) (lines_are done written w w' text (subst P empty h)) in
    texts_as (IsGiven (told_choice asked)) (IsGiven (dump_of_choice has_names r asked)) x given names condition (dumped given has_names r asked form lines) (λ f is. absurd cc) read

-- the same of a file
pub file_dumped : (given : Given) (has_names : Bool) (names condition file : List ℕ) (r : Replica) → held_in file ≡ Ok r → Dumps given has_names names condition r → DumpsFile given has_names names condition file
file_dumped (Ok bytes) has_names names condition file r held h = (r, held, h)
file_dumped (Err fault) has_names names condition file r held h = inr (r, held, h)
