-- What was put before a listing is under a listed name, where it was read; and what was made of all that was read has all of it.
use Rattle.std.specs.Prelude.{◌≡◌, ◌⊎◌, ℕ, Bool, true, ◌&&◌, List, [], ◌∷◌, ◌++◌, Result, Ok}
use Rattle.std.proofs.Common.{refl, sym, ap, subst, ◌∙◌, inl, inr}
use Rattle.std.proofs.lemmas.Bool.{and_parts}
use Rattle.table_model.specs.Answer.{AnswerParts}
use Rattle.table_model.specs.Operation.{Operation, AreAgreeing, state_of}
use Rattle.table_model.specs.Reading.{◌>>=◌}
use Rattle.table_model.specs.State.{State, Agree, join}
use Rattle.table_model.specs.Table.{Table, same_table}
use Rattle.table_model.specs.declared.refusal.Refusal.{Refusal}
use Rattle.table_model.proofs.SameTable.{one_table, itself_table}
use Rattle.answer_formats.specs.Formats.{formatted}
use Rattle.answer_formats.specs.declared.format.Format.{Format}
use Rattle.query_parser.specs.Descent.{condition_of}
use Rattle.query_parser.specs.Resolve.{resolved_condition}
use Rattle.folder_model.specs.Call.{Call}
use Rattle.folder_model.specs.Laws.{FindsAmong}
use Rattle.folder_model.proofs.All.{folder_model_laws}
use Rattle.replica_store.specs.Forgotten.{IsRestOf}
use Rattle.replica_store.specs.Replica.{Replica, merged}
use Rattle.replica_store.proofs.MergeAnswers.{is_merge}
use Rattle.replica_store.proofs.Rests.{forgets_all}
use Rattle.store_view.specs.Asked.{condition_names}
use Rattle.replica_reports.specs.Held.{held_in}
use Rattle.replica_changes.specs.Commands.{merged_with, merged_files}
use Rattle.replica_changes.specs.ForgetFileLaws.{StandsFor}
use Rattle.replica_changes.proofs.FileLaws.{ok_one, bound_parts}
use Rattle.replica_changes.proofs.ForgetFiles.{Rests, rests-mean}
use Rattle.replica_changes.proofs.OperationSets.{state_of-append, parts_agree}
use Rattle.folder_parts.specs.Covers.{covers, covers_found, covers_state, folder_parts, HasAll, HasAllOf}
use Rattle.folder_parts.specs.FolderLaws.{IsOneOf}
use Rattle.folder_parts.specs.PartName.{part_name}
use Rattle.folder_parts.proofs.PartNames.{names_are}
use Rattle.folder_parts.proofs.PartsCover.{covers_is}
use Rattle.folder_parts.proofs.StateCovers.{all_is_had, has_all, has_along, has_first, has_itself, has_rests, has_second}
use Rattle.folder_commands.specs.Answered.{PutIsAnswered, GoneIsAnswered, Represents, HadIsRepresented, AnswersAll, PutIsTold, AnsweredLaws}
use Rattle.folder_commands.specs.Joined.{AreRead}
use Rattle.folder_commands.specs.Wanted.{is_wanted}
use Rattle.folder_commands.proofs.Replacings.{one_of}

-- ---- what has all that a file has

-- a replica is of the table of another, and has all that it has
record IsOver (new old : Replica) : Type 0 where
  pub table : new.schema ≡ old.schema
  pub all : HasAll new.state old.state

over_along : (t s r : Replica) → IsOver t s → IsOver s r → IsOver t r
over_along t s r a b = record { table = a.table ∙ b.table; all = has_along t.state s.state r.state a.all b.all }

over_merged : (r other new : Replica) → merged r other ≡ Ok (tt, new) → IsOver new r × IsOver new other
over_merged r other new e =
    let m = is_merge r other new e in
    let left = forgets_all.nothing (join r.state other.state) in (
      subst (λ (x : Replica). IsOver x r) m.made (record { table = refl; all = has_first r.state other.state (join r.state other.state) left }),
      subst (λ (x : Replica). IsOver x other) m.made (record { table = m.schema; all = has_second r.state other.state (join r.state other.state) m.agree left }),
    )

found_over : (new held : Replica) (file : List ℕ) → held_in file ≡ Ok held → IsOver new held → covers_found (Ok new) (held_in file) ≡ true
found_over new held file read over =
    let table : same_table new.schema held.schema ≡ true = subst (λ (t : Table). same_table new.schema t ≡ true) over.table (itself_table new.schema) in
    let state : covers_state new.state held.state ≡ true = all_is_had new.state held.state over.all in
    ap (λ (x : Result Replica Refusal). covers_found (Ok new) x) read ∙ (λ i. table i && state i)

over_found : (new held : Replica) (file : List ℕ) → held_in file ≡ Ok held → covers_found (Ok new) (held_in file) ≡ true → IsOver new held
over_found new held file read e =
    let both = and_parts (same_table new.schema held.schema) (covers_state new.state held.state) (ap (λ (x : Result Replica Refusal). covers_found (Ok new) x) (sym read) ∙ e) in
    record { table = one_table new.schema held.schema both.0; all = has_all new.state held.state both.1 }

-- and so it has all that the file covers
found_along : (new : Replica) (file other : List ℕ) → covers_found (Ok new) (held_in file) ≡ true → covers file other ≡ true → covers_found (Ok new) (held_in other) ≡ true
found_along new file other had over =
    elim (covers_is file other over) as (λ _. covers_found (Ok new) (held_in other) ≡ true) [
      | inl same ↦ subst (λ (f : List ℕ). covers_found (Ok new) (held_in f) ≡ true) same had
      | inr h ↦ found_over new h.two other h.read_other (over_along new h.one h.two (over_found new h.one file h.read had) (record { table = h.table; all = h.all }))
    ]

-- files that are merged into a replica, one after another
merged_had : (r new : Replica) (files : List (List ℕ)) → merged_with r files ≡ Ok new → IsOver new r × ((file : List ℕ) → IsOneOf file files → covers_found (Ok new) (held_in file) ≡ true)
merged_had r new [] e = (subst (λ (x : Replica). IsOver x r) (ok_one r new e) (record { table = refl; all = has_itself r.state }), λ file one. absurd one)
merged_had r new (file ∷ files) e =
    let read = bound_parts (held_in file) (λ (other : Replica). merged r other >>= λ (done : Unit {0} × Replica). merged_with done.1 files) new e in
    let parts = bound_parts (merged r read.0) (λ (done : Unit {0} × Replica). merged_with done.1 files) new read.2 in
    let rest = merged_had parts.0.1 new files parts.2 in
    let both = over_merged r read.0 parts.0.1 parts.1 in
    let here : covers_found (Ok new) (held_in file) ≡ true = found_over new read.0 file read.1 (over_along new parts.0.1 read.0 rest.0 both.1) in (
      over_along new parts.0.1 r rest.0 both.0,
      λ other one. elim one as (λ _. covers_found (Ok new) (held_in other) ≡ true) [
        | inl same ↦ subst (λ (f : List ℕ). covers_found (Ok new) (held_in f) ≡ true) (sym same) here
        | inr later ↦ rest.1 other later
      ],
    )

joined_had : (first : List ℕ) (others : List (List ℕ)) (new : Replica) → merged_files first others ≡ Ok new → (file : List ℕ) → IsOneOf file (first ∷ others) → covers_found (Ok new) (held_in file) ≡ true
joined_had first others new e file one =
    let parts = bound_parts (held_in first) (λ (r : Replica). merged_with r others) new e in
    let rest = merged_had parts.0 new others parts.2 in
    elim one as (λ _. covers_found (Ok new) (held_in file) ≡ true) [
      | inl same ↦ subst (λ (f : List ℕ). covers_found (Ok new) (held_in f) ≡ true) (sym same) (found_over new parts.0 first parts.1 rest.0)
      | inr later ↦ rest.1 file later
    ]

-- ---- what was put before a listing

-- a part's name is wanted, if none is passed over
wanted_name : (bytes : List ℕ) → is_wanted [] (part_name bytes) ≡ true
unfolding is_wanted
wanted_name bytes = ap (λ (b : Bool). b && true) (names_are bytes)

-- what is covered by a part whose name was given is in what was read
found_had : (names : List (List ℕ)) (whole : Replica) (calls : List Call) (bytes : List ℕ) → AreRead [] names whole calls → FindsAmong folder_parts names calls bytes → covers_found (Ok whole) (held_in bytes) ≡ true
found_had names whole calls bytes parts found =
    let one = parts.each (part_name found.0) found.1 (wanted_name found.0) in
    let same : one.0 ≡ found.0 = found.3 one.0 (parts.read one.0 one.2) (sym one.1) in
    let had : covers_found (Ok whole) (held_in one.0) ≡ true = joined_had parts.first parts.others whole parts.made one.0 (one_of one.0 (parts.first ∷ parts.others) one.2) in
    found_along whole found.0 bytes (subst (λ (f : List ℕ). covers_found (Ok whole) (held_in f) ≡ true) same had) found.2

put_is_answered : PutIsAnswered
put_is_answered events d e run process names whole answered bytes at =
    found_had names whole (e.calls process) bytes answered.parts (folder_model_laws.found folder_parts events d e run answered.fair process names answered.listed bytes at)

gone_is_answered : GoneIsAnswered
gone_is_answered events d e run process names whole answered bytes at =
    found_had names whole (e.calls process) bytes answered.parts (folder_model_laws.gone_found folder_parts events d e run answered.fair process names answered.listed bytes at)

-- ---- what that means

had_is_represented : HadIsRepresented
had_is_represented whole bytes had table ops more stands beside agree =
    let yours : Replica = record { schema = table; own = record { 0 = 1 }; state = beside.state } in
    let has : HasAll whole.state beside.state = (over_found whole yours bytes beside.read had).all in
    let all : Agree (state_of ops) (state_of more) = parts_agree ops more agree in
    let both : Agree whole.state beside.state = forgets_all.agree whole.state beside.state (state_of ops) (state_of more) all stands.rest beside.rest in
    let joined : IsRestOf (join whole.state beside.state) (state_of (more ++ ops)) =
    subst (IsRestOf (join whole.state beside.state)) (state_of-append ops more all) (forgets_all.joins whole.state beside.state (state_of ops) (state_of more) all stands.rest beside.rest) in
    record {
      agree = agree;
      schema = stands.schema;
      rest = forgets_all.then whole.state (join whole.state beside.state) (state_of (more ++ ops)) (has_rests whole.state beside.state has both) joined;
    }

finds_alike : (condition : List ℕ) (table : Table) (s whole : State) → IsRestOf s whole → condition_names condition table s ≡ condition_names condition table whole
unfolding condition_names
finds_alike condition table s whole rest = λ i. condition_of condition >>= λ f. resolved_condition table f >>= λ done. Ok (forgets_all.finds s whole table f rest i)

-- what represents operations answers as all of them
answers_all : (r : Replica) (table : Table) (ops : List Operation) → Represents r table ops → AnswersAll r table ops
answers_all r table ops is =
    let rests : Rests table ops r = record { schema = is.schema; rest = is.rest } in
    record {
      texts = λ format sql. ap (λ (x : Result AnswerParts Refusal). x >>= λ answer. Ok (formatted format answer)) ((rests-mean table ops r rests).answers sql);
      finds = λ condition. ap (λ (t : Table). condition_names condition t r.state) is.schema ∙ finds_alike condition table r.state (state_of ops) is.rest;
    }

put_is_told : PutIsTold
put_is_told events d e run process names whole answered bytes at table ops more stands beside agree =
    answers_all whole table (more ++ ops) (had_is_represented whole bytes (put_is_answered events d e run process names whole answered bytes at) table ops more stands beside agree)

pub answered_laws_hold : AnsweredLaws
answered_laws_hold = record { put = put_is_answered; gone = gone_is_answered; represents = had_is_represented; told = put_is_told }
