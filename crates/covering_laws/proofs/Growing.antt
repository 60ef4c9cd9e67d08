-- What a command makes of a replica is of its table, and has all that it has.
use Rattle.std.specs.Prelude.{◌≡◌, ℕ, Bool, true, false, cond, List, [], ◌∷◌, length, Option, Result, Ok, Err}
use Rattle.std.proofs.Common.{refl, ap, subst, ◌∙◌, inl}
use Rattle.std.specs.FinSet as set
use Rattle.table_model.specs.State.{join}
use Rattle.table_model.specs.declared.names.BatchName.{BatchName}
use Rattle.table_model.specs.declared.names.RowName.{RowName}
use Rattle.table_model.specs.declared.refusal.Refusal.{Refusal}
use Rattle.table_model.proofs.NameOrder.{row_names_total}
use Rattle.replica_store.specs.Forgotten.{forgotten}
use Rattle.replica_store.proofs.Rests.{forgets_all}
use Rattle.catalogue_join.specs.RowRange.{rows_between}
use Rattle.replica_store.specs.Exchange.{OfferForm, offering, applied}
use Rattle.replica_store.specs.Replica.{Replica, delete_fault, deleted_rows, holds, merged, with_deleted}
use Rattle.replica_store.proofs.Limits.{ok_unless}
use Rattle.replica_store.proofs.MergeAnswers.{is_merge, made_of}
use Rattle.store_view.specs.Asked.{condition_names}
use Rattle.replica_changes.specs.CommandForms.{CommandForm, AnswerForm, Import, Delete, DeleteRows, Apply, OfImport, OfDelete, OfDeleteRows, OfApply, adding, tagged}
use Rattle.replica_changes.specs.Commands.{Made, applied_all, applying, deleting}
use Rattle.replica_changes.specs.Forgetting.{forgetting}
use Rattle.replica_changes.specs.Loads.{LoadForm, chosen_name, imported_as, importing, importing_as, loaded}
use Rattle.replica_changes.specs.declared.importing.Imported.{Imported}
use Rattle.replica_changes.proofs.FileLaws.{ok_one, bound_parts, applies_all}
use Rattle.folder_parts.specs.Covers.{HasAll}
use Rattle.folder_parts.proofs.StateCovers.{has_itself, has_along, has_first, rest_has, or_first}
use Rattle.file_commands.specs.HeldDeletes.{deleted_if_held}
use Rattle.covering_laws.specs.CoveringLaws.{IsMadeBy, Adding, DeletingHeld, Forgetting}

-- a replica of the same table that has all that another has
pub record Grows (old new : Replica) : Type 0 where
  pub table : new.schema ≡ old.schema
  pub all : HasAll new.state old.state

itself : (r : Replica) → Grows r r
itself r = record { table = refl; all = has_itself r.state }

along : (r s t : Replica) → Grows r s → Grows s t → Grows r t
along r s t a b = record { table = b.table ∙ a.table; all = has_along t.state s.state r.state b.all a.all }

-- ---- what commands are made of

merge_grows : (r other new : Replica) → merged r other ≡ Ok (tt, new) → Grows r new
merge_grows r other new e =
    subst (Grows r) (is_merge r other new e).made (record { table = refl; all = has_first r.state other.state (join r.state other.state) (forgets_all.nothing (join r.state other.state)) })

deleted_grows : (r : Replica) (rows : List RowName) → Grows r (with_deleted r rows)
deleted_grows r rows = record {
  table = refl;
  all = record {
    deleted = λ row has. set.contains-union row_names_total r.state.deleted (set.from_list rows) row ∙ or_first (set.contains r.state.deleted row) (set.contains (set.from_list rows) row) has;
    batches = λ name held has. inl has;
  };
}

applied_grows : (r new : Replica) (offers : List OfferForm) → applied_all r offers ≡ Ok (tt, new) → Grows r new
applied_grows r new [] e = subst (Grows r) (made_of tt tt r new e) (itself r)
applied_grows r new (offer ∷ offers) e =
    let parts = bound_parts (applied r offer) (λ (p : Unit {0} × Replica). applied_all p.1 offers) (tt, new) e in
    along r parts.0.1 new (merge_grows r (offering r.own offer) parts.0.1 parts.1) (applied_grows parts.0.1 new offers parts.2)

-- ---- each command

import_grows : (load : LoadForm) (given : Option BatchName) (words : List ℕ) (old new : Replica) (answer : Imported) → importing load given words old ≡ Ok (answer, new) → Grows old new
import_grows load given words old new answer e =
    let named = bound_parts (chosen_name old.state given words (length load.batches)) (λ (name : BatchName). importing_as load name old) (answer, new) e in
    let told : Unit {0} × Replica → Imported × Replica = λ done. (imported_as load named.0 old done.1, done.1) in
    let inner = bound_parts (merged old (loaded old load named.0)) (λ (done : Unit {0} × Replica). let made : Made Imported = Ok (told done) in made) (answer, new) named.2 in
    let last : inner.0.1 ≡ new = ap (λ (p : Imported × Replica). p.1) (ok_one (told inner.0) (answer, new) inner.2) in
    subst (Grows old) last (merge_grows old (loaded old load named.0) inner.0.1 inner.1)

delete_grows : (text : List ℕ) (old new : Replica) (answer : ℕ) → deleting text old ≡ Ok (answer, new) → Grows old new
delete_grows text old new answer e =
    let parts = bound_parts (condition_names text old.schema old.state) (λ (names : List RowName). let made : Made ℕ = Ok (length names, with_deleted old names) in made) (answer, new) e in
    subst (Grows old) (made_of (length parts.0) answer (with_deleted old parts.0) new parts.2) (deleted_grows old parts.0)

delete_rows_grows : (first : RowName) (last : ℕ) (old new : Replica) (answer : Unit {0}) → deleted_rows old first last ≡ Ok (answer, new) → Grows old new
delete_rows_grows first last old new answer e =
    let met = ok_unless (delete_fault first last) (Ok (tt, with_deleted old (rows_between first last))) (answer, new) e in
    subst (Grows old) (made_of tt answer (with_deleted old (rows_between first last)) new met.1) (deleted_grows old (rows_between first last))

apply_grows : (offers : List OfferForm) (old new : Replica) (answer : ℕ × ℕ × ℕ) → applying offers old ≡ Ok (answer, new) → Grows old new
apply_grows offers old new answer e = applied_grows old new offers (applies_all old new offers answer e)

-- what is made is so with the answer of a command that it is
untagged : {Y : Type 0} (tag : Y → AnswerForm) (made : Made Y) (answer : AnswerForm) (new : Replica) → tagged tag made ≡ Ok (answer, new) → (done : Y) × (made ≡ Ok (done, new))
untagged {Y} tag (Ok done) answer new e =
    let last : done.1 ≡ new = made_of (tag done.0) answer done.1 new e in (done.0, λ i. let made : Made Y = Ok (done.0, last i) in made)
untagged tag (Err f) answer new e = absurd (let no : ⊥ = cc in no)

pub adding_grows : (command : CommandForm) (old new : Replica) (answer : AnswerForm) → adding command old ≡ Ok (answer, new) → Grows old new
adding_grows (Import load given words) old new answer e =
    let made = untagged OfImport (importing load given words old) answer new e in
    import_grows load given words old new made.0 made.1
adding_grows (Delete text) old new answer e =
    let made = untagged OfDelete (deleting text old) answer new e in
    delete_grows text old new made.0 made.1
adding_grows (DeleteRows first last) old new answer e =
    let made = untagged OfDeleteRows (deleted_rows old first last) answer new e in
    delete_rows_grows first last old new made.0 made.1
adding_grows (Apply offers) old new answer e =
    let made = untagged OfApply (applying offers old) answer new e in
    apply_grows offers old new made.0 made.1

-- rows are deleted if the batch is held, and else nothing is
held_grows : (b : Bool) (old made new : Replica) (answer : Bool) → Grows old made → ◌≡◌ {A = Result (Bool × Replica) Refusal} (cond b (Ok (true, made)) (Ok (false, old))) (Ok (answer, new)) → Grows old new
held_grows true old made new answer grows e = subst (Grows old) (made_of true answer made new e) grows
held_grows false old made new answer grows e = subst (Grows old) (made_of false answer old new e) (itself old)

pub delete_held_grows : (first : RowName) (last : ℕ) (old new : Replica) (answer : Bool) → deleted_if_held old first last ≡ Ok (answer, new) → Grows old new
delete_held_grows first last old new answer e =
    let made : Replica = with_deleted old (rows_between first last) in
    let met = ok_unless (delete_fault first last) (cond (holds old first.batch) (Ok (true, made)) (Ok (false, old))) (answer, new) e in
    held_grows (holds old first.batch) old made new answer (deleted_grows old (rows_between first last)) met.1

pub forget_grows : (old new : Replica) (dropped : ℕ × ℕ) → forgetting old ≡ Ok (dropped, new) → Grows old new
forget_grows old new dropped e =
    let last : record { schema = old.schema; own = old.own; state = forgotten old.state } ≡ new = ap (λ (p : (ℕ × ℕ) × Replica). p.1) (ok_one _ (dropped, new) e) in
    subst (Grows old) last (record { table = refl; all = rest_has (forgotten old.state) old.state (forgets_all.forgets old.state) })

pub made_grows : (old new : Replica) → IsMadeBy old new → Grows old new
made_grows old new (Adding command answer e) = adding_grows command old new answer e
made_grows old new (DeletingHeld first last is_held e) = delete_held_grows first last old new is_held e
made_grows old new (Forgetting dropped e) = forget_grows old new dropped e
