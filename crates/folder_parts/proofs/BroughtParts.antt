-- The parts that the laws of folders speak of are what commands bring.
use Rattle.std.specs.Prelude.{◌≡◌, ◌≤◌, ◌&&◌, ◌||◌, ℕ, Bool, true, false, List, length, Option, Some, None, Result, Ok, Err}
use Rattle.std.proofs.Common.{refl, sym, ap, ◌∙◌, leb, eqb, arith}
use Rattle.std.proofs.lemmas.Bool.{or_right, false≢true}
use Rattle.std.proofs.lemmas.Bool.Decides.{nat_tests}
use Rattle.std.specs.FinMap as map
use Rattle.std.specs.FinSet as set
use Rattle.table_model.specs.Name.{name_cmp, row_name_cmp}
use Rattle.table_model.specs.Reading.{◌>>=◌}
use Rattle.table_model.specs.State.{State, Batch, empty_state, join}
use Rattle.table_model.specs.Table.{Table}
use Rattle.table_model.specs.declared.names.BatchName.{BatchName}
use Rattle.table_model.specs.declared.names.RowName.{RowName}
use Rattle.table_model.specs.declared.refusal.Refusal.{Refusal}
use Rattle.table_model.proofs.Joins.{or_else, get-union, same_maps, same_states}
use Rattle.table_model.proofs.NameOrder.{row_names_total, exact_row_names}
use Rattle.catalogue_join.proofs.RowSets.{rows_between_any}
use Rattle.replica_store.specs.Brought.{unheld_state}
use Rattle.replica_store.specs.Replica.{Replica, delete_fault, merge_fault, rows_between, unless_fault, with_deleted, with_join}
use Rattle.replica_store.proofs.Brings.{join_unheld}
use Rattle.replica_store.proofs.Limits.{IsDeletable-none, ok_unless}
use Rattle.replica_store.proofs.MergeAnswers.{made_of}
use Rattle.replica_changes.specs.Brings.{brought_to}
use Rattle.replica_changes.specs.CommandForms.{OfImport, tagged}
use Rattle.replica_changes.specs.Commands.{Made}
use Rattle.replica_changes.specs.Loads.{LoadForm, loaded, imported_as, importing_as, chosen_name}
use Rattle.replica_changes.specs.declared.importing.Imported.{Imported}
use Rattle.folder_parts.specs.BroughtParts.{LoadIsBrought, NamedLoadIsBrought, DeletesAreBrought, RowsAreBrought, RowsAreMore, OffersAreBrought}
use Rattle.folder_parts.specs.PartsPut.{empty_replica}

-- ---- an import under a drawn name

nothing_joined : (s : State) → join empty_state s ≡ s
nothing_joined s = same_states _ _
    (same_maps _ _ (λ q. get-union map.empty s.batches q ∙ ap (λ (a : Option Batch). or_else a (map.get s.batches q)) (map.get-empty name_cmp q)))
    (set.same_set row_names_total exact_row_names _ _ (λ q.
    set.contains-union row_names_total set.empty s.deleted q
    ∙ ap (λ (b : Bool). b || set.contains s.deleted q) (set.contains-empty row_name_cmp q)))

-- what is brought to nothing is all that comes
brought_to_nothing : (table : Table) (own : Replica) → brought_to (empty_replica table) own ≡ with_join (empty_replica table) own
brought_to_nothing table own =
    let same : unheld_state (empty_replica table) own.state ≡ join empty_state own.state = sym (nothing_joined (unheld_state (empty_replica table) own.state)) ∙ join_unheld (empty_replica table) own.state in
    λ i. record { schema = table; own = record { 0 = 1 }; state = same i }

import_alone : (load : LoadForm) (name : BatchName) (fault : Option Refusal) →
    ((unless_fault fault (Ok (tt, with_join (empty_replica load.schema) (loaded (empty_replica load.schema) load name))) >>= λ (done : Unit {0} × Replica). let made : Made Imported = Ok (imported_as load name (empty_replica load.schema) done.1, done.1) in made)
    >>= λ (done : Imported × Replica). let made : Made Imported = Ok (done.0, brought_to (empty_replica load.schema) (loaded (empty_replica load.schema) load name)) in made)
    ≡ (unless_fault fault (Ok (tt, with_join (empty_replica load.schema) (loaded (empty_replica load.schema) load name))) >>= λ (done : Unit {0} × Replica). let made : Made Imported = Ok (imported_as load name (empty_replica load.schema) done.1, done.1) in made)
import_alone load name (Some e) = refl
import_alone load name None =
    let none : Replica = empty_replica load.schema in
    let own : Replica = loaded none load name in
    ap (λ (r : Replica). let made : Made Imported = Ok (imported_as load name none (with_join none own), r) in made) (brought_to_nothing load.schema own)

with_name : (name : Result BatchName Refusal) (f g : BatchName → Made Imported) → ((n : BatchName) → f n ≡ g n) → (name >>= f) ≡ (name >>= g)
with_name (Ok n) f g same = same n
with_name (Err e) f g same = refl

pub load_brought_alone : LoadIsBrought
load_brought_alone load words =
    let none : Replica = empty_replica load.schema in
    ap (tagged OfImport) (with_name (chosen_name none.state None words (length load.batches))
    (λ (name : BatchName). importing_as load name none >>= λ (done : Imported × Replica). let made : Made Imported = Ok (done.0, brought_to none (loaded none load name)) in made)
    (λ (name : BatchName). importing_as load name none)
    (λ (name : BatchName). import_alone load name (merge_fault none (loaded none load name))))

-- ---- the other commands

pub named_brought : NamedLoadIsBrought
unfolding chosen_name
named_brought load name words held = refl

pub deletes_brought_so : DeletesAreBrought
deletes_brought_so text held = refl

pub rows_brought_so : RowsAreBrought
rows_brought_so first last held = refl

first_in : (o n f l : ℕ) → f ≤ l → (eqb o o && (eqb n n && (leb f f && leb f l))) ≡ true
first_in o n f l h = grind (arith, nat_tests)

-- the first row is deleted then
pub rows_are_more : RowsAreMore
rows_are_more table first last part made none =
    let empty : Replica = empty_replica table in
    let rows : List RowName = rows_between first last in
    let met = ok_unless (delete_fault first last) (Ok (tt, with_deleted empty rows)) (tt, part) made in
    let is : with_deleted empty rows ≡ part = made_of tt tt (with_deleted empty rows) part met.1 in
    let comes : set.contains (set.from_list {R = row_name_cmp} rows) first ≡ true =
    set.contains-from_list row_names_total rows first ∙ rows_between_any (first, last) first ∙ first_in first.batch.origin.0 first.batch.number.0 first.ordinal last (IsDeletable-none first last met.0).not_empty in
    let here : set.contains part.state.deleted first ≡ true =
    ap (λ (r : Replica). set.contains r.state.deleted first) (sym is) ∙ set.contains-union row_names_total set.empty (set.from_list rows) first ∙ or_right (set.contains (set.empty {R = row_name_cmp}) first) (set.contains (set.from_list {R = row_name_cmp} rows) first) comes in
    let gone : set.contains part.state.deleted first ≡ false = ap (λ (r : Replica). set.contains r.state.deleted first) none ∙ set.contains-empty row_name_cmp first in
    false≢true (sym gone ∙ here)

pub offers_brought_so : OffersAreBrought
offers_brought_so offers held = refl
