-- The other store's entries and deletions are moved in.
use Rattle.std.specs.Prelude.{◌≤◌, Ok, Result}
use Rattle.std.proofs.Common.{sym, ap, subst, ◌∙◌}
use Rattle.std.specs.FinMap as map
use Rattle.table_model.specs.Name.{name_cmp}
use Rattle.table_model.specs.State.{Batch, union_of}
use Rattle.table_model.specs.Table.{Table}
use Rattle.table_model.specs.declared.refusal.Refusal.{Refusal}
use Rattle.replica_store.specs.Replica.{Replica, batch_limit, joined_with, with_join, names_of}
use Rattle.replica_store.specs.Segments.{StoreForm, AreStored}
use Rattle.replica_store.proofs.JoinedStores.{whole, in_order, rows_are, ok_merges}
use Rattle.replica_store.proofs.Maps.{as_map}
use Rattle.replica_store.proofs.MergeAnswers.{is_merge}
use Rattle.replica_store.proofs.Putting.{OnOk_then}
use Rattle.replica_store.proofs.store.Store.join.Goals as goal

pub move_all-requires-clause-sorted : goal.move_all-requires-clause-sorted
move_all-requires-clause-sorted c = in_order c.other.inside.batches.segments c.in_ok-entries.entries.items c.in_ok-entries.ensures.entries

pub move_all-requires-clause-names : goal.move_all-requires-clause-names
move_all-requires-clause-names c = c.in_ok-entries.ensures.names ∙ ap names_of (sym (whole c.other.inside.batches.segments c.in_ok-entries.entries.items c.in_ok-entries.ensures.entries))

pub move_all-requires-clause-stored : goal.move_all-requires-clause-stored
move_all-requires-clause-stored c =
    let r = c.args.self.now.replica in
    let m = is_merge r c.args.other.replica (with_join r c.args.other.replica) (ok_merges r c.args.other.replica c.requires) in
    subst (λ (t : Table). AreStored t (as_map c.in_ok-entries.entries.items)) (sym (m.schema ∙ ap (λ (s : StoreForm). s.replica.schema) (sym c.other.view_is)))
    (subst (AreStored c.other.inside.schema) (sym (whole c.other.inside.batches.segments c.in_ok-entries.entries.items c.in_ok-entries.ensures.entries)) c.other.invariant.stored)

pub move_all-requires-clause-limit : goal.move_all-requires-clause-limit
move_all-requires-clause-limit c =
    let r = c.args.self.now.replica in
    let m = is_merge r c.args.other.replica (with_join r c.args.other.replica) (ok_merges r c.args.other.replica c.requires) in
    subst (λ (b : map.FinMap name_cmp Batch). map.len (union_of r.state.batches b) ≤ batch_limit)
    (rows_are c.args.other c.other.inside.batches.segments c.in_ok-entries.entries.items (ap (λ (s : StoreForm). s.replica.state.batches) (sym c.other.view_is)) c.in_ok-entries.ensures.entries) m.limit

pub returns-clause-replica : goal.returns-clause-replica
returns-clause-replica c =
    let r = c.args.self.now.replica in
    OnOk_then c.move_all.result (λ made.
    ok_merges r c.args.other.replica c.requires
    ∙ ap (λ (x : Replica). let ok : Result (Unit {0} × Replica) Refusal = Ok (tt, x) in ok)
    ((λ i. joined_with r (record {
      batches = rows_are c.args.other c.other.inside.batches.segments c.in_ok-entries.entries.items (ap (λ (s : StoreForm). s.replica.state.batches) (sym c.other.view_is)) c.in_ok-entries.ensures.entries i;
      deleted = (sym c.other.view_is i).replica.state.deleted;
    })) ∙ sym made)) c.move_all.ensures.ok

pub returns-clause-segments : goal.returns-clause-segments
returns-clause-segments c = OnOk_then c.move_all.result (λ made.
    made ∙ ap (union_of c.args.self.now.segments) (whole c.other.inside.batches.segments c.in_ok-entries.entries.items c.in_ok-entries.ensures.entries ∙ ap (λ (s : StoreForm). s.segments) c.other.view_is)) c.move_all.ensures.segments
