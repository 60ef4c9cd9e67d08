-- An offer is the other side of a merge: a replica with its table and its state.
use Rattle.std.specs.Prelude.{◌≤◌, ◌++◌, Bool, true, false, not, ◌≡◌}
use Rattle.std.proofs.Common.{refl, sym, ap, subst, ◌∙◌}
use Rattle.std.proofs.lemmas.Result.{err_from_is_err_and}
use Rattle.std.specs.FinMap as map
use Rattle.table_model.specs.State.{union_of}
use Rattle.table_model.specs.Name.{name_cmp}
use Rattle.segment_core.specs.Segment.{SegmentForm}
use Rattle.table_model.specs.Table.{Table}
use Rattle.replica_store.specs.Replica.{batch_limit}
use Rattle.replica_store.specs.Segments.{AreStored, rows_in}
use Rattle.replica_store.specs.Exchange.{offering}
use Rattle.replica_store.proofs.Joining.{refused_merged, joined_merged, mergeable}
use Rattle.replica_store.proofs.Maps.{Sorted, as_map}
use Rattle.replica_store.proofs.Stored.{AreStored-all}
use Rattle.replica_store.proofs.Applied.{whole, one_list, rows_are, joins}
use Rattle.replica_store.proofs.store.Store.lacks.Goals as goal

not_false : (b : Bool) → not b ≡ false → b ≡ true
not_false true e = refl
not_false false e = sym e

pub merge_fault-requires : goal.merge_fault-requires
merge_fault-requires c = subst Sorted (sym (one_list c.entries-entries.result.now c.split_at.result.0.now c.split_at.result.1.now _ c.split_at.ensures.front c.split_at.ensures.back)) c.entries-entries.ensures.offered.sorted

pub has_all-requires : goal.has_all-requires
has_all-requires c = subst Sorted (sym (one_list c.entries-entries.result.now c.split_at.result.0.now c.split_at.result.1.now _ c.split_at.ensures.front c.split_at.ensures.back)) c.entries-entries.ensures.offered.sorted

pub returns-in_err-merge_fault-clause-refused : goal.returns-in_err-merge_fault-clause-refused
returns-in_err-merge_fault-clause-refused c =
    let o = c.args.offer.now in
    let es = (c.split_at.result.0.now ++ c.split_at.result.1.now) in
    let r = c.args.self.now.replica in
    let p = err_from_is_err_and c.from_residual.result c.from_residual.ensures.1 in
    rw (p.1, p.2) (refused_merged r (offering r.own o) c.schema.result.now (rows_in (as_map es)) c.in_err-merge_fault.field-0.0 (sym c.schema.ensures) (rows_are o es (one_list c.entries-entries.result.now c.split_at.result.0.now c.split_at.result.1.now _ c.split_at.ensures.front c.split_at.ensures.back ∙ c.entries-entries.ensures.value) c.entries-entries.ensures.rows) c.in_err-merge_fault.ensures)

pub returns-clause-made : goal.returns-clause-made
returns-clause-made c =
    let o = c.args.offer.now in
    let es = (c.split_at.result.0.now ++ c.split_at.result.1.now) in
    let r = c.args.self.now.replica in
    joined_merged r (offering r.own o) c.schema.result.now (rows_in (as_map es)) c.in_ok-merge_fault.field-0 (sym c.schema.ensures) (rows_are o es (one_list c.entries-entries.result.now c.split_at.result.0.now c.split_at.result.1.now _ c.split_at.ensures.front c.split_at.ensures.back ∙ c.entries-entries.ensures.value) c.entries-entries.ensures.rows) c.in_ok-merge_fault.ensures

pub returns-clause-lacks : goal.returns-clause-lacks
returns-clause-lacks c =
    let same = joins c.args.self.now.replica c.args.offer.now (c.split_at.result.0.now ++ c.split_at.result.1.now) c.tombs.result.now (one_list c.entries-entries.result.now c.split_at.result.0.now c.split_at.result.1.now _ c.split_at.ensures.front c.split_at.ensures.back ∙ c.entries-entries.ensures.value) c.entries-entries.ensures.rows c.tombs.ensures in
    ((λ none. same ∙ c.has_all.ensures.state (not_false c.has_all.result none)), (λ is. ap not (c.has_all.ensures.lacking (sym same ∙ is))))

pub returns-clause-segments : goal.returns-clause-segments
returns-clause-segments c none =
    let has : not c.has_all.result ≡ false = cc in
    sym (ap (union_of c.args.self.now.segments) (whole c.args.offer.now (c.split_at.result.0.now ++ c.split_at.result.1.now) (one_list c.entries-entries.result.now c.split_at.result.0.now c.split_at.result.1.now _ c.split_at.ensures.front c.split_at.ensures.back ∙ c.entries-entries.ensures.value))) ∙ c.has_all.ensures.segments (not_false c.has_all.result has)

pub returns-clause-stored : goal.returns-clause-stored
returns-clause-stored c =
    let o = c.args.offer.now in
    let fine = mergeable c.args.self.now.replica c.schema.result.now (rows_in (as_map (c.split_at.result.0.now ++ c.split_at.result.1.now))) c.in_ok-merge_fault.field-0 c.in_ok-merge_fault.ensures in
    subst (λ (t : Table). AreStored t o.segments) (sym (fine.schema ∙ c.schema.ensures))
    (subst (AreStored o.schema) (whole o c.entries-entries.result.now c.entries-entries.ensures.value) (AreStored-all o.schema c.entries-entries.result.now c.entries-entries.ensures.offered.sorted c.entries-entries.ensures.offered.stored))

pub returns-clause-limit : goal.returns-clause-limit
returns-clause-limit c =
    let fine = mergeable c.args.self.now.replica c.schema.result.now (rows_in (as_map (c.split_at.result.0.now ++ c.split_at.result.1.now))) c.in_ok-merge_fault.field-0 c.in_ok-merge_fault.ensures in
    subst (λ (m : map.FinMap name_cmp SegmentForm). map.len (union_of c.args.self.now.replica.state.batches (rows_in m)) ≤ batch_limit) (whole c.args.offer.now (c.split_at.result.0.now ++ c.split_at.result.1.now) (one_list c.entries-entries.result.now c.split_at.result.0.now c.split_at.result.1.now _ c.split_at.ensures.front c.split_at.ensures.back ∙ c.entries-entries.ensures.value)) fine.limit
