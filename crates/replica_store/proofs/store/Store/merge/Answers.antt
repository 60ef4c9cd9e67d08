-- The other side's batches are the entries that were handed in.
use Rattle.std.specs.Prelude.{◌++◌, ◌≡◌, T, List, Ok, Result}
use Rattle.std.proofs.Common.{refl, sym, ap, subst, ◌∙◌, inl, inr}
use Rattle.std.proofs.lemmas.Bool.{false≢true}
use Rattle.std.proofs.lemmas.Result.{err_from_is_err_and}
use Rattle.std.specs.FinMap as map
use Rattle.std.specs.FinSet as set
use Rattle.table_model.specs.State.{union_of}
use Rattle.table_model.specs.Name.{name_cmp, row_name_cmp}
use Rattle.table_model.specs.Table.{Table}
use Rattle.table_model.specs.declared.refusal.Refusal.{Refusal}
use Rattle.segment_core.specs.Segment.{SegmentForm}
use Rattle.replica_store.specs.Replica.{Replica, joined_with, merged, names_of}
use Rattle.replica_store.specs.Segments.{StoreForm, Entry, AreStored, rows_in}
use Rattle.replica_store.proofs.Idle.{coming, no_answer, answer_same}
use Rattle.replica_store.proofs.Joining.{refused_merged, joined_merged, ok_merged, mergeable}
use Rattle.replica_store.proofs.Maps.{as_map}
use Rattle.replica_store.proofs.Merges.{map_of_entries}
use Rattle.replica_store.proofs.store.Store.merge.Goals as goal

-- the entries of a map are it
whole : (m : map.FinMap name_cmp SegmentForm) (es : List Entry) → es ≡ map.entries m → as_map es ≡ m
whole m es is = ap as_map is ∙ map_of_entries m

in_order : (m : map.FinMap name_cmp SegmentForm) (es : List Entry) → es ≡ map.entries m → T (map.is_sorted name_cmp es)
in_order m es is = subst (λ (xs : List Entry). T (map.is_sorted name_cmp xs)) (sym is) (map.entries_sorted m)

-- the state's batches are their rows
rows_are : (s : StoreForm) (m : map.FinMap name_cmp SegmentForm) (es : List Entry) → s.replica.state.batches ≡ rows_in m → es ≡ map.entries m → s.replica.state.batches ≡ rows_in (as_map es)
rows_are s m es rows is = rows ∙ ap rows_in (sym (whole m es is))

pub merge_fault-requires : goal.merge_fault-requires
merge_fault-requires c = in_order c.other.inside.batches.segments (c.parts.result.0.now ++ c.parts.result.1.now) c.parts.ensures.whole

pub returns-in_err-merge_fault-clause-acts : goal.returns-in_err-merge_fault-clause-acts
returns-in_err-merge_fault-clause-acts c =
    let es = (c.parts.result.0.now ++ c.parts.result.1.now) in
    let p = err_from_is_err_and c.from_residual.result c.from_residual.ensures.1 in
    rw (p.1, p.2) (
      refl,
      inl (refused_merged c.args.self.now.replica c.args.other.now.replica c.other.inside.schema (rows_in (as_map es)) c.in_err-merge_fault.field-0.0 (ap (λ (s : StoreForm). s.replica.schema) (sym c.other.view_is))
          (rows_are c.args.other.now c.other.inside.batches.segments es (ap (λ (s : StoreForm). s.replica.state.batches) (sym c.other.view_is)) c.parts.ensures.whole) c.in_err-merge_fault.ensures),
    )

pub take_all-requires-clause-sorted : goal.take_all-requires-clause-sorted
take_all-requires-clause-sorted c = in_order c.other.inside.batches.segments (c.parts.result.0.now ++ c.parts.result.1.now) c.parts.ensures.whole

pub take_all-requires-clause-names : goal.take_all-requires-clause-names
take_all-requires-clause-names c = c.names.ensures ∙ ap names_of (sym (whole c.other.inside.batches.segments (c.parts.result.0.now ++ c.parts.result.1.now) c.parts.ensures.whole))

pub take_all-requires-clause-stored : goal.take_all-requires-clause-stored
take_all-requires-clause-stored c =
    let fine = mergeable c.args.self.now.replica c.other.inside.schema (rows_in (as_map (c.parts.result.0.now ++ c.parts.result.1.now))) c.in_ok-merge_fault.field-0 c.in_ok-merge_fault.ensures in
    subst (λ (t : Table). AreStored t (as_map (c.parts.result.0.now ++ c.parts.result.1.now))) (sym fine.schema)
    (subst (AreStored c.other.inside.schema) (sym (whole c.other.inside.batches.segments (c.parts.result.0.now ++ c.parts.result.1.now) c.parts.ensures.whole)) c.other.invariant.stored)

pub take_all-requires-clause-limit : goal.take_all-requires-clause-limit
take_all-requires-clause-limit c =
    let fine = mergeable c.args.self.now.replica c.other.inside.schema (rows_in (as_map (c.parts.result.0.now ++ c.parts.result.1.now))) c.in_ok-merge_fault.field-0 c.in_ok-merge_fault.ensures in
    fine.limit

pub returns-in_err-take_all-clause-acts : goal.returns-in_err-take_all-clause-acts
returns-in_err-take_all-clause-acts c =
    let es = (c.parts.result.0.now ++ c.parts.result.1.now) in
    let p = err_from_is_err_and c.from_residual-in_err-take_all.result c.from_residual-in_err-take_all.ensures.1 in
    rw p.1 (
      ap (λ (s : StoreForm). s.replica) c.in_err-take_all.ensures.err,
      inr (
        p.2,
        ok_merged c.args.self.now.replica c.args.other.now.replica c.other.inside.schema (rows_in (as_map es)) c.in_ok-merge_fault.field-0 (ap (λ (s : StoreForm). s.replica.schema) (sym c.other.view_is))
            (rows_are c.args.other.now c.other.inside.batches.segments es (ap (λ (s : StoreForm). s.replica.state.batches) (sym c.other.view_is)) c.parts.ensures.whole) c.in_ok-merge_fault.ensures,
      ),
    )

pub returns-clause-acts : goal.returns-clause-acts
returns-clause-acts c =
    let es = (c.parts.result.0.now ++ c.parts.result.1.now) in
    let r = c.args.self.now.replica in
    let theirs = c.args.other.now.replica.state in
    let made : joined_with r theirs ≡ c.take_all.new.self.replica =
    (λ i. joined_with r (record {
      batches = rows_are c.args.other.now c.other.inside.batches.segments (c.parts.result.0.now ++ c.parts.result.1.now) (ap (λ (s : StoreForm). s.replica.state.batches) (sym c.other.view_is)) c.parts.ensures.whole i;
      deleted = (sym c.other.view_is i).replica.state.deleted;
    }))
    ∙ sym c.in_ok-take_all.ensures.ok in
    joined_merged r c.args.other.now.replica c.other.inside.schema (rows_in (as_map es)) c.in_ok-merge_fault.field-0 (ap (λ (s : StoreForm). s.replica.schema) (sym c.other.view_is))
    (rows_are c.args.other.now c.other.inside.batches.segments es (ap (λ (s : StoreForm). s.replica.state.batches) (sym c.other.view_is)) c.parts.ensures.whole) c.in_ok-merge_fault.ensures
    ∙ ap (λ (x : Replica). let ok : Result (Unit {0} × Replica) Refusal = Ok (tt, x) in ok) made

pub returns-clause-segments : goal.returns-clause-segments
returns-clause-segments c =
    c.in_ok-take_all.ensures.segments
    ∙ ap (union_of c.args.self.now.segments) (whole c.other.inside.batches.segments (c.parts.result.0.now ++ c.parts.result.1.now) c.parts.ensures.whole ∙ ap (λ (s : StoreForm). s.segments) c.other.view_is)

-- joined with the other store, a replica is joined with its entries and deletions
joins : (r : Replica) (s : StoreForm) (m : map.FinMap name_cmp SegmentForm) (tombs : set.FinSet row_name_cmp) (es : List Entry) → s.replica.state ≡ coming m tombs → es ≡ map.entries m → joined_with r s.replica.state ≡ joined_with r (coming (as_map es) tombs)
joins r s m tombs es is entries = ap (joined_with r) (is ∙ ap (λ (n : map.FinMap name_cmp SegmentForm). coming n tombs) (sym (whole m es entries)))

pub has_all-requires : goal.has_all-requires
has_all-requires c = in_order c.other.inside.batches.segments (c.parts.result.0.now ++ c.parts.result.1.now) c.parts.ensures.whole

pub returns-then-has_all-clause-acts : goal.returns-then-has_all-clause-acts
returns-then-has_all-clause-acts c =
    let es = (c.parts.result.0.now ++ c.parts.result.1.now) in
    let r = c.args.self.now.replica in
    joined_merged r c.args.other.now.replica c.other.inside.schema (rows_in (as_map es)) c.in_ok-merge_fault.field-0 (ap (λ (s : StoreForm). s.replica.schema) (sym c.other.view_is))
    (rows_are c.args.other.now c.other.inside.batches.segments es (ap (λ (s : StoreForm). s.replica.state.batches) (sym c.other.view_is)) c.parts.ensures.whole) c.in_ok-merge_fault.ensures
    ∙ ap (λ (x : Replica). let ok : Result (Unit {0} × Replica) Refusal = Ok (tt, x) in ok)
    (joins r c.args.other.now c.other.inside.batches.segments c.other.inside.tombs es (ap (λ (s : StoreForm). s.replica.state) (sym c.other.view_is)) c.parts.ensures.whole ∙ c.has_all.ensures.state c.if-has_all.true)

pub returns-then-has_all-clause-segments : goal.returns-then-has_all-clause-segments
returns-then-has_all-clause-segments c =
    sym (c.has_all.ensures.segments c.if-has_all.true)
    ∙ ap (union_of c.args.self.now.segments) (whole c.other.inside.batches.segments (c.parts.result.0.now ++ c.parts.result.1.now) c.parts.ensures.whole ∙ ap (λ (s : StoreForm). s.segments) c.other.view_is)

pub returns-in_err-merge_fault-clause-idle : goal.returns-in_err-merge_fault-clause-idle
returns-in_err-merge_fault-clause-idle c same =
    let es = (c.parts.result.0.now ++ c.parts.result.1.now) in
    let r = c.args.self.now.replica in
    let refused = refused_merged r c.args.other.now.replica c.other.inside.schema (rows_in (as_map es)) c.in_err-merge_fault.field-0.0 (ap (λ (s : StoreForm). s.replica.schema) (sym c.other.view_is))
    (rows_are c.args.other.now c.other.inside.batches.segments es (ap (λ (s : StoreForm). s.replica.state.batches) (sym c.other.view_is)) c.parts.ensures.whole) c.in_err-merge_fault.ensures in
    absurd (no_answer (merged r c.args.other.now.replica) c.in_err-merge_fault.field-0.0 (tt, r) refused same)

pub returns-in_err-take_all-clause-idle : goal.returns-in_err-take_all-clause-idle
returns-in_err-take_all-clause-idle c same =
    let es = (c.parts.result.0.now ++ c.parts.result.1.now) in
    let r = c.args.self.now.replica in
    let made = joined_merged r c.args.other.now.replica c.other.inside.schema (rows_in (as_map es)) c.in_ok-merge_fault.field-0 (ap (λ (s : StoreForm). s.replica.schema) (sym c.other.view_is))
    (rows_are c.args.other.now c.other.inside.batches.segments es (ap (λ (s : StoreForm). s.replica.state.batches) (sym c.other.view_is)) c.parts.ensures.whole) c.in_ok-merge_fault.ensures in
    let left = answer_same (merged r c.args.other.now.replica) (joined_with r c.args.other.now.replica.state) r made same in
    let joined = joins r c.args.other.now c.other.inside.batches.segments c.other.inside.tombs es (ap (λ (s : StoreForm). s.replica.state) (sym c.other.view_is)) c.parts.ensures.whole in
    absurd (false≢true (sym c.if-has_all.false ∙ c.has_all.ensures.lacking (sym joined ∙ left)))
