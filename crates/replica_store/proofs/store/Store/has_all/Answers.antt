-- Nothing is lacked where all deletions are here and the union has no more batches.
use Rattle.std.specs.Prelude.{◌≡◌, ◌++◌, Bool, true, false, not, nat_lt}
use Rattle.std.proofs.Common.{refl, sym, ap, subst, ◌∙◌}
use Rattle.std.proofs.lemmas.Bool.{not-true}
use Rattle.std.specs.FinMap as map
use Rattle.std.specs.FinSet as set
use Rattle.table_model.specs.Name.{name_cmp}
use Rattle.table_model.specs.State.{union_of}
use Rattle.segment_core.specs.Segment.{SegmentForm}
use Rattle.replica_store.specs.Replica.{Replica, joined_with}
use Rattle.replica_store.specs.Segments.{StoreForm, rows_in}
use Rattle.replica_store.proofs.Idle.{coming, replica_same, segments_same, same_deletions, same_count}
use Rattle.replica_store.proofs.Maps.{as_map}
use Rattle.replica_store.proofs.store.Store.has_all.Goals as goal

-- the union has no more batches than are held
few : (held others : map.FinMap name_cmp SegmentForm) (count : Bool) → count ≡ nat_lt (map.len held) (map.len (union_of (rows_in held) (rows_in others))) → not count ≡ true
    → nat_lt (map.len held) (map.len (union_of (rows_in held) (rows_in others))) ≡ false
few held others count is none = sym is ∙ not-true count none

pub returns-then-has_all-clause-state : goal.returns-then-has_all-clause-state
returns-then-has_all-clause-state c none =
    let m = c.self.inside.batches.segments in
    let n : map.FinMap name_cmp SegmentForm = as_map (c.args.first.now ++ c.args.second.now) in
    let inside : Replica = record { schema = c.self.inside.schema; own = c.self.inside.own; state = record { batches = rows_in m; deleted = c.self.inside.tombs } } in
    let exceeds = c.union_exceeds.ensures ∙ ap (λ k. nat_lt k (map.len (union_of (rows_in m) (rows_in n)))) c.len.ensures.count in
    subst (λ (s : StoreForm). joined_with s.replica (coming n c.args.tombs.now) ≡ s.replica) c.self.view_is
    (replica_same inside m n c.args.tombs.now refl (sym c.has_all.ensures ∙ c.if-has_all.true) (few m n c.union_exceeds.result exceeds none))

pub returns-then-has_all-clause-segments : goal.returns-then-has_all-clause-segments
returns-then-has_all-clause-segments c none =
    let m = c.self.inside.batches.segments in
    let n : map.FinMap name_cmp SegmentForm = as_map (c.args.first.now ++ c.args.second.now) in
    let exceeds = c.union_exceeds.ensures ∙ ap (λ k. nat_lt k (map.len (union_of (rows_in m) (rows_in n)))) c.len.ensures.count in
    subst (λ (s : StoreForm). union_of s.segments n ≡ s.segments) c.self.view_is (segments_same m n (few m n c.union_exceeds.result exceeds none))

pub returns-then-has_all-clause-lacking : goal.returns-then-has_all-clause-lacking
returns-then-has_all-clause-lacking c same =
    let m = c.self.inside.batches.segments in
    let n : map.FinMap name_cmp SegmentForm = as_map (c.args.first.now ++ c.args.second.now) in
    let rows = ap (λ (s : StoreForm). s.replica.state.batches) (sym c.self.view_is) in
    let exceeds = c.union_exceeds.ensures ∙ ap (λ k. nat_lt k (map.len (union_of (rows_in m) (rows_in n)))) c.len.ensures.count in
    ap not (exceeds ∙ same_count c.args.self.now.replica m n c.args.tombs.now rows same)

pub returns-else-has_all-clause-lacking : goal.returns-else-has_all-clause-lacking
returns-else-has_all-clause-lacking c same =
    let held = ap (λ (s : StoreForm). s.replica.state.deleted) c.self.view_is in
    c.has_all.ensures ∙ ap (set.is_subset c.args.tombs.now) held ∙ same_deletions c.args.self.now.replica (as_map (c.args.first.now ++ c.args.second.now)) c.args.tombs.now same
