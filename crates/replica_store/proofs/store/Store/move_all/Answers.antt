-- The limits are kept: by a union that isn't too long, and where nothing came.
use Rattle.std.proofs.Common.{sym, ap, subst, ◌∙◌, ◌≤◌}
use Rattle.std.specs.FinMap as map
use Rattle.table_model.specs.Name.{name_cmp}
use Rattle.table_model.specs.State.{State, union_of}
use Rattle.segment_core.specs.Segment.{SegmentForm}
use Rattle.replica_store.specs.Replica.{joined_with, batch_limit}
use Rattle.replica_store.specs.Segments.{StoreForm, AreStored, rows_in}
use Rattle.replica_store.proofs.Maps.{as_map}
use Rattle.replica_store.proofs.Putting.{OnOk_then}
use Rattle.replica_store.proofs.RowsIn.{rows_in-union}
use Rattle.replica_store.proofs.Taken.{sound_taken, batches_joined}
use Rattle.replica_store.proofs.store.Store.move_all.Goals as goal

pub invariant_of-self : goal.invariant_of-self
invariant_of-self c =
    let come : map.FinMap name_cmp SegmentForm = as_map c.args.entries.items in
    let stored : AreStored c.self.inside.schema come = subst (λ (s : StoreForm). AreStored s.replica.schema come) (sym c.self.view_is) c.requires.stored in
    let limit : map.len (union_of (rows_in c.self.inside.batches.segments) (rows_in come)) ≤ batch_limit = subst (λ (s : StoreForm). map.len (union_of s.replica.state.batches (rows_in come)) ≤ batch_limit) (sym c.self.view_is) c.requires.limit in
    sound_taken c.self.inside.schema c.self.inside.own c.self.inside.batches c.absorb.new.self come c.absorb.result c.self.invariant stored limit c.absorb.ensures.ok c.absorb.ensures.own c.absorb.ensures.err

pub invariant_of-self-2 : goal.invariant_of-self-2
invariant_of-self-2 c =
    let come : map.FinMap name_cmp SegmentForm = as_map c.args.entries.items in
    let stored : AreStored c.self.inside.schema come = subst (λ (s : StoreForm). AreStored s.replica.schema come) (sym c.self.view_is) c.requires.stored in
    let limit : map.len (union_of (rows_in c.self.inside.batches.segments) (rows_in come)) ≤ batch_limit = subst (λ (s : StoreForm). map.len (union_of s.replica.state.batches (rows_in come)) ≤ batch_limit) (sym c.self.view_is) c.requires.limit in
    sound_taken c.self.inside.schema c.self.inside.own c.self.inside.batches c.absorb-2.new.self come c.absorb-2.result c.self.invariant stored limit c.absorb-2.ensures.ok c.absorb-2.ensures.own c.absorb-2.ensures.err

pub invariant_of-self-in_err-absorb : goal.invariant_of-self-in_err-absorb
invariant_of-self-in_err-absorb c =
    let come : map.FinMap name_cmp SegmentForm = as_map c.args.entries.items in
    let stored : AreStored c.self.inside.schema come = subst (λ (s : StoreForm). AreStored s.replica.schema come) (sym c.self.view_is) c.requires.stored in
    let limit : map.len (union_of (rows_in c.self.inside.batches.segments) (rows_in come)) ≤ batch_limit = subst (λ (s : StoreForm). map.len (union_of s.replica.state.batches (rows_in come)) ≤ batch_limit) (sym c.self.view_is) c.requires.limit in
    sound_taken c.self.inside.schema c.self.inside.own c.self.inside.batches c.absorb-2.new.self come c.absorb-2.result c.self.invariant stored limit c.absorb-2.ensures.ok c.absorb-2.ensures.own c.absorb-2.ensures.err

pub returns-then-has_all-clause-ok : goal.returns-then-has_all-clause-ok
returns-then-has_all-clause-ok c =
    let come : map.FinMap name_cmp SegmentForm = as_map c.args.entries.items in
    let theirs : State = record { batches = rows_in come; deleted = c.args.tombs.now } in
    OnOk_then c.absorb.result (λ made. batches_joined c.self.inside.schema c.self.inside.own c.self.inside.batches.segments c.absorb.new.self.segments come c.self.inside.tombs c.args.tombs.now made (sym c.has_all.ensures ∙ c.if-has_all.true)
    ∙ λ i. joined_with (c.self.view_is i).replica theirs) c.absorb.ensures.ok

pub returns-then-has_all-clause-segments : goal.returns-then-has_all-clause-segments
returns-then-has_all-clause-segments c = OnOk_then c.absorb.result (λ made. made ∙ λ i. union_of (c.self.view_is i).segments (as_map c.args.entries.items)) c.absorb.ensures.ok

pub returns-clause-ok : goal.returns-clause-ok
returns-clause-ok c =
    let come : map.FinMap name_cmp SegmentForm = as_map c.args.entries.items in
    let theirs : State = record { batches = rows_in come; deleted = c.args.tombs.now } in
    let all = ap rows_in c.in_ok-absorb.ensures.ok ∙ rows_in-union c.self.inside.batches.segments come in
    (λ i. record { schema = c.self.inside.schema; own = c.self.inside.own; state = record { batches = all i; deleted = c.in_ok-tombs.ensures i } })
    ∙ λ i. joined_with (c.self.view_is i).replica theirs

pub returns-clause-segments : goal.returns-clause-segments
returns-clause-segments c = c.in_ok-absorb.ensures.ok ∙ λ i. union_of (c.self.view_is i).segments (as_map c.args.entries.items)
