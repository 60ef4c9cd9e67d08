-- The offer's entries are copied, in two parts.
use Rattle.std.specs.Prelude.{◌++◌, ◌≡◌, ◌≤◌, Ok, Result}
use Rattle.std.proofs.Common.{sym, ap, subst, ◌∙◌}
use Rattle.std.proofs.lemmas.Bool.{false≢true}
use Rattle.std.specs.FinMap as map
use Rattle.table_model.specs.Name.{name_cmp}
use Rattle.table_model.specs.State.{union_of}
use Rattle.table_model.specs.declared.refusal.Refusal.{Refusal}
use Rattle.segment_core.specs.Segment.{SegmentForm}
use Rattle.replica_store.specs.Replica.{Replica, batch_limit, joined_with}
use Rattle.replica_store.specs.Segments.{AreStored, rows_in}
use Rattle.replica_store.proofs.Applied.{whole, one_list, joins}
use Rattle.replica_store.proofs.store.Store.apply.Goals as goal

pub take_all-requires-clause-stored : goal.take_all-requires-clause-stored
take_all-requires-clause-stored c = subst (AreStored c.args.self.now.replica.schema) (sym (whole c.args.offer.now (c.split_at.result.0.now ++ c.split_at.result.1.now) (one_list c.entries-entries.result.now c.split_at.result.0.now c.split_at.result.1.now _ c.split_at.ensures.front c.split_at.ensures.back ∙ c.entries-entries.ensures.value))) c.in_ok-lacks.ensures.stored

pub take_all-requires-clause-limit : goal.take_all-requires-clause-limit
take_all-requires-clause-limit c =
    subst (λ (m : map.FinMap name_cmp SegmentForm). map.len (union_of c.args.self.now.replica.state.batches (rows_in m)) ≤ batch_limit) (sym (whole c.args.offer.now (c.split_at.result.0.now ++ c.split_at.result.1.now) (one_list c.entries-entries.result.now c.split_at.result.0.now c.split_at.result.1.now _ c.split_at.ensures.front c.split_at.ensures.back ∙ c.entries-entries.ensures.value))) c.in_ok-lacks.ensures.limit

pub returns-clause-acts : goal.returns-clause-acts
returns-clause-acts c =
    let made : joined_with c.args.self.now.replica c.args.offer.now.state ≡ c.take_all.new.self.replica =
    joins c.args.self.now.replica c.args.offer.now (c.split_at.result.0.now ++ c.split_at.result.1.now) c.tombs.result.now (one_list c.entries-entries.result.now c.split_at.result.0.now c.split_at.result.1.now _ c.split_at.ensures.front c.split_at.ensures.back ∙ c.entries-entries.ensures.value) c.entries-entries.ensures.rows c.tombs.ensures ∙ sym c.in_ok-take_all.ensures.ok in
    c.in_ok-lacks.ensures.made ∙ ap (λ (x : Replica). let ok : Result (Unit {0} × Replica) Refusal = Ok (tt, x) in ok) made

pub returns-clause-changed : goal.returns-clause-changed
returns-clause-changed c = (
  λ none. absurd (false≢true (sym none)),
  λ same.
      let made : joined_with c.args.self.now.replica c.args.offer.now.state ≡ c.take_all.new.self.replica =
      joins c.args.self.now.replica c.args.offer.now (c.split_at.result.0.now ++ c.split_at.result.1.now) c.tombs.result.now (one_list c.entries-entries.result.now c.split_at.result.0.now c.split_at.result.1.now _ c.split_at.ensures.front c.split_at.ensures.back ∙ c.entries-entries.ensures.value) c.entries-entries.ensures.rows c.tombs.ensures ∙ sym c.in_ok-take_all.ensures.ok in
      sym c.if-not-branch.false ∙ c.in_ok-lacks.ensures.lacks.1 (made ∙ same),
)

pub returns-clause-segments : goal.returns-clause-segments
returns-clause-segments c = c.in_ok-take_all.ensures.segments ∙ ap (union_of c.args.self.now.segments) (whole c.args.offer.now (c.split_at.result.0.now ++ c.split_at.result.1.now) (one_list c.entries-entries.result.now c.split_at.result.0.now c.split_at.result.1.now _ c.split_at.ensures.front c.split_at.ensures.back ∙ c.entries-entries.ensures.value))
