-- The offer's entries are moved in.
use Rattle.std.specs.Prelude.{◌≡◌, ◌≤◌, Ok, Result}
use Rattle.std.proofs.Common.{sym, ap, subst, ◌∙◌}
use Rattle.std.proofs.lemmas.Bool.{false≢true}
use Rattle.std.specs.FinMap as map
use Rattle.table_model.specs.Name.{name_cmp}
use Rattle.table_model.specs.State.{union_of}
use Rattle.table_model.specs.declared.refusal.Refusal.{Refusal}
use Rattle.segment_core.specs.Segment.{SegmentForm}
use Rattle.replica_store.specs.Replica.{Replica, batch_limit, joined_with}
use Rattle.replica_store.specs.Segments.{AreStored, rows_in}
use Rattle.replica_store.proofs.Applied.{whole, joins}
use Rattle.replica_store.proofs.store.Store.absorb.Goals as goal

pub move_all-requires-clause-stored : goal.move_all-requires-clause-stored
move_all-requires-clause-stored c = subst (AreStored c.args.self.now.replica.schema) (sym (whole c.args.offer c.into_parts-entries.result.0.items c.into_parts-entries.ensures.value)) c.in_ok-lacks.ensures.stored

pub move_all-requires-clause-limit : goal.move_all-requires-clause-limit
move_all-requires-clause-limit c =
    subst (λ (m : map.FinMap name_cmp SegmentForm). map.len (union_of c.args.self.now.replica.state.batches (rows_in m)) ≤ batch_limit) (sym (whole c.args.offer c.into_parts-entries.result.0.items c.into_parts-entries.ensures.value)) c.in_ok-lacks.ensures.limit

pub returns-clause-acts : goal.returns-clause-acts
returns-clause-acts c =
    let made : joined_with c.args.self.now.replica c.args.offer.state ≡ c.move_all.new.self.replica =
    joins c.args.self.now.replica c.args.offer c.into_parts-entries.result.0.items c.into_parts-entries.result.1 c.into_parts-entries.ensures.value c.into_parts-entries.ensures.rows c.into_parts-entries.ensures.tombs ∙ sym c.in_ok-move_all.ensures.ok in
    c.in_ok-lacks.ensures.made ∙ ap (λ (x : Replica). let ok : Result (Unit {0} × Replica) Refusal = Ok (tt, x) in ok) made

pub returns-clause-changed : goal.returns-clause-changed
returns-clause-changed c = (
  λ none. absurd (false≢true (sym none)),
  λ same.
      let made : joined_with c.args.self.now.replica c.args.offer.state ≡ c.move_all.new.self.replica =
      joins c.args.self.now.replica c.args.offer c.into_parts-entries.result.0.items c.into_parts-entries.result.1 c.into_parts-entries.ensures.value c.into_parts-entries.ensures.rows c.into_parts-entries.ensures.tombs ∙ sym c.in_ok-move_all.ensures.ok in
      sym c.if-not-branch.false ∙ c.in_ok-lacks.ensures.lacks.1 (made ∙ same),
)

pub returns-clause-segments : goal.returns-clause-segments
returns-clause-segments c = c.in_ok-move_all.ensures.segments ∙ ap (union_of c.args.self.now.segments) (whole c.args.offer c.into_parts-entries.result.0.items c.into_parts-entries.ensures.value)
