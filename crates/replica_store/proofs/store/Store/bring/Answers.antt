-- What the store that has what both have doesn't refuse is moved in, as far as it isn't held.
use Rattle.std.specs.Prelude.{◌≡◌, ◌≤◌, Ok, Result}
use Rattle.std.proofs.Common.{refl, sym, ap, subst, ◌∙◌, arith, inl, inr}
use Rattle.std.proofs.lemmas.Result.{err_from_is_err_and}
use Rattle.std.specs.FinMap as map
use Rattle.std.specs.FinSet as set
use Rattle.table_model.specs.Name.{name_cmp}
use Rattle.table_model.specs.State.{union_of}
use Rattle.table_model.specs.declared.refusal.Refusal.{Refusal}
use Rattle.replica_store.specs.Exchange.{offering, unlisted, unlisted_state}
use Rattle.replica_store.specs.Replica.{Replica, batch_limit, joined_with, names_of, with_join}
use Rattle.replica_store.specs.Segments.{StoreForm, Segments, rows_in}
use Rattle.replica_store.proofs.Brings.{brought_next, has_room, with_brought}
use Rattle.replica_store.proofs.Joining.{joined_merged, ok_merged, refused_merged}
use Rattle.replica_store.proofs.Summaries.{names_of-rows_in}
use Rattle.replica_store.proofs.store.Store.bring.Goals as goal

-- the names that are held
named : (s : StoreForm) (m : Segments) (names : set.FinSet name_cmp) → s.replica.state.batches ≡ rows_in m → names ≡ names_of m → names ≡ names_of s.replica.state.batches
named s m names rows is = is ∙ sym (names_of-rows_in m) ∙ ap names_of (sym rows)

pub returns-in_err-bring_fault-clause-acts : goal.returns-in_err-bring_fault-clause-acts
returns-in_err-bring_fault-clause-acts c =
    let whole = with_join c.args.held.now.replica c.args.self.now.replica in
    let p = err_from_is_err_and c.from_residual.result c.from_residual.ensures.1 in
    rw (p.1, p.2) (refl, inl (refused_merged whole (offering whole.own c.args.offer) c.args.offer.schema c.args.offer.state.batches c.in_err-bring_fault.field-0.0 refl refl c.in_err-bring_fault.ensures))

pub returns-in_err-move_new-clause-acts : goal.returns-in_err-move_new-clause-acts
returns-in_err-move_new-clause-acts c =
    let held = c.args.held.now.replica in
    let whole = with_join held c.args.self.now.replica in
    let p = err_from_is_err_and c.from_residual-in_err-move_new.result c.from_residual-in_err-move_new.ensures.1 in
    rw p.1 (
      ap (λ (s : StoreForm). with_join held s.replica) c.in_err-move_new.ensures.err,
      inr (p.2, ok_merged whole (offering whole.own c.args.offer) c.args.offer.schema c.args.offer.state.batches c.in_ok-bring_fault.field-0 refl refl c.in_ok-bring_fault.ensures),
    )

pub move_new-requires-clause-schema : goal.move_new-requires-clause-schema
move_new-requires-clause-schema c =
    let room = has_room c.args.held.now c.args.self.now c.args.offer c.in_ok-bring_fault.field-0 c.requires c.in_ok-bring_fault.ensures in
    c.requires.schema ∙ room.schema

pub move_new-requires-clause-limit : goal.move_new-requires-clause-limit
move_new-requires-clause-limit c =
    let room = has_room c.args.held.now c.args.self.now c.args.offer c.in_ok-bring_fault.field-0 c.requires c.in_ok-bring_fault.ensures in
    let names = named c.args.held.now c.held.inside.batches.segments c.names.result.now (ap (λ (s : StoreForm). s.replica.state.batches) (sym c.held.view_is)) c.names.ensures in
    subst (λ (n : set.FinSet name_cmp). map.len (union_of c.args.self.now.replica.state.batches (unlisted n c.args.offer.state.batches)) ≤ batch_limit) (sym names) (omega (arith, room.limit))

pub returns-clause-brought : goal.returns-clause-brought
returns-clause-brought c =
    let names = named c.args.held.now c.held.inside.batches.segments c.names.result.now (ap (λ (s : StoreForm). s.replica.state.batches) (sym c.held.view_is)) c.names.ensures in
    c.in_ok-move_new.ensures.ok ∙ ap (λ (n : set.FinSet name_cmp). joined_with c.args.self.now.replica (unlisted_state n c.args.offer.state)) names

pub returns-clause-segments : goal.returns-clause-segments
returns-clause-segments c =
    let names = named c.args.held.now c.held.inside.batches.segments c.names.result.now (ap (λ (s : StoreForm). s.replica.state.batches) (sym c.held.view_is)) c.names.ensures in
    c.in_ok-move_new.ensures.segments ∙ ap (λ (n : set.FinSet name_cmp). union_of c.args.self.now.segments (unlisted n c.args.offer.segments)) names

pub returns-clause-is_brought : goal.returns-clause-is_brought
returns-clause-is_brought c =
    let names = named c.args.held.now c.held.inside.batches.segments c.names.result.now (ap (λ (s : StoreForm). s.replica.state.batches) (sym c.held.view_is)) c.names.ensures in
    let made = c.in_ok-move_new.ensures.ok ∙ ap (λ (n : set.FinSet name_cmp). joined_with c.args.self.now.replica (unlisted_state n c.args.offer.state)) names in
    let room = has_room c.args.held.now c.args.self.now c.args.offer c.in_ok-bring_fault.field-0 c.requires c.in_ok-bring_fault.ensures in
    brought_next c.args.held.now c.args.self.now c.move_new.new.self c.args.offer c.requires room made

pub returns-clause-acts : goal.returns-clause-acts
returns-clause-acts c =
    let held = c.args.held.now.replica in
    let own = c.args.self.now.replica in
    let whole = with_join held own in
    let names = named c.args.held.now c.held.inside.batches.segments c.names.result.now (ap (λ (s : StoreForm). s.replica.state.batches) (sym c.held.view_is)) c.names.ensures in
    let made = c.in_ok-move_new.ensures.ok ∙ ap (λ (n : set.FinSet name_cmp). joined_with own (unlisted_state n c.args.offer.state)) names in
    joined_merged whole (offering whole.own c.args.offer) c.args.offer.schema c.args.offer.state.batches c.in_ok-bring_fault.field-0 refl refl c.in_ok-bring_fault.ensures
    ∙ ap (λ (x : Replica). let ok : Result (Unit {0} × Replica) Refusal = Ok (tt, x) in ok) (with_brought held own c.move_new.new.self.replica c.args.offer.state made)
