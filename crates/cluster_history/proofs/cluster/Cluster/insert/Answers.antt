use Rattle.std.proofs.Common.{◌≢◌, Ok, ◌≡◌, subst}
use Rattle.std.proofs.lemmas.Result.{err_from_is_err_and}
use Rattle.replica_store.specs.Replica.{Replica, inserted}
use Rattle.replica_store.specs.declared.inserted.Inserted.TheVariants.{Already}
use Rattle.replica_store.specs.Segments.{StoreForm, rows_in}
use Rattle.cluster_history.specs.Cluster.{insert_step}
use Rattle.cluster_history.specs.declared.reply.Reply.TheVariants.{Put}
use Rattle.cluster_history.specs.Message.{messages_in}
use Rattle.cluster_history.proofs.Codings.{insert_at}
use Rattle.cluster_history.proofs.Forms.{nowhere, parts_same, store_left}
use Rattle.cluster_history.proofs.Idle.{refused_where, call_new}
use Rattle.cluster_history.proofs.Opened.{one_store, within}
use Rattle.cluster_history.proofs.Placed.{no_place, call_done, call_refused}
use Rattle.cluster_history.specs.declared.step.Step.TheVariants.{Insert}
use Rattle.cluster_history.proofs.cluster.Cluster.insert.Goals as goal

pub returns-in_err-place : goal.returns-in_err-place
unfolding insert_step
returns-in_err-place c =
    let p = err_from_is_err_and c.from_residual.result c.from_residual.ensures.1 in
    rw (p.1, p.2) (nowhere c.args.self.now (Insert c.args.replica c.args.name c.args.rows.now) c.in_err-place.field-0.0 c.in_err-place.ensures.missing.0 (no_place Put c.args.self.now.parts c.args.replica (λ r. inserted r c.args.name c.args.rows.now) c.in_err-place.ensures.missing.1))

pub returns-in_err-inserted : goal.returns-in_err-inserted
unfolding insert_step
returns-in_err-inserted c =
    let p = err_from_is_err_and c.from_residual-in_err-inserted.result c.from_residual-in_err-inserted.ensures.1 in
    let new : (r : Replica) → inserted c.index_mut.result.now.replica c.args.name c.args.rows.now ≢ Ok (Already, r) = λ r is. let held = c.in_err-inserted.ensures.held r is in cc held in
    rw (p.1, p.2) (
      store_left c.args.self.now c.self.inside.schema c.self.inside.stores.items c.self.inside.messages.items c.in_ok-place.place c.index_mut.result.now c.insert.new.self
          c.self.view_is c.index_mut.ensures.value c.in_err-inserted.ensures.refused,
      (refused_where (call_new c.args.self.now.parts c.self.inside.schema c.self.inside.stores.items (messages_in c.self.inside.messages.items) c.args.replica c.in_ok-place.place (λ r. inserted r c.args.name c.args.rows.now) c.index_mut.result.now
          (parts_same c.self.view_is) c.in_ok-place.ensures.place c.in_ok-place.ensures.bound c.index_mut.ensures.value new)
          (call_refused Put c.args.self.now.parts c.self.inside.schema c.self.inside.stores.items (messages_in c.self.inside.messages.items) c.args.replica c.in_ok-place.place (λ r. inserted r c.args.name c.args.rows.now) c.index_mut.result.now c.insert.new.self c.in_err-inserted.field-0.0
          (parts_same c.self.view_is) c.in_ok-place.ensures.place c.in_ok-place.ensures.bound c.index_mut.ensures.value c.in_err-inserted.ensures.refused c.in_err-inserted.ensures.acts)).1,
    )

pub returns : goal.returns
unfolding insert_step
returns c =
    let below = within c.args.self.now.parts c.self.inside.schema c.self.inside.stores.items (messages_in c.self.inside.messages.items) c.in_ok-place.place (parts_same c.self.view_is) c.in_ok-place.ensures.bound in
    let one : c.index.result.now ≡ c.index_mut.result.now = one_store c.self.inside.stores.items c.in_ok-place.place c.index.result.now c.index_mut.result.now below c.index.ensures c.index_mut.ensures.value in
    let own : c.index_mut.result.now.replica.state.batches ≡ rows_in c.index_mut.result.now.segments = subst (λ (s : StoreForm). s.replica.state.batches ≡ rows_in s.segments) one c.shows_its_segments.ensures in (
      call_done Put c.args.self.now.parts c.self.inside.schema c.self.inside.stores.items (messages_in c.self.inside.messages.items) c.args.replica c.in_ok-place.place (λ r. inserted r c.args.name c.args.rows.now) c.index_mut.result.now c.insert.new.self c.in_ok-inserted.inserted
          (parts_same c.self.view_is) c.in_ok-place.ensures.place c.in_ok-place.ensures.bound c.index_mut.ensures.value c.in_ok-inserted.ensures.acts,
      insert_at c.self.inside.schema c.self.inside.stores.items c.self.inside.messages.items c.args.replica c.in_ok-place.place c.index_mut.result.now c.insert.new.self c.args.name c.args.rows.now c.in_ok-inserted.inserted c.args.self.now
          c.index_mut.ensures.value own c.in_ok-inserted.ensures.acts c.in_ok-inserted.ensures.new c.in_ok-inserted.ensures.already c.self.view_is c.in_ok-place.ensures.place c.in_ok-place.ensures.bound,
    )
