use Rattle.std.proofs.Common.{◌≢◌, Ok}
use Rattle.std.proofs.lemmas.Bool.{false≢true}
use Rattle.std.proofs.lemmas.Result.{err_from_is_err_and}
use Rattle.replica_store.specs.Replica.{deleted_rows}
use Rattle.cluster_history.specs.Cluster.{delete_step, done_reply}
use Rattle.cluster_history.specs.Message.{messages_in}
use Rattle.cluster_history.specs.declared.reply.Reply.TheVariants.{Done}
use Rattle.cluster_history.proofs.Codings.{kept_at}
use Rattle.cluster_history.proofs.Forms.{nowhere, parts_same, store_left}
use Rattle.cluster_history.proofs.Idle.{refused_where, call_same}
use Rattle.cluster_history.proofs.Placed.{no_place, call_done, call_refused}
use Rattle.cluster_history.specs.declared.step.Step.TheVariants.{Delete}
use Rattle.cluster_history.proofs.cluster.Cluster.delete.Goals as goal

pub returns-in_err-place : goal.returns-in_err-place
unfolding delete_step
returns-in_err-place c =
    let p = err_from_is_err_and c.from_residual.result c.from_residual.ensures.1 in
    rw (p.1, p.2) (nowhere c.args.self.now (Delete c.args.replica c.args.first c.args.last) c.in_err-place.field-0.0 c.in_err-place.ensures.missing.0 (no_place done_reply c.args.self.now.parts c.args.replica (λ r. deleted_rows r c.args.first c.args.last) c.in_err-place.ensures.missing.1))

pub returns-in_err-delete : goal.returns-in_err-delete
unfolding delete_step
returns-in_err-delete c =
    let p = err_from_is_err_and c.from_residual-in_err-delete.result c.from_residual-in_err-delete.ensures.1 in
    let lacks : delete_step c.args.self.now.parts c.args.replica c.args.first c.args.last ≢ Ok (Done, c.args.self.now.parts) = λ same.
    false≢true (c.in_err-delete.ensures.idle
    (call_same c.args.self.now.parts c.self.inside.schema c.self.inside.stores.items (messages_in c.self.inside.messages.items) c.args.replica c.in_ok-place.place (λ r. deleted_rows r c.args.first c.args.last) c.index_mut.result.now
    (parts_same c.self.view_is) c.in_ok-place.ensures.place c.in_ok-place.ensures.bound c.index_mut.ensures.value same)) in
    rw (p.1, p.2) (
      store_left c.args.self.now c.self.inside.schema c.self.inside.stores.items c.self.inside.messages.items c.in_ok-place.place c.index_mut.result.now c.delete.new.self
          c.self.view_is c.index_mut.ensures.value c.in_err-delete.ensures.refused,
      (refused_where lacks (call_refused done_reply c.args.self.now.parts c.self.inside.schema c.self.inside.stores.items (messages_in c.self.inside.messages.items) c.args.replica c.in_ok-place.place (λ r. deleted_rows r c.args.first c.args.last) c.index_mut.result.now c.delete.new.self c.in_err-delete.field-0.0
          (parts_same c.self.view_is) c.in_ok-place.ensures.place c.in_ok-place.ensures.bound c.index_mut.ensures.value c.in_err-delete.ensures.refused c.in_err-delete.ensures.acts)).1,
    )

pub returns : goal.returns
unfolding delete_step
returns c = (
  call_done done_reply c.args.self.now.parts c.self.inside.schema c.self.inside.stores.items (messages_in c.self.inside.messages.items) c.args.replica c.in_ok-place.place (λ r. deleted_rows r c.args.first c.args.last) c.index_mut.result.now c.delete.new.self tt
      (parts_same c.self.view_is) c.in_ok-place.ensures.place c.in_ok-place.ensures.bound c.index_mut.ensures.value c.in_ok-delete.ensures.acts,
  kept_at c.self.inside.schema c.self.inside.stores.items c.self.inside.messages.items c.in_ok-place.place c.index_mut.result.now c.delete.new.self c.args.self.now c.index_mut.ensures.value c.in_ok-delete.ensures.segments c.self.view_is,
)
