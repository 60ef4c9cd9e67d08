use Rattle.std.proofs.Common.{◌≡◌, ◌∙◌, sym, ap, subst, refl, inl, inr, length, Ok}
use Rattle.std.proofs.lemmas.Result.{err_from_is_err_and}
use Rattle.store_view.specs.Asked.{condition_names}
use Rattle.replica_store.specs.Segments.{StoreForm}
use Rattle.cluster_history.specs.Cluster.{delete_where_step, deleting}
use Rattle.cluster_history.specs.Message.{messages_in}
use Rattle.cluster_history.specs.declared.reply.Reply.TheVariants.{Deleted}
use Rattle.cluster_history.proofs.Asked.{is_there}
use Rattle.cluster_history.proofs.Codings.{kept_at}
use Rattle.cluster_history.proofs.DeletedWhere.{deleting_ok, only_memory, where_refused}
use Rattle.cluster_history.proofs.Forms.{nowhere, parts_same, store_left}
use Rattle.cluster_history.proofs.Opened.{one_store, within}
use Rattle.cluster_history.proofs.Placed.{no_place, call_done}
use Rattle.cluster_history.specs.declared.step.Step.TheVariants.{DeleteWhere}
use Rattle.cluster_history.proofs.cluster.Cluster.delete_where.Goals as goal

pub returns-in_err-place : goal.returns-in_err-place
unfolding delete_where_step
returns-in_err-place c =
    let p = err_from_is_err_and c.from_residual.result c.from_residual.ensures.1 in
    rw (p.1, p.2) (nowhere c.args.self.now (DeleteWhere c.args.replica c.args.condition.now) c.in_err-place.field-0.0 c.in_err-place.ensures.missing.0 (no_place Deleted c.args.self.now.parts c.args.replica (deleting c.args.condition.now) c.in_err-place.ensures.missing.1))

pub returns-in_err-names : goal.returns-in_err-names
unfolding delete_where_step
returns-in_err-names c =
    let p = err_from_is_err_and c.from_residual-in_err-names.result c.from_residual-in_err-names.ensures.1 in
    let there = is_there c.args.self.now.parts c.self.inside.schema c.self.inside.stores.items (messages_in c.self.inside.messages.items) c.args.replica c.in_ok-place.place c.index.result.now
    (parts_same c.self.view_is) c.in_ok-place.ensures.place c.in_ok-place.ensures.bound c.index.ensures in
    rw (p.1, p.2) (
      refl,
      elim c.in_err-names.ensures.read [
        | inl refused ↦ inl (where_refused c.args.self.now.parts c.self.inside.schema c.self.inside.stores.items (messages_in c.self.inside.messages.items) c.args.replica c.in_ok-place.place c.args.condition.now c.index.result.now c.in_err-names.field-0.0
            (parts_same c.self.view_is) c.in_ok-place.ensures.place c.in_ok-place.ensures.bound c.index.ensures refused)
        | inr lack ↦ inr (lack, there)
      ],
    )

pub returns-in_err-delete_all : goal.returns-in_err-delete_all
returns-in_err-delete_all c =
    let p = err_from_is_err_and c.from_residual-in_err-delete_all.result c.from_residual-in_err-delete_all.ensures.1 in
    let there = is_there c.args.self.now.parts c.self.inside.schema c.self.inside.stores.items (messages_in c.self.inside.messages.items) c.args.replica c.in_ok-place.place c.index_mut.result.now
    (parts_same c.self.view_is) c.in_ok-place.ensures.place c.in_ok-place.ensures.bound c.index_mut.ensures.value in
    let lack = only_memory c.index_mut.result.now.replica c.in_ok-names.names.items c.as_slice.result.now c.in_err-delete_all.field-0.0 c.in_ok-names.ensures.proper c.as_slice.ensures.value c.in_err-delete_all.ensures.acts.1 in
    rw (p.1, p.2) (
      store_left c.args.self.now c.self.inside.schema c.self.inside.stores.items c.self.inside.messages.items c.in_ok-place.place c.index_mut.result.now c.delete_all.new.self
          c.self.view_is c.index_mut.ensures.value c.in_err-delete_all.ensures.refused,
      inr (lack, there),
    )

pub returns : goal.returns
unfolding delete_where_step
returns c =
    let below = within c.args.self.now.parts c.self.inside.schema c.self.inside.stores.items (messages_in c.self.inside.messages.items) c.in_ok-place.place (parts_same c.self.view_is) c.in_ok-place.ensures.bound in
    let one : c.index.result.now ≡ c.index_mut.result.now = one_store c.self.inside.stores.items c.in_ok-place.place c.index.result.now c.index_mut.result.now below c.index.ensures c.index_mut.ensures.value in
    let counted : c.len.result ≡ length c.in_ok-names.names.items = c.len.ensures ∙ sym c.as_slice.ensures.len ∙ ap length c.as_slice.ensures.value in
    let finds : condition_names c.args.condition.now c.index_mut.result.now.replica.schema c.index_mut.result.now.replica.state ≡ Ok c.in_ok-names.names.items =
    subst (λ (s : StoreForm). condition_names c.args.condition.now s.replica.schema s.replica.state ≡ Ok c.in_ok-names.names.items) one c.in_ok-names.ensures.read in (
      call_done Deleted c.args.self.now.parts c.self.inside.schema c.self.inside.stores.items (messages_in c.self.inside.messages.items) c.args.replica c.in_ok-place.place (deleting c.args.condition.now) c.index_mut.result.now c.delete_all.new.self c.len.result
          (parts_same c.self.view_is) c.in_ok-place.ensures.place c.in_ok-place.ensures.bound c.index_mut.ensures.value
          (deleting_ok c.args.condition.now c.index_mut.result.now.replica c.delete_all.new.self.replica c.in_ok-names.names.items c.as_slice.result.now c.len.result tt finds c.as_slice.ensures.value counted c.in_ok-delete_all.ensures.acts),
      kept_at c.self.inside.schema c.self.inside.stores.items c.self.inside.messages.items c.in_ok-place.place c.index_mut.result.now c.delete_all.new.self c.args.self.now c.index_mut.ensures.value c.in_ok-delete_all.ensures.segments c.self.view_is,
    )
