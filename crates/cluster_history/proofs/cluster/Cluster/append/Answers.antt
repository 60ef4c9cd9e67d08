use Rattle.std.proofs.Common.{refl, ◌≡◌, subst}
use Rattle.std.proofs.lemmas.Result.{err_from_is_err_and}
use Rattle.replica_store.specs.Replica.{appended}
use Rattle.replica_store.specs.Segments.{StoreForm, rows_in}
use Rattle.cluster_history.specs.Cluster.{append_step}
use Rattle.cluster_history.specs.declared.reply.Reply.TheVariants.{Named}
use Rattle.cluster_history.specs.Message.{messages_in}
use Rattle.cluster_history.proofs.Codings.{append_at}
use Rattle.cluster_history.proofs.Forms.{nowhere, parts_same, store_left}
use Rattle.cluster_history.proofs.Opened.{one_store, within}
use Rattle.cluster_history.proofs.Placed.{no_place, call_done, call_refused}
use Rattle.cluster_history.specs.declared.step.Step.TheVariants.{Append}
use Rattle.cluster_history.proofs.cluster.Cluster.append.Goals as goal

pub returns-in_err-place : goal.returns-in_err-place
unfolding append_step
returns-in_err-place c =
    let p = err_from_is_err_and c.from_residual.result c.from_residual.ensures.1 in
    rw (p.1, p.2) (nowhere c.args.self.now (Append c.args.replica c.args.rows.now) c.in_err-place.field-0.0 c.in_err-place.ensures.missing.0 (no_place Named c.args.self.now.parts c.args.replica (λ r. appended r c.args.rows.now) c.in_err-place.ensures.missing.1))

pub returns-in_err-name : goal.returns-in_err-name
unfolding append_step
returns-in_err-name c =
    let p = err_from_is_err_and c.from_residual-in_err-name.result c.from_residual-in_err-name.ensures.1 in
    rw (p.1, p.2) (
      store_left c.args.self.now c.self.inside.schema c.self.inside.stores.items c.self.inside.messages.items c.in_ok-place.place c.index_mut.result.now c.append.new.self
          c.self.view_is c.index_mut.ensures.value c.in_err-name.ensures.refused,
      (call_refused Named c.args.self.now.parts c.self.inside.schema c.self.inside.stores.items (messages_in c.self.inside.messages.items) c.args.replica c.in_ok-place.place (λ r. appended r c.args.rows.now) c.index_mut.result.now c.append.new.self c.in_err-name.field-0.0
          (parts_same c.self.view_is) c.in_ok-place.ensures.place c.in_ok-place.ensures.bound c.index_mut.ensures.value c.in_err-name.ensures.refused c.in_err-name.ensures.acts).1,
    )

pub returns : goal.returns
unfolding append_step
returns c =
    let below = within c.args.self.now.parts c.self.inside.schema c.self.inside.stores.items (messages_in c.self.inside.messages.items) c.in_ok-place.place (parts_same c.self.view_is) c.in_ok-place.ensures.bound in
    let one : c.index.result.now ≡ c.index_mut.result.now = one_store c.self.inside.stores.items c.in_ok-place.place c.index.result.now c.index_mut.result.now below c.index.ensures c.index_mut.ensures.value in
    let own : c.index_mut.result.now.replica.state.batches ≡ rows_in c.index_mut.result.now.segments = subst (λ (s : StoreForm). s.replica.state.batches ≡ rows_in s.segments) one c.shows_its_segments.ensures in (
      call_done Named c.args.self.now.parts c.self.inside.schema c.self.inside.stores.items (messages_in c.self.inside.messages.items) c.args.replica c.in_ok-place.place (λ r. appended r c.args.rows.now) c.index_mut.result.now c.append.new.self c.in_ok-name.name
          (parts_same c.self.view_is) c.in_ok-place.ensures.place c.in_ok-place.ensures.bound c.index_mut.ensures.value c.in_ok-name.ensures.acts,
      (
        c.in_ok-name.name,
        refl,
        append_at c.self.inside.schema c.self.inside.stores.items c.self.inside.messages.items c.args.replica c.in_ok-place.place c.index_mut.result.now c.append.new.self c.in_ok-name.name c.args.rows.now c.args.self.now
            c.index_mut.ensures.value own c.in_ok-name.ensures.acts c.in_ok-name.ensures.segments c.self.view_is c.in_ok-place.ensures.place c.in_ok-place.ensures.bound,
      ),
    )
