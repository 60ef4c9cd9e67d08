use Rattle.std.proofs.Common.{◌≡◌, ◌∙◌, ap, refl, inl, inr}
use Rattle.std.proofs.lemmas.Result.{err_from_is_err_and}
use Rattle.column_file.specs.Files.{canonical_read}
use Rattle.replica_store.specs.Segments.{StoreForm}
use Rattle.cluster_history.specs.Cluster.{open_step, opening, done_reply}
use Rattle.cluster_history.specs.Message.{messages_in}
use Rattle.cluster_history.specs.declared.reply.Reply.TheVariants.{Done}
use Rattle.cluster_history.proofs.Codings.{opened_at}
use Rattle.cluster_history.proofs.Forms.{nowhere, parts_same, store_left}
use Rattle.cluster_history.proofs.Asked.{is_there}
use Rattle.cluster_history.proofs.Placed.{no_place, call_done, call_refused}
use Rattle.cluster_history.proofs.Opened.{opening_ok, opening_acts, one_store, within, open_refused}
use Rattle.cluster_history.specs.declared.step.Step.TheVariants.{Open}
use Rattle.cluster_history.proofs.cluster.Cluster.open.Goals as goal

pub returns-in_err-place : goal.returns-in_err-place
unfolding open_step
returns-in_err-place c =
    let p = err_from_is_err_and c.from_residual.result c.from_residual.ensures.1 in
    rw (p.1, p.2) (nowhere c.args.self.now (Open c.args.replica c.args.file.now) c.in_err-place.field-0.0 c.in_err-place.ensures.missing.0 (no_place done_reply c.args.self.now.parts c.args.replica (opening (canonical_read c.args.file.now)) c.in_err-place.ensures.missing.1))

pub returns-in_err-opened : goal.returns-in_err-opened
unfolding open_step
returns-in_err-opened c =
    let p = err_from_is_err_and c.from_residual-in_err-opened.result c.from_residual-in_err-opened.ensures.1 in
    let there = is_there c.args.self.now.parts c.self.inside.schema c.self.inside.stores.items (messages_in c.self.inside.messages.items) c.args.replica c.in_ok-place.place c.index.result.now
    (parts_same c.self.view_is) c.in_ok-place.ensures.place c.in_ok-place.ensures.bound c.index.ensures in
    rw (p.1, p.2) (
      refl,
      elim c.in_err-opened.ensures.refused [
        | inl refused ↦ inl (open_refused c.args.self.now.parts c.self.inside.schema c.self.inside.stores.items (messages_in c.self.inside.messages.items) c.args.replica c.in_ok-place.place c.index.result.now c.own.result c.args.file.now c.in_err-opened.field-0.0
            (parts_same c.self.view_is) c.in_ok-place.ensures.place c.in_ok-place.ensures.bound c.index.ensures c.own.ensures.proper refused)
        | inr lack ↦ inr (lack, there)
      ],
    )

pub returns-in_err-merge : goal.returns-in_err-merge
unfolding open_step
returns-in_err-merge c =
    let p = err_from_is_err_and c.from_residual-in_err-merge.result c.from_residual-in_err-merge.ensures.1 in
    let below = within c.args.self.now.parts c.self.inside.schema c.self.inside.stores.items (messages_in c.self.inside.messages.items) c.in_ok-place.place (parts_same c.self.view_is) c.in_ok-place.ensures.bound in
    let one : c.index.result.now ≡ c.index_mut.result.now = one_store c.self.inside.stores.items c.in_ok-place.place c.index.result.now c.index_mut.result.now below c.index.ensures c.index_mut.ensures.value in
    let own : c.own.result ≡ c.index_mut.result.now.replica.own = c.own.ensures.value ∙ ap (λ (s : StoreForm). s.replica.own) one in
    let q = call_refused done_reply c.args.self.now.parts c.self.inside.schema c.self.inside.stores.items (messages_in c.self.inside.messages.items) c.args.replica c.in_ok-place.place (opening (canonical_read c.args.file.now)) c.index_mut.result.now c.merge.new.self c.in_err-merge.field-0.0
    (parts_same c.self.view_is) c.in_ok-place.ensures.place c.in_ok-place.ensures.bound c.index_mut.ensures.value c.in_err-merge.ensures.refused
    (opening_acts c.own.result c.args.file.now c.index_mut.result.now.replica c.in_ok-opened.opened.replica c.merge.new.self.replica c.in_err-merge.field-0.0 c.own.ensures.proper own c.in_ok-opened.ensures.made c.in_err-merge.ensures.acts) in
    let there = is_there c.args.self.now.parts c.self.inside.schema c.self.inside.stores.items (messages_in c.self.inside.messages.items) c.args.replica c.in_ok-place.place c.index_mut.result.now
    (parts_same c.self.view_is) c.in_ok-place.ensures.place c.in_ok-place.ensures.bound c.index_mut.ensures.value in
    rw (p.1, p.2) (
      store_left c.args.self.now c.self.inside.schema c.self.inside.stores.items c.self.inside.messages.items c.in_ok-place.place c.index_mut.result.now c.merge.new.self
          c.self.view_is c.index_mut.ensures.value c.in_err-merge.ensures.refused,
      elim q.1 [ inl refused ↦ inl refused | inr lack ↦ inr (lack.0, there) ],
    )

pub returns : goal.returns
unfolding open_step
returns c =
    let below = within c.args.self.now.parts c.self.inside.schema c.self.inside.stores.items (messages_in c.self.inside.messages.items) c.in_ok-place.place (parts_same c.self.view_is) c.in_ok-place.ensures.bound in
    let one : c.index.result.now ≡ c.index_mut.result.now = one_store c.self.inside.stores.items c.in_ok-place.place c.index.result.now c.index_mut.result.now below c.index.ensures c.index_mut.ensures.value in
    let own : c.own.result ≡ c.index_mut.result.now.replica.own = c.own.ensures.value ∙ ap (λ (s : StoreForm). s.replica.own) one in (
      call_done done_reply c.args.self.now.parts c.self.inside.schema c.self.inside.stores.items (messages_in c.self.inside.messages.items) c.args.replica c.in_ok-place.place (opening (canonical_read c.args.file.now)) c.index_mut.result.now c.merge.new.self tt
          (parts_same c.self.view_is) c.in_ok-place.ensures.place c.in_ok-place.ensures.bound c.index_mut.ensures.value
          (opening_ok c.own.result c.args.file.now c.index_mut.result.now.replica c.in_ok-opened.opened.replica c.own.ensures.proper own c.in_ok-opened.ensures.made ∙ c.in_ok-merge.ensures.acts),
      opened_at c.self.inside.schema c.self.inside.stores.items c.self.inside.messages.items c.args.replica c.in_ok-place.place c.index_mut.result.now c.merge.new.self c.own.result c.args.file.now c.in_ok-opened.opened Done c.args.self.now
          c.index_mut.ensures.value c.own.ensures.proper c.in_ok-opened.ensures.made c.in_ok-opened.ensures.segments c.in_ok-merge.ensures.segments c.self.view_is c.in_ok-place.ensures.place c.in_ok-place.ensures.bound,
    )
