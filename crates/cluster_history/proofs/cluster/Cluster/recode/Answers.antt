use Rattle.std.proofs.lemmas.Result.{err_from_is_err_and}
use Rattle.replica_store.specs.Replica.{recoded_rows}
use Rattle.cluster_history.specs.Cluster.{recode_step, done_reply}
use Rattle.cluster_history.specs.Message.{messages_in}
use Rattle.cluster_history.specs.declared.reply.Reply.TheVariants.{Done}
use Rattle.cluster_history.proofs.Codings.{recoded_at}
use Rattle.cluster_history.proofs.Forms.{nowhere, parts_same, stores_left}
use Rattle.cluster_history.proofs.Placed.{no_place}
use Rattle.cluster_history.proofs.Recodes.{recode_done, recode_refused, recode_left}
use Rattle.cluster_history.specs.declared.step.Step.TheVariants.{Recode}
use Rattle.cluster_history.proofs.cluster.Cluster.recode.Goals as goal

pub returns-in_err-place : goal.returns-in_err-place
unfolding recode_step
returns-in_err-place c =
    let p = err_from_is_err_and c.from_residual.result c.from_residual.ensures.1 in
    rw (p.1, p.2) (nowhere c.args.self.now (Recode c.args.replica c.args.name c.args.column c.args.vector c.args.coding) c.in_err-place.field-0.0 c.in_err-place.ensures.missing.0 (no_place done_reply c.args.self.now.parts c.args.replica (λ r. recoded_rows r c.args.name c.args.column c.args.vector) c.in_err-place.ensures.missing.1))

pub returns-in_err-recode_at : goal.returns-in_err-recode_at
returns-in_err-recode_at c =
    let p = err_from_is_err_and c.from_residual-in_err-recode_at.result c.from_residual-in_err-recode_at.ensures.1 in
    rw (p.1, p.2) (
      stores_left c.args.self.now c.self.inside.schema c.self.inside.stores.items c.as_mut_slice.result.now c.recode_at.new.stores c.self.inside.messages.items c.self.inside.stores.len
          c.self.view_is c.as_mut_slice.ensures.value c.self.inside.stores.ok.0
          (recode_left c.as_mut_slice.result.now c.recode_at.new.stores c.in_ok-place.place c.args.name c.args.column c.args.vector c.args.coding c.in_err-recode_at.field-0.0 c.in_err-recode_at.ensures),
      (recode_refused c.args.self.now.parts c.self.inside.schema c.self.inside.stores.items c.as_mut_slice.result.now c.recode_at.new.stores (messages_in c.self.inside.messages.items) c.self.inside.stores.len c.args.replica c.in_ok-place.place c.args.name c.args.column c.args.vector c.args.coding c.in_err-recode_at.field-0.0
          (parts_same c.self.view_is) c.as_mut_slice.ensures.value c.self.inside.stores.ok.0 c.in_ok-place.ensures.place c.in_ok-place.ensures.bound c.in_err-recode_at.ensures).1,
    )

pub returns : goal.returns
returns c = (
  recode_done c.args.self.now.parts c.self.inside.schema c.self.inside.stores.items c.as_mut_slice.result.now c.recode_at.new.stores (messages_in c.self.inside.messages.items) c.self.inside.stores.len c.args.replica c.in_ok-place.place c.args.name c.args.column c.args.vector c.args.coding c.in_ok-recode_at.field-0
      (parts_same c.self.view_is) c.as_mut_slice.ensures.value c.self.inside.stores.ok.0 c.in_ok-place.ensures.place c.in_ok-place.ensures.bound c.in_ok-recode_at.ensures,
  recoded_at c.self.inside.schema c.self.inside.stores.items c.as_mut_slice.result.now c.recode_at.new.stores c.self.inside.messages.items c.self.inside.stores.len c.args.replica c.in_ok-place.place c.args.name c.args.column c.args.vector c.args.coding c.in_ok-recode_at.field-0 Done c.args.self.now
      c.as_mut_slice.ensures.value c.self.inside.stores.ok.0 c.in_ok-recode_at.ensures c.self.view_is c.in_ok-place.ensures.place c.in_ok-place.ensures.bound,
)
