use Rattle.std.proofs.Common.{refl}
use Rattle.std.proofs.lemmas.Result.{err_from_is_err_and}
use Rattle.cluster_history.specs.Message.{messages_in}
use Rattle.cluster_history.proofs.Asked.{export_nowhere, export_done, export_refused}
use Rattle.cluster_history.proofs.Forms.{nowhere, parts_same}
use Rattle.cluster_history.specs.declared.step.Step.TheVariants.{Export}
use Rattle.cluster_history.proofs.cluster.Cluster.export.Goals as goal

pub returns-in_err-place : goal.returns-in_err-place
returns-in_err-place c =
    let p = err_from_is_err_and c.from_residual.result c.from_residual.ensures.1 in
    rw (p.1, p.2) (nowhere c.args.self.now (Export c.args.replica) c.in_err-place.field-0.0 c.in_err-place.ensures.missing.0 (export_nowhere c.args.self.now.parts c.args.replica c.in_err-place.ensures.missing.1))

pub returns-in_err-file : goal.returns-in_err-file
returns-in_err-file c =
    let p = err_from_is_err_and c.from_residual-in_err-file.result c.from_residual-in_err-file.ensures.1 in
    rw (p.1, p.2) (
      refl,
      export_refused c.args.self.now.parts c.self.inside.schema c.self.inside.stores.items (messages_in c.self.inside.messages.items) c.args.replica c.in_ok-place.place c.index.result.now c.in_err-file.field-0.0
          (parts_same c.self.view_is) c.in_ok-place.ensures.place c.in_ok-place.ensures.bound c.index.ensures c.in_err-file.ensures,
    )

pub returns : goal.returns
returns c = (
  export_done c.args.self.now.parts c.self.inside.schema c.self.inside.stores.items (messages_in c.self.inside.messages.items) c.args.replica c.in_ok-place.place c.index.result.now c.in_ok-file.file
      (parts_same c.self.view_is) c.in_ok-place.ensures.place c.in_ok-place.ensures.bound c.index.ensures c.in_ok-file.ensures,
  refl,
)
