use Rattle.std.proofs.Common.{refl}
use Rattle.std.proofs.lemmas.Result.{err_from_is_err_and}
use Rattle.cluster_history.specs.Message.{messages_in}
use Rattle.cluster_history.proofs.Forms.{nowhere, parts_same}
use Rattle.cluster_history.proofs.Asked.{query_nowhere, query_done, query_refused}
use Rattle.cluster_history.specs.declared.step.Step.TheVariants.{Query}
use Rattle.cluster_history.proofs.cluster.Cluster.query.Goals as goal

pub returns-in_err-place : goal.returns-in_err-place
returns-in_err-place c =
    let p = err_from_is_err_and c.from_residual.result c.from_residual.ensures.1 in
    rw (p.1, p.2) (nowhere c.args.self.now (Query c.args.replica c.args.sql.now) c.in_err-place.field-0.0 c.in_err-place.ensures.missing.0 (query_nowhere c.args.self.now.parts c.args.replica c.args.sql.now c.in_err-place.ensures.missing.1))

pub returns-in_err-answer : goal.returns-in_err-answer
returns-in_err-answer c =
    let p = err_from_is_err_and c.from_residual-in_err-answer.result c.from_residual-in_err-answer.ensures.1 in
    rw (p.1, p.2) (
      refl,
      query_refused c.args.self.now.parts c.self.inside.schema c.self.inside.stores.items (messages_in c.self.inside.messages.items) c.args.replica c.in_ok-place.place c.args.sql.now c.index.result.now c.in_err-answer.field-0.0
          (parts_same c.self.view_is) c.in_ok-place.ensures.place c.in_ok-place.ensures.bound c.index.ensures c.in_err-answer.ensures.read,
    )

pub returns : goal.returns
returns c = (
  query_done c.args.self.now.parts c.self.inside.schema c.self.inside.stores.items (messages_in c.self.inside.messages.items) c.args.replica c.in_ok-place.place c.args.sql.now c.index.result.now c.in_ok-answer.answer
      (parts_same c.self.view_is) c.in_ok-place.ensures.place c.in_ok-place.ensures.bound c.index.ensures c.in_ok-answer.ensures.read,
  refl,
)
