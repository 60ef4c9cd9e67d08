-- One batch more.
use Rattle.std.proofs.Common.{◌<◌, ◌+◌, List, refl, subst, ◌∙◌, arith}
use Rattle.table_model.specs.State.{Cells}
use Rattle.query_eval.specs.Grouping.{plan_mentions}
use Rattle.query_eval.specs.Kept.{where_mentions, rows_kept}
use Rattle.query_eval.specs.Taken.{AreTaken}
use Rattle.query_eval.specs.Vector.{batch_count}
use Rattle.query_eval.proofs.KeptSteps.{batch-more, passes-batch}
use Rattle.query_eval.proofs.Lifted.{first_alive, first_alive-all}
use Rattle.query_eval.proofs.TableLemmas.{kept-few}
use Rattle.query_eval.proofs.answers.taken_rows.take_rows.Goals as goal

pub loop-batch-init : goal.loop-batch-init
loop-batch-init g c = record {
  taken = c.in_ok-taken.ensures;
  table = refl;
  state = refl;
  passes = omega arith;
}

pub loop-batch-preserved : goal.loop-batch-preserved
loop-batch-preserved g c =
    let s = (g.C.Columns.seen c.args.columns.now).state in
    let table = (g.C.Columns.seen c.args.columns.now).table in
    let condition = c.args.condition.now in
    let plan = c.args.plan.now in
    let i = c.loop-batch.batch in
    let inv = c.loop-batch.invariant in
    let within : i < batch_count s = omega (arith, c.batches-batch-end.ensures.count) in
    record {
      taken = batch-more plan table _ condition s _ i c.take_batch.new.taken within inv.table inv.state (c.in_ok-take_batch.ensures.taken (rows_kept table condition (first_alive s i)) inv.taken);
      table = c.take_batch.ensures.same.table ∙ inv.table;
      state = c.take_batch.ensures.same.state ∙ inv.state;
      passes = passes-batch s _ i (where_mentions condition + plan_mentions plan) _ _ _ inv.state inv.passes c.in_ok-take_batch.ensures.passes;
    }

pub returns-clause-taken : goal.returns-clause-taken
returns-clause-taken g c =
    let s = (g.C.Columns.seen c.args.columns.now).state in
    let table = (g.C.Columns.seen c.args.columns.now).table in
    subst (λ (l : List Cells). AreTaken c.args.plan.now (rows_kept table c.args.condition.now l) c.loop-batch.taken) (first_alive-all s c.loop-batch.batch (omega (arith, c.batches-batch-end.ensures.count))) c.loop-batch.invariant.taken

pub returns-clause-few : goal.returns-clause-few
returns-clause-few g c = kept-few (g.C.Columns.seen c.args.columns.now).table c.args.condition.now (g.C.Columns.seen c.args.columns.now).state c.batches-batch-end.ensures.limits
