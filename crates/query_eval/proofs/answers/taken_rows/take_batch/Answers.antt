-- One vector more.
use Rattle.std.proofs.Common.{◌<◌, ◌+◌, ◌++◌, List, refl, sym, subst, ◌∙◌, arith, append-nil}
use Rattle.table_model.specs.State.{Cells}
use Rattle.query_eval.specs.Grouping.{plan_mentions}
use Rattle.query_eval.specs.Kept.{where_mentions}
use Rattle.query_eval.specs.Taken.{AreTaken}
use Rattle.query_eval.specs.Vector.{vector_count}
use Rattle.query_eval.proofs.KeptSteps.{vector-more, passes-more}
use Rattle.query_eval.proofs.Lifted.{front_kept, front_kept-all}
use Rattle.query_eval.proofs.answers.taken_rows.take_batch.Goals as goal

pub loop-vector-init : goal.loop-vector-init
loop-vector-init g c = record {
  taken = λ rows h. subst (λ (l : List Cells). AreTaken c.args.plan.now l c.args.taken.now) (sym (append-nil rows)) h;
  table = refl;
  state = refl;
  passes = omega arith;
}

pub loop-vector-preserved : goal.loop-vector-preserved
loop-vector-preserved g c =
    let s = (g.C.Columns.seen c.args.columns.now).state in
    let table = (g.C.Columns.seen c.args.columns.now).table in
    let condition = c.args.condition.now in
    let plan = c.args.plan.now in
    let batch = c.args.batch in
    let i = c.loop-vector.vector in
    let inv = c.loop-vector.invariant in
    let within : i < vector_count s batch = omega (arith, c.vectors-vector-end.ensures) in
    record {
      taken = λ rows h. vector-more plan table _ condition s _ batch i c.take_vector.new.taken within inv.table inv.state rows (c.in_ok-take_vector.ensures.taken (rows ++ front_kept table condition s batch i) (inv.taken rows h));
      table = c.take_vector.ensures.same.table ∙ inv.table;
      state = c.take_vector.ensures.same.state ∙ inv.state;
      passes = passes-more s _ batch i (where_mentions condition + plan_mentions plan) _ _ _ inv.state inv.passes c.in_ok-take_vector.ensures.passes;
    }

pub returns-clause-taken : goal.returns-clause-taken
returns-clause-taken g c = λ rows h.
    let s = (g.C.Columns.seen c.args.columns.now).state in
    let table = (g.C.Columns.seen c.args.columns.now).table in
    subst (λ (l : List Cells). AreTaken c.args.plan.now (rows ++ l) c.loop-vector.taken) (front_kept-all table c.args.condition.now s c.args.batch c.loop-vector.vector (omega (arith, c.vectors-vector-end.ensures))) (c.loop-vector.invariant.taken rows h)
