-- The rows that are taken in are those that the query keeps; each mention takes its passes.
use Rattle.std.proofs.Common.{◌≡◌, ◌+◌, ◌*◌, ◌≤◌, List, Option, ap, ◌∙◌, subst}
use Rattle.table_model.specs.Formula.{Formula}
use Rattle.table_model.specs.Query.{QueryShape}
use Rattle.table_model.specs.State.{Cells}
use Rattle.table_model.specs.Table.{Table}
use Rattle.query_eval.specs.Finished.{PlanShape, plan_of}
use Rattle.query_eval.specs.Once.{asked_once, once_plan}
use Rattle.query_eval.specs.Grouping.{plan_mentions}
use Rattle.query_eval.specs.Kept.{rows_kept, rows_alive, where_mentions, live_vectors}
use Rattle.query_eval.proofs.AnswerLemmas.{answered}
use Rattle.query_eval.proofs.answers.query_answer.answer.Goals as goal

pub returns-clause-value : goal.returns-clause-value
returns-clause-value g c =
    let table = (g.C.Columns.seen c.args.columns.now).table in
    let s = (g.C.Columns.seen c.args.columns.now).state in
    let query = c.args.query.now in
    let plan : c.in_ok-plan.plan ≡ asked_once table.columns query = c.in_ok-plan.ensures ∙ ap once_plan (c.in_ok-asked.ensures ∙ ap (λ (t : Table). plan_of t.columns query) c.schema.ensures) in
    let same_table = c.schema-2.ensures ∙ c.take_rows.ensures.same.table in
    let same : c.query.inside.filter ≡ query.filter = cc (ap (λ (q : QueryShape). q.filter) c.query.view_is) in
    let rows : List Cells = rows_kept table c.query.inside.filter (rows_alive s) in
    let groups = c.in_ok-finished.ensures table rows c.in_ok-taken.ensures.few c.in_ok-taken.ensures.taken in
    answered table _ s query c.in_ok-answer.answer c.as_slice.result.now rows c.in_ok-plan.plan same_table plan (ap (λ (f : Option Formula). rows_kept table f (rows_alive s)) same) (c.as_slice.ensures.value ∙ groups) c.in_ok-answer.ensures

pub returns-clause-passes : goal.returns-clause-passes
returns-clause-passes g c =
    let table = (g.C.Columns.seen c.args.columns.now).table in
    let s = (g.C.Columns.seen c.args.columns.now).state in
    let plan : c.in_ok-plan.plan ≡ asked_once table.columns c.args.query.now = c.in_ok-plan.ensures ∙ ap once_plan (c.in_ok-asked.ensures ∙ ap (λ (t : Table). plan_of t.columns c.args.query.now) c.schema.ensures) in
    let same : c.query.inside.filter ≡ c.args.query.now.filter = cc (ap (λ (q : QueryShape). q.filter) c.query.view_is) in
    let after = subst (λ (f : Option Formula). (g.C.Columns.seen c.take_rows.new.columns).passes ≤ (g.C.Columns.seen c.args.columns.now).passes + (where_mentions f + plan_mentions c.in_ok-plan.plan) * live_vectors s) same c.in_ok-taken.ensures.passes in
    subst (λ (x : PlanShape). (g.C.Columns.seen c.take_rows.new.columns).passes ≤ (g.C.Columns.seen c.args.columns.now).passes + (where_mentions c.args.query.now.filter + plan_mentions x) * live_vectors s) plan after
