-- The rows that are taken in are those that the query keeps; each measure takes no more passes than the set functions that need it.
use Rattle.std.proofs.Common.{◌≡◌, ◌+◌, ◌*◌, ◌≤◌, List, Option, ap, ◌∙◌, subst}
use Rattle.table_model.specs.Formula.{Formula}
use Rattle.table_model.specs.Meaning.{rows_where}
use Rattle.table_model.specs.Query.{QueryShape}
use Rattle.table_model.specs.State.{Cells}
use Rattle.table_model.specs.Table.{Table}
use Rattle.query_eval.specs.Finished.{plan_of}
use Rattle.query_eval.specs.Grouping.{plan_mentions}
use Rattle.query_eval.specs.Kept.{rows_kept, rows_alive, where_mentions, live_vectors}
use Rattle.partial_answers.specs.Measures.{measured}
use Rattle.partial_answers.specs.PartialAnswer.{partial_answer_of, partial_answer_over}
use Rattle.partial_answers.proofs.FewerMentions.{fewer_passes}
use Rattle.partial_answers.proofs.GroupShapes.{asked_shape}
use Rattle.partial_answers.proofs.columns_partial_answer.partial_answer_groups.Goals as goal

pub returns-clause-value : goal.returns-clause-value
unfolding partial_answer_of rows_where
returns-clause-value g c =
    let table = (g.C.Columns.seen c.args.columns.now).table in
    let s = (g.C.Columns.seen c.args.columns.now).state in
    let query = c.args.query.now in
    let asked : c.in_ok-asked.asked ≡ plan_of table.columns query = c.in_ok-asked.ensures ∙ ap (λ (t : Table). plan_of t.columns query) c.schema.ensures in
    let plan : c.in_ok-plan.plan ≡ measured (plan_of table.columns query) = c.in_ok-plan.ensures ∙ ap measured asked in
    let same : c.query.inside.filter ≡ query.filter = cc (ap (λ (q : QueryShape). q.filter) c.query.view_is) in
    let rows : List Cells = rows_kept table c.query.inside.filter (rows_alive s) in
    let made = c.in_ok-groups.ensures.value table c.in_ok-plan.plan rows c.in_ok-taken.ensures.few c.in_ok-taken.ensures.taken in
    made ∙ (λ i. partial_answer_over (plan i) (rows_kept table (same i) (rows_alive s)))

pub returns-clause-shape : goal.returns-clause-shape
returns-clause-shape g c =
    let table = (g.C.Columns.seen c.args.columns.now).table in
    let query = c.args.query.now in
    let asked : c.in_ok-asked.asked ≡ plan_of table.columns query = c.in_ok-asked.ensures ∙ ap (λ (t : Table). plan_of t.columns query) c.schema.ensures in
    let plan : c.in_ok-plan.plan ≡ measured (plan_of table.columns query) = c.in_ok-plan.ensures ∙ ap measured asked in
    asked_shape table query c.in_ok-plan.plan _ plan (c.in_ok-groups.ensures.shape c.in_ok-plan.plan _ c.in_ok-taken.ensures.taken)

pub returns-clause-passes : goal.returns-clause-passes
returns-clause-passes g c =
    let table = (g.C.Columns.seen c.args.columns.now).table in
    let s = (g.C.Columns.seen c.args.columns.now).state in
    let query = c.args.query.now in
    let asked : c.in_ok-asked.asked ≡ plan_of table.columns query = c.in_ok-asked.ensures ∙ ap (λ (t : Table). plan_of t.columns query) c.schema.ensures in
    let plan : c.in_ok-plan.plan ≡ measured (plan_of table.columns query) = c.in_ok-plan.ensures ∙ ap measured asked in
    let same : c.query.inside.filter ≡ query.filter = cc (ap (λ (q : QueryShape). q.filter) c.query.view_is) in
    let after = subst (λ (f : Option Formula). (g.C.Columns.seen c.take_rows.new.columns).passes ≤ (g.C.Columns.seen c.args.columns.now).passes + (where_mentions f + plan_mentions c.in_ok-plan.plan) * live_vectors s) same c.in_ok-taken.ensures.passes in
    fewer_passes table query c.in_ok-plan.plan (live_vectors s) _ _ plan after
