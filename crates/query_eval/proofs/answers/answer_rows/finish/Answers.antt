-- The finished groups of the rows that WHERE keeps give the rows of the groups, also where what is named twice is asked once.
use Rattle.std.proofs.Common.{List, map, filter, ap, ◌∙◌}
use Rattle.table_model.specs.Meaning.{answer_over, groups_having, is_kept, rows_where}
use Rattle.table_model.specs.Query.{QueryShape}
use Rattle.query_eval.specs.Finished.{GroupFields, PlanShape, finished_groups, seen_item, seen_operand}
use Rattle.query_eval.proofs.OnceGroups.{rows_once}
use Rattle.query_eval.proofs.answers.answer_rows.finish.Goals as goal

pub returns : goal.returns
unfolding answer_over groups_having finished_groups
returns c = λ rows is.
    let columns = c.args.schema.now.columns in
    let query = c.args.query.now in
    let selected = λ (q : QueryShape) (plan : PlanShape) (groups : List GroupFields). map (λ group. map (λ item. seen_item columns plan group item.value) q.items) (filter (λ group. is_kept q.having (seen_operand columns plan group)) groups) in
    let given =
    c.in_ok-answer.ensures.rows
    ∙ ap (λ (plan : PlanShape). selected query plan c.args.groups.now) c.requires
    ∙ ap (selected query _) is
    ∙ rows_once columns query (rows_where columns query rows) in
    λ i. record { heading = c.in_ok-answer.ensures.heading i; rows = given i }
