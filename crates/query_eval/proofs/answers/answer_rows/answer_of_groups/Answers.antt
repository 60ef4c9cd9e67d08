-- The heading's texts and the rows are those of the query.
use Rattle.std.proofs.Common.{List, map, filter, ap, ◌∙◌}
use Rattle.table_model.specs.Meaning.{is_kept, item_text}
use Rattle.table_model.specs.Query.{QueryShape}
use Rattle.table_model.specs.declared.query.Item.{Item}
use Rattle.query_eval.specs.Finished.{GroupFields, PlanShape, seen_item, seen_operand}
use Rattle.query_eval.proofs.answers.answer_rows.answer_of_groups.Goals as goal

pub returns-clause-heading : goal.returns-clause-heading
returns-clause-heading c = c.new.ensures.heading ∙ c.in_ok-texts.ensures ∙ ap (map item_text) c.as_slice.ensures.value ∙ ap (λ (q : QueryShape). map item_text q.items) c.query.view_is

pub returns-clause-rows : goal.returns-clause-rows
returns-clause-rows c =
    let columns = c.args.schema.now.columns in
    let selected = λ (q : QueryShape) (plan : PlanShape) (groups : List GroupFields). map (λ group. map (λ item. seen_item columns plan group item.value) q.items) (filter (λ group. is_kept q.having (seen_operand columns plan group)) groups) in
    c.new.ensures.rows ∙ c.in_ok-rows.ensures
    ∙ ap (λ (items : List Item). map (λ group. map (λ item. seen_item columns c.args.plan.now group item.value) items) (filter (λ group. is_kept c.query.inside.having (seen_operand columns c.args.plan.now group)) c.args.groups.now)) c.as_slice-2.ensures.value
    ∙ ap (λ (q : QueryShape). selected q c.args.plan.now c.args.groups.now) c.query.view_is
