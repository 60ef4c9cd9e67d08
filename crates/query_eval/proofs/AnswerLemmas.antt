-- The answer of the groups of the rows that are kept.
use Rattle.std.proofs.Common.{◌≡◌, ℕ, ◌+◌, ◌*◌, ◌≤◌, List, sym, ap, ◌∙◌, subst, arith}
use Rattle.std.proofs.Math.Nat.{mul-le-mul_left}
use Rattle.table_model.specs.Answer.{AnswerParts}
use Rattle.table_model.specs.Meaning.{answer_over, answer_of, rows_where}
use Rattle.table_model.specs.Query.{QueryShape}
use Rattle.table_model.specs.State.{Cells, State}
use Rattle.table_model.specs.Table.{Table}
use Rattle.query_eval.specs.Finished.{GroupFields, PlanShape, finished_by, finished_groups, plan_of}
use Rattle.query_eval.specs.Once.{asked_once, groups_over}
use Rattle.query_eval.specs.Kept.{rows_alive, rows_kept, where_mentions}
use Rattle.query_eval.specs.Grouping.{plan_mentions}
use Rattle.query_eval.specs.QueryMentions.{query_mentions}
use Rattle.query_eval.proofs.MentionLemmas.{mentions-within}

pub answered : (table u : Table) (s : State) (query : QueryShape) (answer : AnswerParts) (groups : List GroupFields) (rows : List Cells) (plan : PlanShape) → u ≡ table → plan ≡ asked_once table.columns query → rows ≡ rows_kept table query.filter (rows_alive s) → groups ≡ finished_groups plan.aggregates plan.grouping rows → ((all : List Cells) → groups ≡ groups_over u query all → answer ≡ answer_over u query all) → answer ≡ answer_of table query s
unfolding answer_of rows_where
answered table u s query answer groups rows plan t p r e over =
    let here : groups ≡ groups_over table query (rows_alive s) =
    e ∙ ap (λ (x : PlanShape). finished_groups x.aggregates x.grouping rows) p ∙ ap (finished_by (asked_once table.columns query)) r in
    over (rows_alive s) (here ∙ ap (λ (x : Table). groups_over x query (rows_alive s)) (sym t))
    ∙ ap (λ (x : Table). answer_over x query (rows_alive s)) t

pub passes-answer : (table : Table) (query : QueryShape) (plan : PlanShape) (live p q : ℕ) → plan ≡ plan_of table.columns query → q ≤ p + (where_mentions query.filter + plan_mentions plan) * live → q ≤ p + query_mentions query * live
passes-answer table query plan live p q e h =
    let after = subst (λ (x : PlanShape). q ≤ p + (where_mentions query.filter + plan_mentions x) * live) e h in
    omega (arith, mul-le-mul_left live (mentions-within table.columns query), after)
