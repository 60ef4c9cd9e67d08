-- The measures of a query mention columns no more often than its set functions.
use Rattle.std.proofs.Common.{◌≡◌, ℕ, ◌+◌, ◌*◌, ◌≤◌, true, false, cond, List, [], ◌∷◌, ◌++◌, map, fold, sum_by, refl, subst, arith}
use Rattle.std.specs.List.{list_any}
use Rattle.std.proofs.lemmas.List.Sums.{sum_by-cons, sum_by-append}
use Rattle.std.proofs.Math.Nat.{mul-le-mul_right}
use Rattle.table_model.specs.Query.{QueryShape}
use Rattle.table_model.specs.Table.{Table}
use Rattle.table_model.specs.declared.query.Fold.TheVariants.{Count, Sum, Avg, Min, Max}
use Rattle.query_eval.specs.Aggregate.{same_aggregate}
use Rattle.query_eval.specs.Finished.{PlanShape, plan_of}
use Rattle.query_eval.specs.Grouping.{plan_mentions}
use Rattle.query_eval.specs.Kept.{where_mentions}
use Rattle.query_eval.specs.QueryMentions.{aggregate_mentions, query_mentions}
use Rattle.query_eval.specs.declared.tallies.aggregate.Aggregate.{Aggregate}
use Rattle.query_eval.specs.declared.tallies.aggregate.Aggregate.TheVariants.{Rows, Folded}
use Rattle.query_eval.proofs.AnswerLemmas.{passes-answer}
use Rattle.partial_answers.specs.Measures.{measure_of, with_measure, measures_of, measured}

abbrev mentions : List Aggregate → ℕ
mentions aggregates = sum_by aggregate_mentions aggregates

same_mention : (a : Aggregate) → aggregate_mentions (measure_of a) ≡ aggregate_mentions a
same_mention Rows = refl
same_mention (Folded fold true place) = refl
same_mention (Folded Count false place) = refl
same_mention (Folded Sum false place) = refl
same_mention (Folded Avg false place) = refl
same_mention (Folded Min false place) = refl
same_mention (Folded Max false place) = refl

one_more : (measures : List Aggregate) (m : Aggregate) → mentions (with_measure measures m) ≤ mentions measures + aggregate_mentions m
one_more measures m =
    elim (list_any (same_aggregate m) measures) as (λ b. mentions (cond b measures (measures ++ m ∷ [])) ≤ mentions measures + aggregate_mentions m) [
      | true ↦ omega arith
      | false ↦ omega (arith, sum_by-append aggregate_mentions measures (m ∷ []), sum_by-cons aggregate_mentions m [])
    ]

fewer : (rest measures : List Aggregate) → mentions (fold with_measure measures (map measure_of rest)) ≤ mentions measures + mentions rest
fewer [] measures = omega arith
fewer (a ∷ rest) measures = omega (arith, fewer rest (with_measure measures (measure_of a)), one_more measures (measure_of a), same_mention a, sum_by-cons aggregate_mentions a rest)

measures_fewer : (aggregates : List Aggregate) → mentions (measures_of aggregates) ≤ mentions aggregates
unfolding measures_of
measures_fewer aggregates = omega (arith, fewer aggregates (Rows ∷ []), sum_by-cons aggregate_mentions Rows [])

wider : (p q a b live : ℕ) → a ≤ b → q ≤ p + a * live → q ≤ p + b * live
wider p q a b live h k = omega (arith, k, mul-le-mul_right live h)

pub fewer_passes : (table : Table) (query : QueryShape) (plan : PlanShape) (live p q : ℕ) → plan ≡ measured (plan_of table.columns query) → q ≤ p + (where_mentions query.filter + plan_mentions plan) * live → q ≤ p + query_mentions query * live
fewer_passes table query plan live p q is h =
    let whole = plan_of table.columns query in
    let here : q ≤ p + (where_mentions query.filter + plan_mentions (measured whole)) * live = subst (λ (x : PlanShape). q ≤ p + (where_mentions query.filter + plan_mentions x) * live) is h in
    passes-answer table query whole live p q refl
    (wider p q (where_mentions query.filter + plan_mentions (measured whole)) (where_mentions query.filter + plan_mentions whole) live (omega (arith, measures_fewer whole.aggregates)) here)
