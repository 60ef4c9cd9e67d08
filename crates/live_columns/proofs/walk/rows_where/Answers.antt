-- All batches have all live rows.
use Rattle.std.proofs.Common.{ℕ, List, ◌+◌, ◌*◌, ◌≤◌, IfOk, subst, arith}
use Rattle.std.specs.FinMap as finite
use Rattle.table_model.specs.State.{Cells}
use Rattle.table_model.specs.declared.names.RowName.{RowName}
use Rattle.query_eval.specs.Kept.{where_mentions}
use Rattle.live_columns.specs.Chosen.{IsChosen}
use Rattle.live_columns.proofs.BetweenSteps.{between-whole, passes-whole}
use Rattle.live_columns.proofs.walk.rows_where.Goals as goal

pub returns-clause-chosen : goal.returns-clause-chosen
returns-clause-chosen g c =
    let seen = g.C.Columns.seen c.args.columns.now in
    subst (λ (rows : List (RowName × Cells)). IfOk c.rows_between.result (λ chosen. IsChosen seen.state rows chosen))
    (between-whole seen.table c.args.condition.now seen.state c.batches.result (omega (arith, c.batches.ensures.count, finite.len-entries seen.state.batches))) c.rows_between.ensures.chosen

pub returns-clause-passes : goal.returns-clause-passes
returns-clause-passes g c =
    let seen = g.C.Columns.seen c.args.columns.now in
    subst (λ (n : ℕ). IfOk c.rows_between.result (λ _. (g.C.Columns.seen c.rows_between.new.columns).passes ≤ seen.passes + where_mentions c.args.condition.now * n))
    (passes-whole seen.state c.batches.result c.batches.ensures.count) c.rows_between.ensures.passes
