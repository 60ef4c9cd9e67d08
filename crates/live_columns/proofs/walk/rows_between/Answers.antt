-- One batch more.
use Rattle.std.proofs.Common.{◌≡◌, ◌<◌, ◌+◌, ◌-◌, ◌≤◌, ℕ, min, length, drop, count_by, sum_by, sym, ap, subst, refl, ◌∙◌, arith}
use Rattle.std.specs.FinMap as finite
use Rattle.std.proofs.lemmas.List.{length-drop}
use Rattle.table_model.specs.State.{State}
use Rattle.query_eval.specs.Kept.{where_mentions}
use Rattle.query_eval.specs.Vector.{batch_count}
use Rattle.query_eval.specs.declared.filter.kept_rows.KeptVector.{KeptVector}
use Rattle.live_columns.specs.Chosen.{AreThere}
use Rattle.live_columns.proofs.BetweenSteps.{between-chosen, between-count, between-few, between-step, passes-between, passes-least}
use Rattle.live_columns.proofs.walk.rows_between.Goals as goal

pub loop-step-preserved : goal.loop-step-preserved
loop-step-preserved g c =
    let s = (g.C.Columns.seen c.args.columns.now).state in
    let table = (g.C.Columns.seen c.args.columns.now).table in
    let first : ℕ = c.args.batches.first in
    let k : ℕ = c.loop-step.step in
    let inv = c.loop-step.invariant in
    let within : first + k < batch_count s = omega (arith, c.batches.ensures.count, c.saturating_sub-left.ensures, c.min-step-end.ensures, c.loop-step-test.true) in
    record {
      rows = between-step table _ c.args.condition.now s _ first k (first + k) c.loop-step.vectors.items c.push_batch.new.vectors.items within refl inv.table inv.state inv.rows c.in_ok-push_batch.ensures.rows;
      most = omega (arith, c.min-step-end.ensures, c.loop-step-test.true);
      there = subst (λ (x : State). AreThere x c.push_batch.new.vectors.items) inv.state (c.in_ok-push_batch.ensures.there (subst (λ (x : State). AreThere x c.loop-step.vectors.items) (sym inv.state) inv.there));
      table = c.push_batch.ensures.same.table ∙ inv.table;
      state = c.push_batch.ensures.same.state ∙ inv.state;
      passes = passes-between s _ first k (where_mentions c.args.condition.now) _ _ _ inv.state inv.passes c.in_ok-push_batch.ensures.passes;
    }

pub count_rows-count-requires : goal.count_rows-count-requires
count_rows-count-requires g c =
    let s = (g.C.Columns.seen c.args.columns.now).state in
    let table = (g.C.Columns.seen c.args.columns.now).table in
    let rows : KeptVector → ℕ = λ kept. count_by (λ row. row) kept.rows in
    omega (
      arith,
      ap (sum_by rows) c.as_slice.ensures.value,
      between-count table c.args.condition.now s c.loop-step.vectors.items c.args.batches.first c.loop-step.step c.loop-step.invariant.there c.loop-step.invariant.rows,
      between-few table c.args.condition.now s c.args.batches.first c.loop-step.step c.batches.ensures.limits,
    )

pub returns-clause-chosen : goal.returns-clause-chosen
returns-clause-chosen g c =
    let s = (g.C.Columns.seen c.args.columns.now).state in
    let table = (g.C.Columns.seen c.args.columns.now).table in
    let first : ℕ = c.args.batches.first in
    let left : ℕ = c.saturating_sub-left.result in
    let rows : KeptVector → ℕ = λ kept. count_by (λ row. row) kept.rows in
    let is : left ≡ length (drop first (finite.entries s.batches)) = omega (arith, c.batches.ensures.count, c.saturating_sub-left.ensures, length-drop first (finite.entries s.batches)) in
    let least : c.loop-step.step ≡ min c.args.batches.count left = omega (arith, c.min-step-end.ensures, c.loop-step-test.false, c.loop-step.invariant.most) in
    between-chosen table c.args.condition.now s c.loop-step.vectors first c.args.batches.count left c.loop-step.step c.count_rows-count.result c.batches.ensures.limits is least c.loop-step.invariant.there c.loop-step.invariant.rows
    (c.count_rows-count.ensures ∙ ap (sum_by rows) c.as_slice.ensures.value)

pub returns-clause-passes : goal.returns-clause-passes
returns-clause-passes g c =
    let s = (g.C.Columns.seen c.args.columns.now).state in
    let least : c.loop-step.step ≡ min c.args.batches.count c.saturating_sub-left.result = omega (arith, c.min-step-end.ensures, c.loop-step-test.false, c.loop-step.invariant.most) in
    passes-least s c.args.batches.first c.args.batches.count c.saturating_sub-left.result c.loop-step.step (where_mentions c.args.condition.now) _ _ least c.loop-step.invariant.passes
