-- A vector without a kept row adds none, and of another the kept rows are taken in.
use Rattle.std.proofs.Common.{◌≡◌, ◌++◌, List, Bool, true, subst}
use Rattle.table_model.specs.State.{State}
use Rattle.query_eval.specs.Grouping.{plan_mentions}
use Rattle.query_eval.specs.Kept.{where_mentions, has_live, rows_at}
use Rattle.query_eval.specs.Taken.{AreTaken}
use Rattle.query_eval.specs.Vector.{vector_at}
use Rattle.query_eval.proofs.KeptSteps.{kept-live, nothing-kept, passes-kept, passes-taken}
use Rattle.query_eval.proofs.answers.taken_rows.take_vector.Goals as goal

pub returns-then-not-has_rows-clause-taken : goal.returns-then-not-has_rows-clause-taken
returns-then-not-has_rows-clause-taken g c =
    let v = vector_at (g.C.Columns.seen c.args.columns.now).state c.args.id.batch c.args.id.vector in
    nothing-kept c.args.plan.now (g.C.Columns.seen c.args.columns.now).table c.args.condition.now v c.kept_mask-rows.result c.args.taken.now c.kept_mask-rows.ensures.value (c.has_rows.ensures.none c.if-not-has_rows.true)

pub returns-then-not-has_rows-clause-passes : goal.returns-then-not-has_rows-clause-passes
returns-then-not-has_rows-clause-passes g c =
    let v = vector_at (g.C.Columns.seen c.args.columns.now).state c.args.id.batch c.args.id.vector in
    passes-kept (has_live v) (where_mentions c.args.condition.now) (plan_mentions c.args.plan.now) _ _ c.kept_mask-rows.ensures.read.passes

pub returns-clause-taken : goal.returns-clause-taken
returns-clause-taken g c = λ rows h.
    let v = vector_at (g.C.Columns.seen c.args.columns.now).state c.args.id.batch c.args.id.vector in
    let plan = c.args.plan.now in
    let taken = c.take.new.self in
    let here = c.in_ok-take.ensures.taken rows h in
    subst (λ (mask : List Bool). AreTaken plan (rows ++ rows_at v mask) taken) c.kept_mask-rows.ensures.value
    (subst (λ (x : State). AreTaken plan (rows ++ rows_at (vector_at x c.args.id.batch c.args.id.vector) c.kept_mask-rows.result) taken) c.kept_mask-rows.ensures.read.state here)

pub returns-clause-passes : goal.returns-clause-passes
returns-clause-passes g c =
    let v = vector_at (g.C.Columns.seen c.args.columns.now).state c.args.id.batch c.args.id.vector in
    let live : has_live v ≡ true = kept-live (g.C.Columns.seen c.args.columns.now).table c.args.condition.now v c.kept_mask-rows.result c.kept_mask-rows.ensures.value (c.has_rows.ensures.some c.if-not-has_rows.false) in
    passes-taken (has_live v) (where_mentions c.args.condition.now) (plan_mentions c.args.plan.now) _ _ _ live c.kept_mask-rows.ensures.read.passes c.in_ok-take.ensures.passes
