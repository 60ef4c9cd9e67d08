-- The rows are taken into the tallies, or into their groups.
use Rattle.std.proofs.Common.{◌++◌, List, sym, subst}
use Rattle.table_model.specs.State.{Cells}
use Rattle.query_eval.specs.Kept.{rows_at}
use Rattle.query_eval.specs.Taken.{AreTallied, AreTaken}
use Rattle.query_eval.specs.Vector.{vector_at}
use Rattle.query_eval.specs.declared.tallies.aggregate.Aggregate.{Aggregate}
use Rattle.query_eval.specs.declared.answers.taken_rows.Taken.TheVariants.{Whole, Grouped}
use Rattle.query_eval.proofs.answers.taken_rows.Taken.take.Goals as goal

pub returns-in_ok-tally_vector-in-Whole-clause-taken : goal.returns-in_ok-tally_vector-in-Whole-clause-taken
returns-in_ok-tally_vector-in-Whole-clause-taken g c = λ rows h.
    let plan = c.args.plan.now in
    let more : List Cells = rows_at (vector_at (g.C.Columns.seen c.args.columns.now).state c.args.kept.now.id.batch c.args.kept.now.id.vector) c.args.kept.now.rows in
    let before : AreTaken plan rows (Whole c.in-Whole.tallies) = subst (AreTaken plan rows) c.in-Whole.is h in
    let named = sym c.aggregates.ensures in
    let tallied = c.in_ok-tally_vector-in-Whole.ensures.tallied rows (subst (λ (l : List Aggregate). AreTallied l rows c.in-Whole.tallies.items) named before.1) in
    (before.0, subst (λ (l : List Aggregate). AreTallied l (rows ++ more) c.tally_vector.new.tallies.items) c.aggregates.ensures tallied)

pub returns-in_ok-group_vector-in-Grouped-clause-taken : goal.returns-in_ok-group_vector-in-Grouped-clause-taken
returns-in_ok-group_vector-in-Grouped-clause-taken g c = λ rows h.
    let before : AreTaken c.args.plan.now rows (Grouped c.in-Grouped.groups) = subst (AreTaken c.args.plan.now rows) c.in-Grouped.is h in
    let ensures = c.in_ok-group_vector-in-Grouped.ensures in
    (before.0, (ensures.index before.1.0, ensures.groups rows before.1.0 before.1.1))
