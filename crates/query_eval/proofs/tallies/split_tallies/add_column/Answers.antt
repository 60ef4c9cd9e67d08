-- The tallies of the groups that came, and then the rows.
use Rattle.std.proofs.Common.{◌<◌, ◌++◌, ℕ, List, length, get_or, sym, ap, subst}
use Rattle.table_model.specs.State.{Cells}
use Rattle.query_eval.specs.Grouping.{AreNulls, IsHeld}
use Rattle.query_eval.specs.Slices.{rows_shared}
use Rattle.query_eval.specs.TallyKinds.{aggregate_kind}
use Rattle.query_eval.specs.Vector.{vector_at}
use Rattle.query_eval.specs.declared.tallies.aggregate.Aggregate.{Aggregate}
use Rattle.query_eval.specs.declared.tallies.tally.Tally.{Tally}
use Rattle.query_eval.proofs.GroupingLemmas.{taken}
use Rattle.query_eval.proofs.SharedLemmas.{nulls_none}
use Rattle.query_eval.proofs.tallies.split_tallies.add_column.Goals as goal

pub returns-in-Rows-clause-taken : goal.returns-in-Rows-clause-taken
returns-in-Rows-clause-taken g c =
    let v = vector_at (g.C.Columns.seen c.args.columns.now).state c.args.kept.now.id.batch c.args.kept.now.id.vector in
    taken c.args.aggregate v c.args.split.now c.args.count c.args.tallies.now.items c.add_groups.new.tallies.items c.count_split.new.tallies.items c.in_ok-add_groups.ensures.size c.in_ok-add_groups.ensures.known c.in_ok-add_groups.ensures.fresh
    c.count_split.ensures.size (c.count_split.ensures.held c.args.aggregate v (ap aggregate_kind c.in-Rows.is) (subst (λ (a : Aggregate). AreNulls a v c.none.result) (sym c.in-Rows.is) (nulls_none v c.none.result c.none.ensures)))

pub returns-in_ok-add_values-in-Folded-clause-taken : goal.returns-in_ok-add_values-in-Folded-clause-taken
returns-in_ok-add_values-in-Folded-clause-taken g c =
    let v = vector_at (g.C.Columns.seen c.args.columns.now).state c.args.kept.now.id.batch c.args.kept.now.id.vector in
    let split = c.args.split.now in
    let mid = c.add_groups.new.tallies.items in
    let new = c.add_values.new.tallies.items in
    taken c.args.aggregate v split c.args.count c.args.tallies.now.items mid new c.in_ok-add_groups.ensures.size c.in_ok-add_groups.ensures.known c.in_ok-add_groups.ensures.fresh c.in_ok-add_values-in-Folded.ensures.size
    (subst (λ (a : Aggregate). (i : ℕ) (t : Tally) (rows : List Cells) → i < length mid → IsHeld rows a (get_or mid i t) → IsHeld (rows ++ rows_shared v split i) a (get_or new i t)) (sym c.in-Folded.is)
    (c.in_ok-add_values-in-Folded.ensures.held c.in-Folded.fold c.in-Folded.distinct c.fold_kind-kind.ensures))
