-- One aggregate more.
use Rattle.std.proofs.Common.{rules, ◌≡◌, ◌<◌, length, get_or, subst, ◌∙◌, arith}
use Rattle.std.proofs.lemmas.List.Sums.{sum_by_more, sum_by-take-le}
use Rattle.table_model.specs.State.{State}
use Rattle.query_eval.specs.Grouping.{IsTaken}
use Rattle.query_eval.specs.QueryMentions.{aggregate_mentions}
use Rattle.query_eval.specs.Vector.{vector_at}
use Rattle.query_eval.specs.declared.tallies.aggregate.Aggregate.TheVariants.{Rows}
use Rattle.query_eval.proofs.GroupingLemmas.{columns_ahead, columns_size, columns_taken}
use Rattle.query_eval.proofs.tallies.split_tallies.add_columns.Goals as goal

pub loop-i-preserved : goal.loop-i-preserved
loop-i-preserved g c =
    let i = c.loop-i.i in
    let inv = c.loop-i.invariant in
    let named = c.args.aggregates.now in
    let old = c.args.tallies.now.items in
    let now = c.loop-i.tallies.items in
    let m = c.index_mut.result.now in
    let u = c.add_column.new.tallies in
    let split = c.args.split.now in
    let v = vector_at (g.C.Columns.seen c.args.columns.now).state c.args.kept.now.id.batch c.args.kept.now.id.vector in
    let ln : i < length named = omega (arith, c.loop-i-test.true, c.len.ensures, c.min-named.ensures) in
    let lo : i < length old = omega (arith, c.loop-i-test.true, c.len.ensures, c.min-named.ensures) in
    let mine : m ≡ get_or now i m = search rules in
    let more = sum_by_more aggregate_mentions named i Rows ln in
    let one = subst (λ (x : State). IsTaken (get_or named i Rows) (vector_at x c.args.kept.now.id.batch c.args.kept.now.id.vector) split c.args.count m.items u.items) inv.state c.in_ok-add_column.ensures.taken in
    record {
      size = columns_size named v split c.args.count i old now m u inv.size ln lo inv.ahead;
      taken = columns_taken named v split c.args.count i old now m u inv.size ln lo inv.ahead mine inv.taken one;
      ahead = columns_ahead named v split c.args.count i old now m u inv.size ln lo inv.ahead;
      table = c.add_column.ensures.read.table ∙ inv.table;
      state = c.add_column.ensures.read.state ∙ inv.state;
      passes = omega (arith, more, c.add_column.ensures.read.passes, inv.passes);
    }

pub returns-clause-taken : goal.returns-clause-taken
returns-clause-taken g c = λ i a col la lo.
    c.loop-i.invariant.taken i a col (omega (arith, la, lo, c.loop-i-test.false, c.len.ensures, c.min-named.ensures))

pub returns-clause-read : goal.returns-clause-read
returns-clause-read g c = record {
  table = c.loop-i.invariant.table;
  state = c.loop-i.invariant.state;
  passes =
      omega (arith, c.loop-i.invariant.passes, sum_by-take-le aggregate_mentions c.args.aggregates.now c.loop-i.i);
}
