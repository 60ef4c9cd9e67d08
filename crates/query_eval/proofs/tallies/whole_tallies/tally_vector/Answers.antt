-- One aggregate more.
use Rattle.std.proofs.Common.{rules, ◌≡◌, ◌<◌, ◌++◌, List, [], length, get_or, subst, ◌∙◌, arith}
use Rattle.std.proofs.lemmas.List.Sums.{sum_by_more, sum_by-take-le}
use Rattle.table_model.specs.State.{Cells, State}
use Rattle.query_eval.specs.Grouping.{IsHeld}
use Rattle.query_eval.specs.Kept.{rows_at}
use Rattle.query_eval.specs.QueryMentions.{aggregate_mentions}
use Rattle.query_eval.specs.Vector.{vector_at}
use Rattle.query_eval.specs.declared.tallies.aggregate.Aggregate.TheVariants.{Rows}
use Rattle.query_eval.proofs.TakenLemmas.{tallies_ahead, tallies_held, tallies_size}
use Rattle.query_eval.proofs.tallies.whole_tallies.tally_vector.Goals as goal

pub loop-i-preserved : goal.loop-i-preserved
loop-i-preserved g c =
    let i = c.loop-i.i in
    let inv = c.loop-i.invariant in
    let named = c.args.aggregates.now in
    let old = c.args.tallies.now.items in
    let now = c.loop-i.tallies.items in
    let m = c.index_mut.result.now in
    let u = c.take_aggregate.new.tally in
    let batch = c.args.kept.now.id.batch in
    let vector = c.args.kept.now.id.vector in
    let mask = c.args.kept.now.rows in
    let more : List Cells = rows_at (vector_at (g.C.Columns.seen c.args.columns.now).state batch vector) mask in
    let ln : i < length named = omega (arith, c.loop-i-test.true, c.len.ensures, c.min-named.ensures) in
    let lo : i < length old = omega (arith, c.loop-i-test.true, c.len.ensures, c.min-named.ensures) in
    let mine : m ≡ get_or now i m = search rules in
    let added = sum_by_more aggregate_mentions named i Rows ln in
    record {
      size = tallies_size named [] more i old now m u inv.size ln lo inv.ahead;
      held = λ rows h.
          tallies_held named rows more i old now m u inv.size ln lo inv.ahead mine (inv.held rows h)
          (subst (λ (x : State). IsHeld rows (get_or named i Rows) m → IsHeld (rows ++ rows_at (vector_at x batch vector) mask) (get_or named i Rows) u) inv.state (c.in_ok-take_aggregate.ensures.held rows)) (h.each i Rows m ln);
      ahead = tallies_ahead named [] more i old now m u inv.size ln lo inv.ahead;
      table = c.take_aggregate.ensures.read.table ∙ inv.table;
      state = c.take_aggregate.ensures.read.state ∙ inv.state;
      passes = omega (arith, added, c.take_aggregate.ensures.read.passes, inv.passes);
    }

pub returns-clause-tallied : goal.returns-clause-tallied
returns-clause-tallied g c = λ rows h. record {
  size = c.loop-i.invariant.size ∙ h.size;
  each = λ i a t l. c.loop-i.invariant.held rows h i a t (omega (arith, l, h.size, c.loop-i-test.false, c.len.ensures, c.min-named.ensures));
}

pub returns-clause-read : goal.returns-clause-read
returns-clause-read g c = record {
  table = c.loop-i.invariant.table;
  state = c.loop-i.invariant.state;
  passes =
      omega (arith, c.loop-i.invariant.passes, sum_by-take-le aggregate_mentions c.args.aggregates.now c.loop-i.i);
}
