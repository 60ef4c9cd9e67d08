-- A vector's live rows are those of its mask; past the last vector no row is left.
use Rattle.std.proofs.Common.{◌≤◌, ◌+◌, ◌*◌, ◌∙◌, sym, arith}
use Rattle.transpose_order.proofs.MaskLemmas.{count_below-zero, count_below-le}
use Rattle.replica_reports.specs.Counts.{is_live_at}
use Rattle.replica_reports.proofs.BatchCounting.{live_more, live_few, live_end}
use Rattle.replica_reports.proofs.batch_counts.live_count.Goals as goal

pub loop-vector-init : goal.loop-vector-init
loop-vector-init c = sym (count_below-zero (is_live_at c.args.tombs.now c.args.name c.args.rows))

pub overflow_add-live : goal.overflow_add-live
overflow_add-live c =
    let more = live_more c.args.tombs.now c.args.name c.args.rows c.loop-vector.vector c.loop-vector.live c.min-covered.result c.count-live.result c.live_mask.result c.loop-vector.invariant (omega (arith, c.min-covered.ensures)) c.live_mask.ensures c.count-live.ensures in
    let few = live_few c.args.tombs.now c.args.name c.args.rows (c.loop-vector.vector + 1) (c.loop-vector.live + c.count-live.result) more in
    omega (arith, few, c.requires, c.loop-vector-test.true, c.div_ceil-vector-end.ensures)

pub loop-vector-preserved : goal.loop-vector-preserved
loop-vector-preserved c =
    live_more c.args.tombs.now c.args.name c.args.rows c.loop-vector.vector c.loop-vector.live c.min-covered.result c.count-live.result c.live_mask.result c.loop-vector.invariant (omega (arith, c.min-covered.ensures)) c.live_mask.ensures c.count-live.ensures

pub returns-clause-count : goal.returns-clause-count
returns-clause-count c =
    let end : c.args.rows ≤ 1024 * c.loop-vector.vector = omega (arith, c.loop-vector-test.false, c.div_ceil-vector-end.ensures) in
    c.loop-vector.invariant ∙ live_end c.args.tombs.now c.args.name c.args.rows (1024 * c.loop-vector.vector) end

pub returns-clause-few : goal.returns-clause-few
returns-clause-few c =
    let count = returns-clause-count c in
    omega (arith, count, count_below-le (is_live_at c.args.tombs.now c.args.name c.args.rows) c.args.rows)
