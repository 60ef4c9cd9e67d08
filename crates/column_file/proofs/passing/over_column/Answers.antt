use Rattle.std.proofs.lemmas.Result.{err_from_is_err_and}
use Rattle.table_model.proofs.OrMemory.{or_memory}
use Rattle.segment_core.specs.Segment.{vector_count}
use Rattle.column_file.specs.Passing.{over_vector, over_column}
use Rattle.column_file.proofs.Passed.{goes_on, ends, is_done}
use Rattle.column_file.proofs.passing.over_column.Goals as goal

pub returns-in_err-rest : goal.returns-in_err-rest
unfolding over_column
returns-in_err-rest c =
    let p = err_from_is_err_and c.from_residual.result c.from_residual.ensures.1 in
    rw (p.1, p.2) (or_memory c.in_err-rest.ensures (λ fault. ends (λ _. over_vector c.args.lane_width) (vector_count c.args.rows) c.loop.counter c.args.total c.loop.rest.now c.in_err-rest.field-0.0 _ c.loop-test.true fault c.loop.invariant))

pub loop-preserved : goal.loop-preserved
loop-preserved c = goes_on (λ _. over_vector c.args.lane_width) (vector_count c.args.rows) c.loop.counter c.args.total c.loop.rest.now c.in_ok-rest.rest.now _ c.loop-test.true c.in_ok-rest.ensures c.loop.invariant

pub returns : goal.returns
unfolding over_column
returns c = is_done (λ _. over_vector c.args.lane_width) (vector_count c.args.rows) c.loop.counter c.args.total c.loop.rest.now _ c.loop-test.false c.loop.invariant
