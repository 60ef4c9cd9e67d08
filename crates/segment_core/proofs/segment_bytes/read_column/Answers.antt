use Rattle.std.proofs.Common.{◌≡◌, ◌++◌, ◌∷◌, [], List, length, Ok, ap, sym, ◌∙◌, arith}
use Rattle.std.proofs.lemmas.List.{length-append}
use Rattle.std.proofs.lemmas.Result.{err_from_is_err_and}
use Rattle.table_model.proofs.OrMemory.{or_memory}
use Rattle.segment_core.specs.CodedVector.{VectorForm}
use Rattle.segment_core.specs.Segment.{rows_in, vector_count}
use Rattle.segment_core.specs.VectorBytes.{vector}
use Rattle.segment_core.specs.SegmentBytes.{column}
use Rattle.segment_core.proofs.ReadAll.{goes_on, ends, is_done}
use Rattle.segment_core.proofs.SegmentReading.{more_vectors, width_of_vectors}
use Rattle.segment_core.proofs.segment_bytes.read_column.Goals as goal

pub returns-in_err-vector-clause-read : goal.returns-in_err-vector-clause-read
unfolding column
returns-in_err-vector-clause-read c =
    let p = err_from_is_err_and c.from_residual-in_err-vector.result c.from_residual-in_err-vector.ensures.1 in
    let covered : c.min-covered.result ≡ rows_in c.args.rows (length c.loop-k.vectors.items) = omega (arith, c.loop-k.invariant.count, c.min-covered.ensures) in
    rw (p.1, p.2) (or_memory c.in_err-vector.ensures.read (λ fault. ends (λ front. vector c.args.lane_width (rows_in c.args.rows (length front))) (vector_count c.args.rows) c.loop-k.k c.loop-k.vectors.items c.args.total c.loop-k.rest.now c.in_err-vector.field-0.0 _ c.loop-k-test.true
    (rw (← covered) fault) c.loop-k.invariant.read))

pub loop-k-preserved : goal.loop-k-preserved
loop-k-preserved c =
    let covered : c.min-covered.result ≡ rows_in c.args.rows (length c.loop-k.vectors.items) = omega (arith, c.loop-k.invariant.count, c.min-covered.ensures) in
    let items : c.push.new.self.items ≡ c.loop-k.vectors.items ++ c.in_ok-vector.vector ∷ [] = c.in_ok-push.ensures.items in
    record {
      read = rw items (goes_on (λ front. vector c.args.lane_width (rows_in c.args.rows (length front))) (vector_count c.args.rows) c.loop-k.k c.loop-k.vectors.items c.args.total c.loop-k.rest.now c.in_ok-vector.vector c.in_ok-vector.after.now _ c.loop-k-test.true
          (rw (← covered) c.in_ok-vector.ensures.read) c.loop-k.invariant.read);
      count = rw items (omega (arith, length-append c.loop-k.vectors.items (c.in_ok-vector.vector ∷ []), c.loop-k.invariant.count));
      vectors = rw items (more_vectors c.args.lane_width c.args.rows c.loop-k.vectors.items c.in_ok-vector.vector c.loop-k.invariant.vectors (c.in_ok-vector.ensures.rows ∙ covered) c.in_ok-vector.ensures.lanes c.in_ok-vector.ensures.form);
    }

pub returns-clause-read : goal.returns-clause-read
unfolding column
returns-clause-read c =
    is_done (λ front. vector c.args.lane_width (rows_in c.args.rows (length front))) (vector_count c.args.rows) c.loop-k.k c.loop-k.vectors.items c.args.total c.loop-k.rest.now _ c.loop-k-test.false c.loop-k.invariant.read
    ∙ ap (λ (vs : List VectorForm). Ok (vs, c.loop-k.rest.now)) (sym c.from_vec.ensures)

pub returns-clause-lanes : goal.returns-clause-lanes
returns-clause-lanes c =
    rw c.from_vec.ensures (width_of_vectors c.args.lane_width c.args.rows c.loop-k.vectors.items (omega (arith, c.loop-k.invariant.count, c.loop-k-test.false)) c.loop-k.invariant.vectors)
