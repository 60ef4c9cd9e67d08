-- A row at step 0 is the first of its lane.
use Rattle.std.proofs.Common.{◌/◌, arith, ap, sym, ◌∙◌, slice_index_or}
use Rattle.frame_delta.proofs.DifferenceLemmas.{first_row_of}
use Rattle.frame_delta.proofs.differences.fill_first_steps.Goals as goal

pub returns-clause-first : goal.returns-clause-first
returns-clause-first g c = λ n other h e.
    let at = first_row_of c.args.lane_width n c.requires h e in
    ap (λ k. slice_index_or c.loop-lane.rows k other) (sym at.1) ∙ c.loop-lane.invariant.first (n / c.args.lane_width) other (omega (arith, at.0, c.loop-lane-test.false))
