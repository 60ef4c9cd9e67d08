-- There are at most 1024 runs.
use Rattle.std.proofs.Common.{arith}
use Rattle.run_dictionary.proofs.StepLemmas.{run_of-bound, bytes-fit}
use Rattle.run_dictionary.proofs.runs.Runs.bytes_len.Goals as goal

pub overflow_mul-result : goal.overflow_mul-result
overflow_mul-result c =
    let bound = run_of-bound _ c.self.invariant in
    record { fits = (bytes-fit c.lane_width.result c.lane_width.ensures.width c.len.result (omega (arith, bound, c.len.ensures))).0 }

pub overflow_cast-result : goal.overflow_cast-result
overflow_cast-result c =
    let bound = run_of-bound _ c.self.invariant in
    let fits = (bytes-fit c.lane_width.result c.lane_width.ensures.width c.len.result (omega (arith, bound, c.len.ensures))).1 in
    record { fits = omega arith }

pub overflow_add-result : goal.overflow_add-result
overflow_add-result c =
    let bound = run_of-bound _ c.self.invariant in
    record { fits = (bytes-fit c.lane_width.result c.lane_width.ensures.width c.len.result (omega (arith, bound, c.len.ensures))).1 }
