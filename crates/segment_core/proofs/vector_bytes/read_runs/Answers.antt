use Rattle.std.proofs.Common.{refl}
use Rattle.std.proofs.lemmas.Result.{err_from_is_err_and}
use Rattle.table_model.proofs.OrMemory.{or_memory}
use Rattle.segment_core.specs.VectorBytes.{runs}
use Rattle.segment_core.proofs.vector_bytes.read_runs.Goals as goal

pub returns-in_err-values-clause-read : goal.returns-in_err-values-clause-read
unfolding runs
returns-in_err-values-clause-read c =
    let p = err_from_is_err_and c.from_residual-in_err-values.result c.from_residual-in_err-values.ensures.1 in
    rw (p.1, p.2) (or_memory c.in_err-values.ensures.read (λ fault. rw (c.in_ok-starts.ensures.read, c.after_mask.ensures, fault) refl))

pub returns-clause-read : goal.returns-clause-read
unfolding runs
returns-clause-read c = rw (c.in_ok-starts.ensures.read, c.after_mask.ensures, c.in_ok-values.ensures.read, c.from_parts.ensures, c.in_ok-values.ensures.lanes) refl
