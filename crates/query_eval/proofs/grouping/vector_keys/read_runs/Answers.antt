-- No kept row is null, so that each has its run's value.
use Rattle.std.proofs.Common.{arith}
use Rattle.query_eval.specs.Vector.{vector_at}
use Rattle.query_eval.proofs.DecodedLemmas.{not_null, runs_cells}
use Rattle.query_eval.proofs.grouping.vector_keys.read_runs.Goals as goal

pub returns-clause-runs : goal.returns-clause-runs
returns-clause-runs g c =
    runs_cells (vector_at (g.C.Columns.seen c.args.columns.now).state c.args.id.batch c.args.id.vector) c.args.column c.nulls.result c.args.kept.now c.runs_into.new.values c.nulls.ensures
    (not_null c.nulls.result c.args.kept.now c.and.result c.and.ensures (λ n l. c.next_true.ensures.none n (omega arith) (omega (arith, l, c.if-next_true-lt1024.false)))) c.runs_into.result c.runs_into.ensures.runs
