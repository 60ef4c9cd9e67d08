-- Without a live row none is kept; else those at which the condition is true.
use Rattle.std.proofs.Common.{Some, refl}
use Rattle.query_eval.specs.Vector.{vector_at}
use Rattle.query_eval.proofs.KeptLemmas.{kept-nowhere, kept-where, live-some, passes-where}
use Rattle.query_eval.proofs.filter.kept_rows.true_mask.Goals as goal

pub returns-then-not-has_rows-clause-value : goal.returns-then-not-has_rows-clause-value
returns-then-not-has_rows-clause-value g c =
    kept-nowhere (g.C.Columns.seen c.args.columns.now).table (Some c.args.condition.now) (vector_at (g.C.Columns.seen c.args.columns.now).state c.args.id.batch c.args.id.vector) c.live-live.result c.live-live.ensures (c.has_rows.ensures.none c.if-not-has_rows.true)

pub returns-clause-value : goal.returns-clause-value
returns-clause-value g c =
    kept-where (g.C.Columns.seen c.args.columns.now).table (Some c.args.condition.now) c.args.condition.now (vector_at (g.C.Columns.seen c.args.columns.now).state c.args.id.batch c.args.id.vector) c.live-live.result _ c.live-live.ensures refl c.condition_rows.ensures.value

pub returns-clause-read : goal.returns-clause-read
returns-clause-read g c = record {
  table = c.condition_rows.ensures.read.table;
  state = c.condition_rows.ensures.read.state;
  passes =
      passes-where (vector_at (g.C.Columns.seen c.args.columns.now).state c.args.id.batch c.args.id.vector) (Some c.args.condition.now) c.args.condition.now _ _
      (live-some (vector_at (g.C.Columns.seen c.args.columns.now).state c.args.id.batch c.args.id.vector) c.live-live.result _ c.live-live.ensures refl (c.has_rows.ensures.some c.if-not-has_rows.false)) refl c.condition_rows.ensures.read.passes;
}
