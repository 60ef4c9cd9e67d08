-- Without WHERE all live rows, and else those at which it is true.
use Rattle.std.proofs.Common.{Option, sym, ap, subst, ◌∙◌, ◌+◌, ◌≤◌, cond}
use Rattle.table_model.specs.Formula.{Formula}
use Rattle.query_eval.specs.Kept.{kept_mask, has_live, where_mentions}
use Rattle.query_eval.specs.Vector.{vector_at}
use Rattle.query_eval.proofs.KeptLemmas.{kept-all}
use Rattle.query_eval.proofs.filter.kept_rows.kept_mask.Goals as goal

pub returns-in-None-clause-value : goal.returns-in-None-clause-value
returns-in-None-clause-value g c =
    kept-all (g.C.Columns.seen c.args.columns.now).table c.args.condition.now (vector_at (g.C.Columns.seen c.args.columns.now).state c.args.id.batch c.args.id.vector) c.live.result c.live.ensures c.in-None.is

pub returns-in-Some-clause-value : goal.returns-in-Some-clause-value
returns-in-Some-clause-value g c =
    c.true_mask.ensures.value ∙ ap (λ (o : Option Formula). kept_mask (g.C.Columns.seen c.args.columns.now).table o (vector_at (g.C.Columns.seen c.args.columns.now).state c.args.id.batch c.args.id.vector)) (sym c.in-Some.is)

pub returns-in-Some-clause-read : goal.returns-in-Some-clause-read
returns-in-Some-clause-read g c = record {
  table = c.true_mask.ensures.read.table;
  state = c.true_mask.ensures.read.state;
  passes =
      subst (λ (o : Option Formula). (g.C.Columns.seen c.true_mask.new.columns).passes ≤ (g.C.Columns.seen c.args.columns.now).passes + cond (has_live (vector_at (g.C.Columns.seen c.args.columns.now).state c.args.id.batch c.args.id.vector)) (where_mentions o) 0) (sym c.in-Some.is) c.true_mask.ensures.read.passes;
}
