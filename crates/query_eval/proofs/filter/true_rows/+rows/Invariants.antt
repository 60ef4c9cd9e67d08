-- The terms and the factors so far are judged.
use Rattle.std.proofs.Common.{◌≡◌, ◌+◌, ◌≤◌, take}
use Rattle.table_model.specs.Query.{formula_of_terms, formula_of_factors}
use Rattle.query_eval.specs.Mentions.{condition_mentions}
use Rattle.query_eval.specs.Pairs.{yes_of}
use Rattle.query_eval.specs.Vector.{vector_at}
use Rattle.query_eval.specs.Where.{truth_in}
use Rattle.query_eval.proofs.filter.true_rows.+rows.Given as goal

abbrev pub invariant-condition_rows-loop-term : goal.invariant-condition_rows-loop-term
invariant-condition_rows-loop-term g l = record {
  value : l.found ≡ yes_of l.mask (truth_in (g.C.Columns.seen l.initial.columns).table (vector_at (g.C.Columns.seen l.initial.columns).state l.id.batch l.id.vector) (formula_of_terms (take l.term-index l.term-items)));
  table : (g.C.Columns.seen l.columns).table ≡ (g.C.Columns.seen l.initial.columns).table;
  state : (g.C.Columns.seen l.columns).state ≡ (g.C.Columns.seen l.initial.columns).state;
  passes : (g.C.Columns.seen l.columns).passes ≤ (g.C.Columns.seen l.initial.columns).passes + condition_mentions (formula_of_terms (take l.term-index l.term-items));
}

abbrev pub invariant-term_rows-loop-factor : goal.invariant-term_rows-loop-factor
invariant-term_rows-loop-factor g l = record {
  value : l.rows ≡ yes_of l.mask (truth_in (g.C.Columns.seen l.initial.columns).table (vector_at (g.C.Columns.seen l.initial.columns).state l.id.batch l.id.vector) (formula_of_factors (take l.factor-index l.factor-items)));
  table : (g.C.Columns.seen l.columns).table ≡ (g.C.Columns.seen l.initial.columns).table;
  state : (g.C.Columns.seen l.columns).state ≡ (g.C.Columns.seen l.initial.columns).state;
  passes : (g.C.Columns.seen l.columns).passes ≤ (g.C.Columns.seen l.initial.columns).passes + condition_mentions (formula_of_factors (take l.factor-index l.factor-items));
}
