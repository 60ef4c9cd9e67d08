-- The terms and the factors so far are judged.
use Rattle.std.proofs.Common.{◌≡◌, ◌+◌, ◌≤◌, take}
use Rattle.table_model.specs.Query.{formula_of_terms, formula_of_factors}
use Rattle.query_eval.specs.Mentions.{condition_mentions}
use Rattle.query_eval.specs.Vector.{vector_at}
use Rattle.query_eval.specs.Where.{IsPair, truth_in}
use Rattle.query_eval.proofs.filter.where_masks.+masks.Given as goal

abbrev pub invariant-condition_masks-loop-term : goal.invariant-condition_masks-loop-term
invariant-condition_masks-loop-term g l = record {
  value : IsPair l.mask (truth_in (g.C.Columns.seen l.initial.columns).table (vector_at (g.C.Columns.seen l.initial.columns).state l.id.batch l.id.vector) (formula_of_terms (take l.term-index l.term-items))) l.pair;
  table : (g.C.Columns.seen l.columns).table ≡ (g.C.Columns.seen l.initial.columns).table;
  state : (g.C.Columns.seen l.columns).state ≡ (g.C.Columns.seen l.initial.columns).state;
  passes : (g.C.Columns.seen l.columns).passes ≤ (g.C.Columns.seen l.initial.columns).passes + condition_mentions (formula_of_terms (take l.term-index l.term-items));
}

abbrev pub invariant-term_masks-loop-factor : goal.invariant-term_masks-loop-factor
invariant-term_masks-loop-factor g l = record {
  value : IsPair l.mask (truth_in (g.C.Columns.seen l.initial.columns).table (vector_at (g.C.Columns.seen l.initial.columns).state l.id.batch l.id.vector) (formula_of_factors (take l.factor-index l.factor-items))) l.pair;
  table : (g.C.Columns.seen l.columns).table ≡ (g.C.Columns.seen l.initial.columns).table;
  state : (g.C.Columns.seen l.columns).state ≡ (g.C.Columns.seen l.initial.columns).state;
  passes : (g.C.Columns.seen l.columns).passes ≤ (g.C.Columns.seen l.initial.columns).passes + condition_mentions (formula_of_factors (take l.factor-index l.factor-items));
}
