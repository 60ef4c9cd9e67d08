-- One term or factor more; over no rows nothing is true.
use Rattle.std.proofs.Common.{◌≡◌, take, refl, sym, ap, ◌∙◌, subst, arith}
use Rattle.table_model.specs.Formula.{Formula}
use Rattle.table_model.specs.Query.{formula_of_terms, formula_of_term, formula_of_factors, formula_of_factor}
use Rattle.query_eval.specs.Mentions.{condition_mentions}
use Rattle.query_eval.specs.Pairs.{yes_of}
use Rattle.query_eval.specs.Vector.{vector_at}
use Rattle.query_eval.specs.Where.{truth_in}
use Rattle.query_eval.proofs.FormulaLemmas.{terms_more, factors_more, moved_rows}
use Rattle.query_eval.proofs.PairLemmas.{yes_or, yes_and, none_yes, false_yes, true_yes}
use Rattle.query_eval.proofs.filter.true_rows.+rows.Goals as goal

pub condition_rows-loop-term-init : goal.condition_rows-loop-term-init
condition_rows-loop-term-init g t c = record {
  value = c.none-found.ensures ∙ false_yes c.args.mask.now;
  table = refl;
  state = refl;
  passes = omega arith;
}

pub condition_rows-loop-term-preserved : goal.condition_rows-loop-term-preserved
condition_rows-loop-term-preserved g t c =
    let table = (g.C.Columns.seen c.args.columns.now).table in
    let s = (g.C.Columns.seen c.args.columns.now).state in
    let v = vector_at s c.args.id.batch c.args.id.vector in
    let inv = c.loop-term.invariant in
    let front : Formula = formula_of_terms (take c.loop-term.term-index c.deref-term-items.result.now) in
    let one : Formula = formula_of_term c.term-item.result in
    let e = terms_more c.deref-term-items.result.now c.loop-term.term-index c.term-item.result c.loop-term-test.true c.term-item.is in
    let next = moved_rows _ table _ s c.args.id.batch c.args.id.vector one c.and_not-rest.result c.term_rows-next.result inv.table inv.state c.term_rows-next.ensures.value in
    record {
      value = subst (λ (f : Formula). c.or-found.result ≡ yes_of c.args.mask.now (truth_in table v f)) (sym e) (c.or-found.ensures ∙ yes_or c.args.mask.now c.loop-term.found c.and_not-rest.result c.term_rows-next.result (truth_in table v front) (truth_in table v one) inv.value c.and_not-rest.ensures next);
      table = c.term_rows-next.ensures.read.table ∙ inv.table;
      state = c.term_rows-next.ensures.read.state ∙ inv.state;
      passes = omega (arith, ap condition_mentions e, c.term_rows-next.ensures.read.passes, inv.passes);
    }

pub term_rows-loop-factor-init : goal.term_rows-loop-factor-init
term_rows-loop-factor-init g t c = record {
  value = c.and-rows.ensures ∙ true_yes c.args.mask.now;
  table = refl;
  state = refl;
  passes = omega arith;
}

pub term_rows-loop-factor-preserved : goal.term_rows-loop-factor-preserved
term_rows-loop-factor-preserved g t c =
    let table = (g.C.Columns.seen c.args.columns.now).table in
    let s = (g.C.Columns.seen c.args.columns.now).state in
    let v = vector_at s c.args.id.batch c.args.id.vector in
    let inv = c.loop-factor.invariant in
    let front : Formula = formula_of_factors (take c.loop-factor.factor-index c.deref-factor-items.result.now) in
    let one : Formula = formula_of_factor c.factor-item.result in
    let e = factors_more c.deref-factor-items.result.now c.loop-factor.factor-index c.factor-item.result c.loop-factor-test.true c.factor-item.is in
    let next = moved_rows _ table _ s c.args.id.batch c.args.id.vector one c.loop-factor.rows c.factor_rows-rows.result inv.table inv.state c.factor_rows-rows.ensures.value in
    record {
      value = subst (λ (f : Formula). c.factor_rows-rows.result ≡ yes_of c.args.mask.now (truth_in table v f)) (sym e) (yes_and c.args.mask.now c.loop-factor.rows c.factor_rows-rows.result (truth_in table v front) (truth_in table v one) inv.value next);
      table = c.factor_rows-rows.ensures.read.table ∙ inv.table;
      state = c.factor_rows-rows.ensures.read.state ∙ inv.state;
      passes = omega (arith, ap condition_mentions e, c.factor_rows-rows.ensures.read.passes, inv.passes);
    }

pub factor_rows-returns-then-next_true-eq1024-clause-value : goal.factor_rows-returns-then-next_true-eq1024-clause-value
factor_rows-returns-then-next_true-eq1024-clause-value g t c =
    c.none.ensures ∙ none_yes c.args.mask.now _ (λ n h. c.next_true.ensures.none n (omega arith) (omega (arith, h, c.if-next_true-eq1024.true)))
