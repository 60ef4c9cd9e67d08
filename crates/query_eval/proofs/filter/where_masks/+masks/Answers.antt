-- One term or factor more, and what NOT and IS TRUE and its kin make of a test.
use Rattle.std.proofs.Common.{Bool, Option, take, sym, ap, ◌∙◌, subst, arith}
use Rattle.table_model.specs.Formula.{Formula}
use Rattle.table_model.specs.Query.{formula_of_terms, formula_of_term, formula_of_factors, formula_of_factor, formula_of_test, formula_of_primary, negated_if, asked_for}
use Rattle.table_model.specs.declared.query.IsTruth.{IsTruth}
use Rattle.query_eval.specs.Mentions.{condition_mentions}
use Rattle.query_eval.specs.Vector.{vector_at}
use Rattle.query_eval.specs.Where.{IsPair, truth_in}
use Rattle.query_eval.proofs.FormulaLemmas.{terms_more, factors_more, moved}
use Rattle.query_eval.proofs.PairLemmas.{pair_nowhere}
use Rattle.query_eval.proofs.filter.where_masks.+masks.Goals as goal

pub condition_masks-returns-then-next_true-eq1024-clause-value : goal.condition_masks-returns-then-next_true-eq1024-clause-value
condition_masks-returns-then-next_true-eq1024-clause-value g t c =
    pair_nowhere c.args.mask.now _ _ c.everywhere.result (λ n h. c.next_true.ensures.none n (omega arith) (omega (arith, h, c.if-next_true-eq1024.true))) c.everywhere.ensures

pub condition_masks-loop-term-preserved : goal.condition_masks-loop-term-preserved
condition_masks-loop-term-preserved g t c =
    let table = (g.C.Columns.seen c.args.columns.now).table in
    let s = (g.C.Columns.seen c.args.columns.now).state in
    let v = vector_at s c.args.id.batch c.args.id.vector in
    let inv = c.loop-term.invariant in
    let front : Formula = formula_of_terms (take c.loop-term.term-index c.deref-term-items.result.now) in
    let one : Formula = formula_of_term c.term-item.result in
    let e = terms_more c.deref-term-items.result.now c.loop-term.term-index c.term-item.result c.loop-term-test.true c.term-item.is in
    let next = moved _ table _ s c.args.id.batch c.args.id.vector one c.args.mask.now c.term_masks-next.result inv.table inv.state c.term_masks-next.ensures.value in
    record {
      value = subst (λ (f : Formula). IsPair c.args.mask.now (truth_in table v f) c.or-pair.result) (sym e) (c.or-pair.ensures.alike c.args.mask.now (truth_in table v front) (truth_in table v one) inv.value next);
      table = c.term_masks-next.ensures.read.table ∙ inv.table;
      state = c.term_masks-next.ensures.read.state ∙ inv.state;
      passes = omega (arith, ap condition_mentions e, c.term_masks-next.ensures.read.passes, inv.passes);
    }

pub term_masks-loop-factor-preserved : goal.term_masks-loop-factor-preserved
term_masks-loop-factor-preserved g t c =
    let table = (g.C.Columns.seen c.args.columns.now).table in
    let s = (g.C.Columns.seen c.args.columns.now).state in
    let v = vector_at s c.args.id.batch c.args.id.vector in
    let inv = c.loop-factor.invariant in
    let front : Formula = formula_of_factors (take c.loop-factor.factor-index c.deref-factor-items.result.now) in
    let one : Formula = formula_of_factor c.factor-item.result in
    let e = factors_more c.deref-factor-items.result.now c.loop-factor.factor-index c.factor-item.result c.loop-factor-test.true c.factor-item.is in
    let next = moved _ table _ s c.args.id.batch c.args.id.vector one c.and_not-rest.result c.factor_masks-next.result inv.table inv.state c.factor_masks-next.ensures.value in
    record {
      value = subst (λ (f : Formula). IsPair c.args.mask.now (truth_in table v f) c.and-pair.result) (sym e) (c.and-pair.ensures.rest c.args.mask.now c.and_not-rest.result (truth_in table v front) (truth_in table v one) inv.value c.and_not-rest.ensures next);
      table = c.factor_masks-next.ensures.read.table ∙ inv.table;
      state = c.factor_masks-next.ensures.read.state ∙ inv.state;
      passes = omega (arith, ap condition_mentions e, c.factor_masks-next.ensures.read.passes, inv.passes);
    }

pub factor_masks-returns-then-factor-clause-value : goal.factor_masks-returns-then-factor-clause-value
factor_masks-returns-then-factor-clause-value g t c =
    let v = vector_at (g.C.Columns.seen c.args.columns.now).state c.args.id.batch c.args.id.vector in
    let table = (g.C.Columns.seen c.args.columns.now).table in
    let f : Formula = formula_of_test c.args.factor.now.test in
    subst (λ (b : Bool). IsPair c.args.mask.now (truth_in table v (negated_if b f)) c.not.result) (sym c.if-factor.true) (c.not.ensures c.args.mask.now (truth_in table v f) c.test_masks-pair.ensures.value)

pub test_masks-returns-in-Some-clause-value : goal.test_masks-returns-in-Some-clause-value
test_masks-returns-in-Some-clause-value g t c =
    let v = vector_at (g.C.Columns.seen c.args.columns.now).state c.args.id.batch c.args.id.vector in
    let table = (g.C.Columns.seen c.args.columns.now).table in
    let f : Formula = formula_of_primary c.args.test.now.primary in
    subst (λ (o : Option IsTruth). IsPair c.args.mask.now (truth_in table v (asked_for f o)) c.asked.result) (sym c.in-Some.is) (c.asked.ensures (truth_in table v f) c.primary_masks-pair.ensures.value)
