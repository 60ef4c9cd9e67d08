-- One term or factor more, and what NOT and IS TRUE and its kin make of a test.
use Rattle.std.proofs.Common.{Bool, Option, take, sym, subst, arith}
use Rattle.table_model.specs.Formula.{Formula}
use Rattle.table_model.specs.Query.{formula_of_terms, formula_of_term, formula_of_factors, formula_of_factor, formula_of_test, formula_of_primary, negated_if, asked_for}
use Rattle.table_model.specs.declared.query.IsTruth.{IsTruth}
use Rattle.query_eval.specs.FieldPlaces.{truth_in}
use Rattle.query_eval.specs.Where.{IsPair}
use Rattle.query_eval.proofs.FormulaLemmas.{terms_more, factors_more}
use Rattle.query_eval.proofs.PairLemmas.{pair_nowhere}
use Rattle.query_eval.proofs.answers.group_masks.+judge.Goals as goal

pub condition_masks-loop-term-preserved : goal.condition_masks-loop-term-preserved
condition_masks-loop-term-preserved depth c =
    let t = truth_in c.args.schema.now.columns c.args.plan.now c.args.groups.now in
    let front : Formula = formula_of_terms (take c.loop-term.term-index c.deref-term-items.result.now) in
    let one : Formula = formula_of_term c.term-item.result in
    let e = terms_more c.deref-term-items.result.now c.loop-term.term-index c.term-item.result c.loop-term-test.true c.term-item.is in
    subst (λ (f : Formula). IsPair c.args.mask.now (t f) c.or-pair.result) (sym e) (c.or-pair.ensures.rest c.args.mask.now c.and_not-rest.result (t front) (t one) c.loop-term.invariant c.and_not-rest.ensures c.term_masks-next.ensures)

pub term_masks-loop-factor-preserved : goal.term_masks-loop-factor-preserved
term_masks-loop-factor-preserved depth c =
    let t = truth_in c.args.schema.now.columns c.args.plan.now c.args.groups.now in
    let front : Formula = formula_of_factors (take c.loop-factor.factor-index c.deref-factor-items.result.now) in
    let one : Formula = formula_of_factor c.factor-item.result in
    let e = factors_more c.deref-factor-items.result.now c.loop-factor.factor-index c.factor-item.result c.loop-factor-test.true c.factor-item.is in
    subst (λ (f : Formula). IsPair c.args.mask.now (t f) c.and-pair.result) (sym e) (c.and-pair.ensures.rest c.args.mask.now c.and_not-rest.result (t front) (t one) c.loop-factor.invariant c.and_not-rest.ensures c.factor_masks-next.ensures)

pub factor_masks-returns-then-next_true-eq1024 : goal.factor_masks-returns-then-next_true-eq1024
factor_masks-returns-then-next_true-eq1024 depth c =
    pair_nowhere c.args.mask.now _ _ c.everywhere.result (λ n h. c.next_true.ensures.none n (omega arith) (omega (arith, h, c.if-next_true-eq1024.true))) c.everywhere.ensures

pub factor_masks-returns-then-factor : goal.factor_masks-returns-then-factor
factor_masks-returns-then-factor depth c =
    let t = truth_in c.args.schema.now.columns c.args.plan.now c.args.groups.now in
    let f : Formula = formula_of_test c.args.factor.now.test in
    subst (λ (b : Bool). IsPair c.args.mask.now (t (negated_if b f)) c.not.result) (sym c.if-factor.true) (c.not.ensures c.args.mask.now (t f) c.test_masks-pair.ensures)

pub test_masks-returns-in-Some : goal.test_masks-returns-in-Some
test_masks-returns-in-Some depth c =
    let t = truth_in c.args.schema.now.columns c.args.plan.now c.args.groups.now in
    let f : Formula = formula_of_primary c.args.test.now.primary in
    subst (λ (o : Option IsTruth). IsPair c.args.mask.now (t (asked_for f o)) c.asked.result) (sym c.in-Some.is) (c.asked.ensures (t f) c.primary_masks-pair.ensures)
