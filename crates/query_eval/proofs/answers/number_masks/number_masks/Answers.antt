-- Each kind of predicate by the columns of its operands.
use Rattle.std.proofs.Common.{List, ℤ, subst}
use Rattle.table_model.specs.Answer.{whole}
use Rattle.table_model.specs.Condition.{is_among, is_null}
use Rattle.table_model.specs.Truth.{and_of, comparison, truth_of}
use Rattle.table_model.specs.declared.op.Op.TheVariants.{GreaterOrEqual, LessOrEqual}
use Rattle.query_eval.specs.Decoded.{value_unless}
use Rattle.query_eval.specs.Where.{IsPair}
use Rattle.query_eval.proofs.NumberLemmas.{by_between, by_compare, by_in, by_null}
use Rattle.query_eval.proofs.answers.number_masks.number_masks.Goals as goal

pub returns-in_ok-second-in-Compare : goal.returns-in_ok-second-in-Compare
returns-in_ok-second-in-Compare c = λ groups have.
    by_compare groups c.args.predicate.now c.args.places.now c.args.mask.now c.compare_numbers.result c.in-Compare.left c.in-Compare.right c.in-Compare.op c.in_ok-first.first c.in_ok-second-in-Compare.second c.in-Compare.is
    (c.in_ok-first.ensures groups have) (c.in_ok-second-in-Compare.ensures groups have) c.compare_numbers.ensures

pub returns-in_ok-high-in-Between : goal.returns-in_ok-high-in-Between
returns-in_ok-high-in-Between c = λ groups have.
    let first = c.in_ok-first.first in
    let low = c.in_ok-low-in-Between.low in
    let high = c.in_ok-high-in-Between.high in
    by_between groups c.args.predicate.now c.args.places.now c.args.mask.now c.not_if.result c.in-Between.operand c.in-Between.low c.in-Between.high c.in-Between.negated first low high c.in-Between.is
    (c.in_ok-first.ensures groups have) (c.in_ok-low-in-Between.ensures groups have) (c.in_ok-high-in-Between.ensures groups have)
    (c.not_if.ensures c.args.mask.now (λ n. and_of (comparison GreaterOrEqual (value_unless first.nulls first.values n) (value_unless low.nulls low.values n)) (comparison LessOrEqual (value_unless first.nulls first.values n) (value_unless high.nulls high.values n))) c.between_numbers-pair.ensures)

pub returns-in-In : goal.returns-in-In
returns-in-In c = λ groups have.
    let first = c.in_ok-first.first in
    let found = subst (λ (l : List ℤ). IsPair c.args.mask.now (λ n. is_among (whole (value_unless first.nulls first.values n)) l) c.among_values-pair.result) c.as_slice.ensures c.among_values-pair.ensures in
    by_in groups c.args.predicate.now c.args.places.now c.args.mask.now c.not_if-in-In.result c.in-In.operand c.in-In.negated c.in-In.literals first c.in-In.is (c.in_ok-first.ensures groups have)
    (c.not_if-in-In.ensures c.args.mask.now (λ n. is_among (whole (value_unless first.nulls first.values n)) c.in-In.literals) found)

pub returns-in-IsNull : goal.returns-in-IsNull
returns-in-IsNull c = λ groups have.
    let first = c.in_ok-first.first in
    by_null groups c.args.predicate.now c.args.places.now c.args.mask.now c.not_if-in-IsNull.result c.in-IsNull.operand c.in-IsNull.negated first c.in-IsNull.is (c.in_ok-first.ensures groups have)
    (c.not_if-in-IsNull.ensures c.args.mask.now (λ n. truth_of (is_null (whole (value_unless first.nulls first.values n)))) c.null_numbers-pair.ensures)
