-- What the values were raised by is taken off again.
use Rattle.std.proofs.Common.{◌≡◌, length, arith}
use Rattle.std.proofs.lemmas.Int.{ints}
use Rattle.query_eval.specs.Slices.{values_at}
use Rattle.query_eval.proofs.tallies.masked_folds.sum_at.Goals as goal

pub returns-then-short : goal.returns-then-short
returns-then-short c =
    let count : c.count_at-count.result ≡ length (values_at c.args.rows.now c.args.values.now) = c.count_at-count.ensures.value c.args.values.now in
    omega (arith, ints, c.sum_short.ensures, c.from.ensures, count, c.count_at-count.ensures.few)

pub returns : goal.returns
returns c =
    let count : c.count_at-count.result ≡ length (values_at c.args.rows.now c.args.values.now) = c.count_at-count.ensures.value c.args.values.now in
    omega (arith, ints, c.sum_halves-low.ensures.value, c.from-2.ensures, c.from-3.ensures, count, c.count_at-count.ensures.few)
