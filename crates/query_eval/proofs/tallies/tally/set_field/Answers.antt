-- Each of the values is there once, in some order.
use Rattle.std.proofs.Common.{ap, length, ◌∙◌, arith}
use Rattle.table_model.specs.Meaning.{fold_value}
use Rattle.query_eval.proofs.DistinctLemmas.{folded-alike, set_few}
use Rattle.query_eval.proofs.tallies.tally.set_field.Goals as goal

pub returns-then-len-gt-MAX_STATE_ROWS : goal.returns-then-len-gt-MAX_STATE_ROWS
returns-then-len-gt-MAX_STATE_ROWS c = λ values few same.
    let fewer = set_few c.args.seen.now.values values c.in_ok-values.ensures.apart same in
    absurd (omega (arith, few, fewer, ap length c.in_ok-values.ensures.values, c.len.ensures, c.if-len-gt-MAX_STATE_ROWS.true))

pub returns : goal.returns
returns c = λ values few same.
    c.values_field.ensures ∙ ap (fold_value c.args.fold) (c.as_slice.ensures.value ∙ c.in_ok-values.ensures.values)
    ∙ folded-alike c.args.seen.now.values values c.in_ok-values.ensures.apart same c.args.fold
