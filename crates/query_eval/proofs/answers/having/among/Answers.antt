-- One literal more.
use Rattle.std.proofs.Common.{rules, FitsSigned, ℤ, get_or, pos, ap, ◌∙◌}
use Rattle.std.specs.Int.{w128}
use Rattle.std.proofs.lemmas.Int.{to_z-of_z}
use Rattle.table_model.specs.Truth.{or_of}
use Rattle.query_eval.proofs.SeenLemmas.{among_more}
use Rattle.query_eval.proofs.answers.having.among.Goals as goal

pub loop-literal-preserved : goal.loop-literal-preserved
loop-literal-preserved c =
    let literal : ℤ = get_or c.as_slice-literal-items.result.now c.loop-literal.literal-index (pos 0) in
    let fits : FitsSigned w128 literal = search rules in
    let compared = simp to_z-of_z at c.compare_fields.ensures in
    among_more c.args.field c.as_slice-literal-items.result.now c.loop-literal.literal-index (pos 0) c.loop-literal.truth c.or-truth.result _ c.loop-literal-test.true c.loop-literal.invariant
    (c.or-truth.ensures ∙ ap (or_of c.loop-literal.truth) compared)
