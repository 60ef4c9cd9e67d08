-- A key that was not marked is one more.
use Rattle.std.proofs.Common.{rules, FitsSigned, ℤ, pos, get_or, ap, ◌∙◌, arith}
use Rattle.std.specs.Int.{w64}
use Rattle.std.proofs.lemmas.Int.{to_z-of_z}
use Rattle.transpose_order.specs.Mask.{truth_at}
use Rattle.run_dictionary.specs.Keys.{key_of}
use Rattle.run_dictionary.proofs.KeyLemmas.{KeysCounted-none, KeysCounted-more, KeysCounted-front, KeysCounted-bound, at_most_one}
use Rattle.run_dictionary.proofs.counting.count_keys.Goals as goal

pub loop-value-init : goal.loop-value-init
loop-value-init c = record { keys = KeysCounted-none c.args.values.now c.none-marks.result.words c.none-marks.ensures; within = omega arith }

pub overflow_add-count : goal.overflow_add-count
overflow_add-count c =
    let one = at_most_one (truth_at c.loop-value.marks.words c.key_of.result) in
    record { fits = omega (arith, c.mark-count.ensures.new, one, KeysCounted-bound _ _ _ _ c.loop-value.invariant.keys, c.told-values) }

pub returns-then-count-limit-clause-none : goal.returns-then-count-limit-clause-none
returns-then-count-limit-clause-none c =
    let value : ℤ = get_or c.args.values.now c.loop-value.value-index (pos 0) in
    let fits : FitsSigned w64 value = search rules in
    let counted = KeysCounted-more c.args.values.now c.loop-value.marks.words c.mark-count.new.self.words c.loop-value.count c.mark-count.result c.loop-value.value-index c.key_of.result (omega (arith, c.told-values)) c.loop-value.invariant.keys
    (c.key_of.ensures ∙ ap key_of (to_z-of_z w64 value fits)) c.mark-count.ensures.new c.mark-count.ensures.marked in
    omega (arith, KeysCounted-front _ _ _ _ counted, c.if-count-limit.true)

pub loop-value-preserved : goal.loop-value-preserved
loop-value-preserved c =
    let value : ℤ = get_or c.args.values.now c.loop-value.value-index (pos 0) in
    let fits : FitsSigned w64 value = search rules in
    record {
      keys = KeysCounted-more c.args.values.now c.loop-value.marks.words c.mark-count.new.self.words c.loop-value.count c.mark-count.result c.loop-value.value-index c.key_of.result (omega (arith, c.told-values)) c.loop-value.invariant.keys
          (c.key_of.ensures ∙ ap key_of (to_z-of_z w64 value fits)) c.mark-count.ensures.new c.mark-count.ensures.marked;
      within = c.if-count-limit.false;
    }
