-- A change counts one.
use Rattle.std.proofs.Common.{◌≡◌, suc, ◌+◌, ◌-◌, sym, ap, ◌∙◌, arith}
use Rattle.transpose_order.proofs.MaskLemmas.{count_below-zero}
use Rattle.bit_interleave.specs.Range.{value_at}
use Rattle.run_dictionary.specs.Runs.{changes_at}
use Rattle.run_dictionary.proofs.StepLemmas.{count_changes-more}
use Rattle.run_dictionary.proofs.run_words.count_changes.Goals as goal
use Rattle.run_dictionary.proofs.run_words.count_changes.Goals.{then-differs, else-differs}

pub loop-row-init : goal.loop-row-init
loop-row-init c = (sym (count_below-zero (λ i. changes_at (value_at c.args.values.now) (suc i))), omega arith)

pub loop-row-preserved : goal.loop-row-preserved
loop-row-preserved c =
    let v = value_at c.args.values.now in
    let row = c.loop-row.row in
    let here : suc (row - 1) ≡ row = omega arith in
    let more = count_changes-more (λ i. changes_at v (suc i)) row (omega arith) in
    elim c.if-differs.branch [
      | then-differs w ↦
          (w.count-is ∙ ap (λ k. k + 1) c.loop-row.invariant.0 ∙ sym (more.0 (ap (changes_at v) here ∙ sym c.differs.ensures ∙ w.if-differs.true)), omega arith)
      | else-differs w ↦
          (w.count-is ∙ c.loop-row.invariant.0 ∙ sym (more.1 (ap (changes_at v) here ∙ sym c.differs.ensures ∙ w.if-differs.false)), omega arith)
    ]
