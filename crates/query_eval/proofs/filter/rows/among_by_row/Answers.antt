-- One row more.
use Rattle.std.proofs.Common.{◌≡◌, ℕ, ◌+◌, Bool, cond, List, ℤ, pos, slice_index_or, Option, Some, None, sym, ap, subst, ◌∙◌, arith}
use Rattle.table_model.specs.Answer.{whole}
use Rattle.table_model.specs.Condition.{is_among}
use Rattle.table_model.specs.declared.truth.Truth.{Truth}
use Rattle.transpose_order.specs.Mask.{has}
use Rattle.query_eval.specs.Below.{IsPairBelow}
use Rattle.query_eval.specs.declared.filter.pair.Pair.{Pair}
use Rattle.query_eval.proofs.BelowLemmas.{pair_start, pair_skip, pair_end}
use Rattle.query_eval.proofs.filter.rows.among_by_row.Goals as goal
use Rattle.query_eval.proofs.filter.rows.among_by_row.Goals.{then-get, else-get}

abbrev judged : List Bool → List ℤ → List ℤ → ℕ → Truth
judged nulls values literals n = is_among (whole (cond (has nulls n) None (Some (slice_index_or values n (pos 0))))) literals

pub loop-row-init : goal.loop-row-init
loop-row-init c = pair_start c.args.mask.now (judged c.args.nulls.now c.args.values.now c.args.literals.now) _ c.none.ensures c.none-2.ensures

pub loop-row-preserved : goal.loop-row-preserved
loop-row-preserved c =
    let t : ℕ → Truth = judged c.args.nulls.now c.args.values.now c.args.literals.now in
    elim c.if-get.branch [
      | then-get w ↦ subst (λ (p : Pair). IsPairBelow (c.loop-row.row + 1) c.args.mask.now t p) (sym w.pair-is)
          (w.put.ensures c.args.mask.now t c.loop-row.invariant (sym c.get.ensures ∙ w.if-get.true)
          (sym (w.among.ensures ∙ ap (λ (x : Option ℤ). is_among (whole x) c.args.literals.now) w.cell_of.ensures)))
      | else-get w ↦ subst (λ (p : Pair). IsPairBelow (c.loop-row.row + 1) c.args.mask.now t p) (sym w.pair-is)
          (pair_skip c.args.mask.now t c.loop-row.row c.loop-row.pair (sym c.get.ensures ∙ w.if-get.false) c.loop-row.invariant)
    ]

pub returns : goal.returns
returns c =
    let t : ℕ → Truth = judged c.args.nulls.now c.args.values.now c.args.literals.now in
    let e : c.loop-row.row ≡ 1024 = omega (arith, c.loop-row-test.false, c.loop-row.auto.row-end) in
    pair_end c.args.mask.now t c.loop-row.pair (subst (λ (k : ℕ). IsPairBelow k c.args.mask.now t c.loop-row.pair) e c.loop-row.invariant)
