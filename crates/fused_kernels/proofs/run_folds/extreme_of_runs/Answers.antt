-- Each run has a row.
use Rattle.std.proofs.Common.{rules, pos, length, Some, FitsSigned, ap, ◌∙◌}
use Rattle.std.specs.Int.{w64, int_max}
use Rattle.std.proofs.lemmas.Int.{to_z-of_z}
use Rattle.transpose_order.specs.Mask.{has}
use Rattle.bit_interleave.specs.LaneValues.{LaneValues}
use Rattle.bit_interleave.specs.Range.{value_at}
use Rattle.bit_interleave.proofs.WrapLemmas.{fits_wide}
use Rattle.native_lanes.specs.Folds.{fold_to}
use Rattle.table_model.specs.Extreme.{turned}
use Rattle.fused_kernels.proofs.ExtremeLemmas.{bottom}
use Rattle.fused_kernels.proofs.RunFoldLemmas.{extreme_of_all_rows}
use Rattle.fused_kernels.proofs.run_folds.extreme_of_runs.Goals as goal

pub returns-then-is_all : goal.returns-then-is_all
returns-then-is_all c =
    let form = c.args.form.now in
    let side = c.args.side in
    let passed : FitsSigned w64 c.extreme_of_all.result = search rules in
    let is = c.values.ensures.form in
    let first : FitsSigned w64 (value_at form.values 0) = fits_wide form.lane_width (value_at form.values 0) is.lane_width (is.range 0 (pos 0) c.values.ensures.some) in
    ap Some (to_z-of_z w64 c.extreme_of_all.result passed ∙ c.extreme_of_all.ensures ∙ ap (λ (x : LaneValues). turned side (fold_to int_max bottom (length x.values) (λ i. turned side (value_at x.values i)))) c.values.ensures.value)
    ∙ extreme_of_all_rows side form (has c.args.rows.now) c.values.ensures.form first (c.is_all.ensures.all (search rules))
