-- The walk's numbers are the raised values of the deltas.
use Rattle.std.proofs.Common.{rules, FitsSigned, cond, pos, ◌+ℤ◌, sym, ap, ◌∙◌}
use Rattle.std.specs.Int.{w128}
use Rattle.std.proofs.lemmas.Int.{to_z-of_z}
use Rattle.transpose_order.specs.Mask.{has}
use Rattle.frame_delta.specs.Delta.{delta_value}
use Rattle.native_lanes.specs.Folds.{fold_to}
use Rattle.native_lanes.specs.Packed.{value_of}
use Rattle.native_lanes.specs.declared.packed.Packed.{Packed}
use Rattle.native_lanes.proofs.packed.Packed.sum.Goals as goal

pub returns-in-16-clause-value : goal.returns-in-16-clause-value
returns-in-16-clause-value c =
    let wide : FitsSigned w128 c.sum_of_values.result = search rules in
    to_z-of_z w128 c.sum_of_values.result wide ∙ c.sum_of_values.ensures (delta_value c.in-Deltas.form.now) c.walk_of_deltas_16.ensures
    ∙ ap (λ (p : Packed). fold_to ◌+ℤ◌ (pos 0) 1024 (λ n. cond (has c.args.rows.now n) (value_of p n) (pos 0))) (sym c.in-Deltas.is)

pub returns-in-32-clause-value : goal.returns-in-32-clause-value
returns-in-32-clause-value c =
    let wide : FitsSigned w128 c.sum_of_values-in-32.result = search rules in
    to_z-of_z w128 c.sum_of_values-in-32.result wide ∙ c.sum_of_values-in-32.ensures (delta_value c.in-Deltas.form.now) c.walk_of_deltas_32.ensures
    ∙ ap (λ (p : Packed). fold_to ◌+ℤ◌ (pos 0) 1024 (λ n. cond (has c.args.rows.now n) (value_of p n) (pos 0))) (sym c.in-Deltas.is)

pub returns-in-64-clause-value : goal.returns-in-64-clause-value
returns-in-64-clause-value c =
    let wide : FitsSigned w128 c.sum_of_values-in-64.result = search rules in
    to_z-of_z w128 c.sum_of_values-in-64.result wide ∙ c.sum_of_values-in-64.ensures (delta_value c.in-Deltas.form.now) c.walk_of_deltas_64.ensures
    ∙ ap (λ (p : Packed). fold_to ◌+ℤ◌ (pos 0) 1024 (λ n. cond (has c.args.rows.now n) (value_of p n) (pos 0))) (sym c.in-Deltas.is)
