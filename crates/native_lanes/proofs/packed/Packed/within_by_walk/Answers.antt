-- The walk's numbers are the raised values.
use Rattle.std.proofs.Common.{sym, ap, ◌∙◌}
use Rattle.transpose_order.specs.Mask.{rows_of}
use Rattle.frame_delta.specs.Frame.{frame_value}
use Rattle.frame_delta.specs.Delta.{delta_value}
use Rattle.native_lanes.specs.Between.{between}
use Rattle.native_lanes.specs.Packed.{value_of}
use Rattle.native_lanes.specs.declared.packed.Packed.{Packed}
use Rattle.native_lanes.proofs.PackedLemmas.{rows_passed}
use Rattle.native_lanes.proofs.packed.Packed.within_by_walk.Goals as goal

pub returns-in-16-clause-value : goal.returns-in-16-clause-value
returns-in-16-clause-value c =
    c.values_between.ensures (frame_value c.in-Frame.form.now) c.walk_of_frame_16.ensures ∙ rows_passed c.args.low c.args.high (frame_value c.in-Frame.form.now) c.ranges.low c.ranges.high
    ∙ ap (λ (p : Packed). rows_of (λ n. between c.args.low c.args.high (value_of p n))) (sym c.in-Frame.is)

pub returns-in-32-clause-value : goal.returns-in-32-clause-value
returns-in-32-clause-value c =
    c.values_between-in-32.ensures (frame_value c.in-Frame.form.now) c.walk_of_frame_32.ensures ∙ rows_passed c.args.low c.args.high (frame_value c.in-Frame.form.now) c.ranges.low c.ranges.high
    ∙ ap (λ (p : Packed). rows_of (λ n. between c.args.low c.args.high (value_of p n))) (sym c.in-Frame.is)

pub returns-in-64-clause-value : goal.returns-in-64-clause-value
returns-in-64-clause-value c =
    c.values_between-in-64.ensures (frame_value c.in-Frame.form.now) c.walk_of_frame_64.ensures ∙ rows_passed c.args.low c.args.high (frame_value c.in-Frame.form.now) c.ranges.low c.ranges.high
    ∙ ap (λ (p : Packed). rows_of (λ n. between c.args.low c.args.high (value_of p n))) (sym c.in-Frame.is)

pub returns-in-16-lane_width-clause-value : goal.returns-in-16-lane_width-clause-value
returns-in-16-lane_width-clause-value c =
    c.values_between-in-16-lane_width.ensures (delta_value c.in-Deltas.form.now) c.walk_of_deltas_16.ensures ∙ rows_passed c.args.low c.args.high (delta_value c.in-Deltas.form.now) c.ranges.low c.ranges.high
    ∙ ap (λ (p : Packed). rows_of (λ n. between c.args.low c.args.high (value_of p n))) (sym c.in-Deltas.is)

pub returns-in-32-lane_width-clause-value : goal.returns-in-32-lane_width-clause-value
returns-in-32-lane_width-clause-value c =
    c.values_between-in-32-lane_width.ensures (delta_value c.in-Deltas.form.now) c.walk_of_deltas_32.ensures ∙ rows_passed c.args.low c.args.high (delta_value c.in-Deltas.form.now) c.ranges.low c.ranges.high
    ∙ ap (λ (p : Packed). rows_of (λ n. between c.args.low c.args.high (value_of p n))) (sym c.in-Deltas.is)

pub returns-in-64-lane_width-clause-value : goal.returns-in-64-lane_width-clause-value
returns-in-64-lane_width-clause-value c =
    c.values_between-in-64-lane_width.ensures (delta_value c.in-Deltas.form.now) c.walk_of_deltas_64.ensures ∙ rows_passed c.args.low c.args.high (delta_value c.in-Deltas.form.now) c.ranges.low c.ranges.high
    ∙ ap (λ (p : Packed). rows_of (λ n. between c.args.low c.args.high (value_of p n))) (sym c.in-Deltas.is)
