-- The walk's numbers are the raised values.
use Rattle.std.proofs.Common.{◌^◌, sym, ap, ◌∙◌}
use Rattle.frame_delta.specs.Frame.{frame_value, frame_values}
use Rattle.frame_delta.specs.Delta.{delta_value, delta_values}
use Rattle.native_lanes.specs.Packed.{values_of}
use Rattle.native_lanes.specs.Walks.{number_of_row}
use Rattle.native_lanes.proofs.RaisedLemmas.{values_of_raised}
use Rattle.native_lanes.proofs.packed.Packed.write_values.Goals as goal

pub returns-in-16 : goal.returns-in-16
unfolding frame_values
returns-in-16 c =
    values_of_raised (frame_value c.in-Frame.form.now) (number_of_row c.walk_of_frame_16.result) (2 ^ 15) c.write_values.new.values c.write_values.array_long c.walk_of_frame_16.ensures c.write_values.ensures
    ∙ ap values_of (sym c.in-Frame.is)

pub returns-in-16-lane_width : goal.returns-in-16-lane_width
unfolding delta_values
returns-in-16-lane_width c =
    values_of_raised (delta_value c.in-Deltas.form.now) (number_of_row c.walk_of_deltas_16.result) (2 ^ 15) c.write_values-in-16-lane_width.new.values c.write_values-in-16-lane_width.array_long c.walk_of_deltas_16.ensures c.write_values-in-16-lane_width.ensures
    ∙ ap values_of (sym c.in-Deltas.is)
