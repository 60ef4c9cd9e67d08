-- Frames and deltas under one name.
use Rattle.std.specs.Prelude.{ℕ, ℤ, List}
use Rattle.frame_delta.specs.Frame.{frame_value, frame_values}
use Rattle.frame_delta.specs.Delta.{delta_value, delta_values}
use Rattle.native_lanes.specs.Frames.{IsPlain, IsDecided}
use Rattle.native_lanes.specs.declared.packed.Packed.{Packed}
use Rattle.native_lanes.specs.declared.packed.Packed.TheVariants.{Frame, Deltas}

-- the value at row n
abbrev pub value_of : Packed → ℕ → ℤ
value_of (Frame form) n = frame_value form.now n
value_of (Deltas form) n = delta_value form.now n

-- the bits of a lane
abbrev pub width_of : Packed → ℕ
width_of (Frame form) = form.now.lane_width
width_of (Deltas form) = form.now.lane_width

-- the 1024 values in row order
abbrev pub values_of : Packed → List ℤ
values_of (Frame form) = frame_values form.now
values_of (Deltas form) = delta_values form.now

-- a frame of plain sums whose reference and width decide whether values are in a range
abbrev pub IsDecidedFrame : Packed → ℤ → ℤ → Type 0
IsDecidedFrame (Frame form) low high = IsPlain form.now × IsDecided form.now low high
IsDecidedFrame (Deltas form) low high = ⊥
