-- Frames whose values are plain sums, and those that their reference and width decide a comparison of.
use Rattle.std.specs.Prelude.{◌-◌, ◌^◌, ◌⊎◌, ℤ, pos, ◌+ℤ◌, ◌<ℤ◌, ◌≤ℤ◌}
use Rattle.frame_delta.specs.Frame.{FrameForm}

-- the reference plus the greatest number of the width
abbrev pub top_value : FrameForm → ℤ
top_value form = form.reference +ℤ pos (2 ^ form.width - 1)

-- no value wraps: the greatest is in the range of the lane width
abbrev pub IsPlain : FrameForm → Type 0
IsPlain form = top_value form ≤ℤ pos (2 ^ (form.lane_width - 1) - 1)

-- the values are all outside a range, or all within it
abbrev pub IsDecided : FrameForm → ℤ → ℤ → Type 0
IsDecided form low high = (high <ℤ form.reference) ⊎ (top_value form <ℤ low) ⊎ (high <ℤ low) ⊎ ((low ≤ℤ form.reference) × (top_value form ≤ℤ high))
