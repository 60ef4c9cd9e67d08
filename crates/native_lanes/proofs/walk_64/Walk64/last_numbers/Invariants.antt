-- each lane's number before the step
use Rattle.std.proofs.Common.{◌≡◌, ℕ, ◌<◌, slice_index}
use Rattle.native_lanes.specs.Walks.{number_before}
use Rattle.native_lanes.proofs.walk_64.Walk64.last_numbers.Given as goal

abbrev pub invariant-loop-step : goal.invariant-loop-step
invariant-loop-step l = record { numbers : (lane : ℕ) → lane < 16 → slice_index l.numbers lane ≡ number_before l.self lane l.step }
