-- the lanes of the group so far, and those before it as they were
use Rattle.std.proofs.Common.{◌≡◌, ℕ, ◌+◌, ◌*◌, ◌/◌, ◌%◌, ◌^◌, ◌<◌, length, slice_index}
use Rattle.native_lanes.proofs.walk_32.put_group.Given as goal

abbrev pub invariant-loop-j : goal.invariant-loop-j
invariant-loop-j l = record {
  long : length l.lanes ≡ 32;
  here : (k : ℕ) → k < l.j → slice_index l.lanes (16 * l.group + k) ≡ slice_index l.words k / 2 ^ l.shift % 2 ^ 32;
  before : (k : ℕ) → k < 16 * l.group → slice_index l.lanes k ≡ slice_index l.initial.lanes k;
}
