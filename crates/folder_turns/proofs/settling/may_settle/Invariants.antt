-- None of those before this one is a sync of the folder that failed.
use Rattle.std.proofs.Common.{◌≡◌, ◌≤◌, ◌-◌, ℕ, List, true, take, length}
use Rattle.folder_model.specs.Call.{Call, can_settle}
use Rattle.folder_turns.specs.Calls.{calls_after}
use Rattle.folder_turns.proofs.settling.may_settle.Given as goal

abbrev pub invariant-loop-at : goal.invariant-loop-at
invariant-loop-at l = record {
  within : l.at ≤ l.count;
  below : l.at ≤ length l.told;
  can : (whole : List ℕ) (before : List Call) → can_settle before ≡ true → can_settle (calls_after whole (take l.at l.told) before) ≡ true;
}

abbrev pub decreases-loop-at : goal.decreases-loop-at
decreases-loop-at l = l.count - l.at
