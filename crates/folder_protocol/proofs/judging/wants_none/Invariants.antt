use Rattle.std.proofs.Common.{length, ◌-◌, ◌≤◌, ℕ, List, map, take}
use Rattle.std.specs.String.{string_bytes}
use Rattle.folder_model.specs.Disk.{Among}
use Rattle.folder_protocol.proofs.judging.wants_none.Given as goal

-- how far it is
abbrev pub invariant-loop-at : goal.invariant-loop-at
invariant-loop-at g l = record {
  within : l.at ≤ length l.names;
  passed : (name : List ℕ) → Among name (take l.at (map string_bytes l.names)) → g.T.Taker.passes l.judge name;
}

abbrev pub decreases-loop-at : goal.decreases-loop-at
decreases-loop-at g l = length l.names - l.at
