use Rattle.std.proofs.Common.{length, ◌-◌, ◌≤◌, ℕ, List, map, take}
use Rattle.std.specs.String.{string_bytes}
use Rattle.folder_model.specs.Disk.{Among}
use Rattle.folder_protocol.proofs.replacing.has_each.Given as goal

-- how far it is
abbrev pub invariant-loop-at : goal.invariant-loop-at
invariant-loop-at l = record {
  within : l.at ≤ length l.names;
  each : (name : List ℕ) → Among name (take l.at (map string_bytes l.names)) → Among name (map string_bytes l.listed);
}

abbrev pub decreases-loop-at : goal.decreases-loop-at
decreases-loop-at l = length l.names - l.at
