-- The columns so far are canonical.
use Rattle.std.proofs.Common.{◌≡◌, map, take}
use Rattle.segment_core.specs.Segment.{canonical_vectors}
use Rattle.column_file.proofs.differing.first_other.Given as goal

abbrev pub invariant-loop-column : goal.invariant-loop-column
invariant-loop-column l = take l.column (map canonical_vectors l.segment.forms) ≡ take l.column l.segment.forms
