use Rattle.std.proofs.Common.{◌≡◌, ◌+◌, ◌≤◌, drop, length}
use Rattle.csv_rows.specs.Field.{fields_of}
use Rattle.csv_rows.proofs.bytes.count_fields.Given as goal

abbrev pub invariant-loop-byte : goal.invariant-loop-byte
invariant-loop-byte l = record { pieces : l.separators + length (fields_of l.separator (drop l.byte-index l.line)) ≡ length (fields_of l.separator l.line); few : l.separators ≤ l.byte-index }
