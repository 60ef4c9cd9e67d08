use Rattle.std.proofs.Common.{◌≡◌, ◌-◌, [], map}
use Rattle.segment_core.specs.Format.{read_all}
use Rattle.column_file.specs.SchemaBytes.{shape_of, column}
use Rattle.column_file.proofs.schema_reading.read_columns.Given as goal

abbrev pub invariant-loop : goal.invariant-loop
invariant-loop l = read_all (column l.version) (l.count - l.counter) (map (λ c. shape_of (c.0.now, c.1)) l.columns.items) l.total l.rest ≡ read_all (column l.version) l.count [] l.total l.bytes
