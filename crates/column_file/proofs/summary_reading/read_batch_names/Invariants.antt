use Rattle.std.proofs.Common.{◌≡◌, ◌-◌, []}
use Rattle.segment_core.specs.Format.{read_all}
use Rattle.column_file.specs.SummaryBytes.{batch_name}
use Rattle.column_file.proofs.summary_reading.read_batch_names.Given as goal

abbrev pub invariant-loop : goal.invariant-loop
invariant-loop l = read_all batch_name (l.count - l.counter) l.names.items l.total l.rest ≡ read_all batch_name l.count [] l.total l.bytes
