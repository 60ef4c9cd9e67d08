use Rattle.std.proofs.Common.{◌≡◌, ◌-◌, []}
use Rattle.segment_core.specs.Format.{read_all}
use Rattle.partial_file.specs.PartialAnswerBytes.{value}
use Rattle.partial_file.proofs.kept_reading.read_value_list.Given as goal

abbrev pub invariant-loop : goal.invariant-loop
invariant-loop l = read_all value (l.count - l.counter) l.found.items l.total l.rest ≡ read_all value l.count [] l.total l.bytes
