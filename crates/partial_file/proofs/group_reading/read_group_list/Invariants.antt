use Rattle.std.proofs.Common.{◌≡◌, ◌-◌, [], map}
use Rattle.segment_core.specs.Format.{read_all}
use Rattle.partial_file.specs.PartialAnswerBytes.{entry_of, group}
use Rattle.partial_file.proofs.group_reading.read_group_list.Given as goal

abbrev pub invariant-loop : goal.invariant-loop
invariant-loop l = read_all group (l.count - l.counter) (map entry_of l.groups.entries) l.total l.rest ≡ read_all group l.count [] l.total l.bytes
