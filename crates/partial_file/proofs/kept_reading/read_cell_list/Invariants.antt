use Rattle.std.proofs.Common.{◌≡◌, ◌-◌, []}
use Rattle.segment_core.specs.Format.{read_all}
use Rattle.partial_file.specs.PartialAnswerBytes.{cell}
use Rattle.partial_file.proofs.kept_reading.read_cell_list.Given as goal

abbrev pub invariant-loop : goal.invariant-loop
invariant-loop l = read_all (λ _. cell) (l.count - l.counter) l.key l.total l.rest ≡ read_all (λ _. cell) l.count [] l.total l.bytes
