use Rattle.std.proofs.Common.{◌≡◌, ◌-◌, [], map, length}
use Rattle.std.specs.List.{All}
use Rattle.segment_core.specs.Format.{read_all}
use Rattle.column_file.specs.ContainerBytes.{IsRest, IsFound, entry_of, batch}
use Rattle.column_file.proofs.container_reading.read_batch_list.Given as goal

abbrev pub invariant-loop : goal.invariant-loop
invariant-loop l = record {
  read : read_all (batch l.schema) (l.count - l.counter) (map entry_of l.found.items) (length l.bytes) l.rest ≡ read_all (batch l.schema) l.count [] (length l.bytes) l.front;
  rest : IsRest l.bytes l.rest;
  found : All (IsFound l.schema) l.found.items;
}
