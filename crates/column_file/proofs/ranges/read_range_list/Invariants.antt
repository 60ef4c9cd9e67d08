-- The rest of the ranges is read of the rest of the bytes, and those so far are given.
use Rattle.std.proofs.Common.{◌≡◌, ◌-◌, [], map, All}
use Rattle.segment_core.specs.Format.{read_all}
use Rattle.column_file.specs.ContainerBytes.{deleted_of, range}
use Rattle.column_file.specs.Files.{IsRangeGiven}
use Rattle.column_file.proofs.RangesRead.{RangesRead}
use Rattle.column_file.proofs.ranges.read_range_list.Given as goal

abbrev pub invariant-loop : goal.invariant-loop
invariant-loop l = RangesRead (read_all range (l.count - l.counter) (map deleted_of l.found.items) l.total l.rest ≡ read_all range l.count [] l.total l.bytes) (All IsRangeGiven l.found.items)
