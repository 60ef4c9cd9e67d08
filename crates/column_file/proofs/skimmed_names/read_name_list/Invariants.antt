use Rattle.std.proofs.Common.{◌≡◌, ◌-◌, []}
use Rattle.segment_core.specs.Format.{read_all}
use Rattle.column_file.specs.Skimming.{as_name}
use Rattle.column_file.proofs.skimmed_names.read_name_list.Given as goal

abbrev pub invariant-loop : goal.invariant-loop
invariant-loop l = read_all (as_name l.schema) (l.count - l.counter) l.names.items l.total l.rest ≡ read_all (as_name l.schema) l.count [] l.total l.bytes
