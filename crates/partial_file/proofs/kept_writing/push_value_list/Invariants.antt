use Rattle.std.proofs.Common.{◌≡◌, ◌++◌, IsTrue, take}
use Rattle.std.specs.List.{flat_map, list_all}
use Rattle.segment_core.specs.Format.{signed}
use Rattle.partial_file.proofs.kept_writing.push_value_list.Given as goal

abbrev pub invariant-loop-one : goal.invariant-loop-one
invariant-loop-one l = (l.bytes.items ≡ l.initial.bytes.items ++ flat_map (signed 64).spell (take l.one-index l.all)) × IsTrue (list_all (signed 64).valid (take l.one-index l.all))
