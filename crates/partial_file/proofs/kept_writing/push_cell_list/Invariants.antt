use Rattle.std.proofs.Common.{◌≡◌, ◌++◌, IsTrue, take}
use Rattle.std.specs.List.{flat_map, list_all}
use Rattle.partial_file.specs.PartialAnswerBytes.{cell}
use Rattle.partial_file.proofs.kept_writing.push_cell_list.Given as goal

abbrev pub invariant-loop-one : goal.invariant-loop-one
invariant-loop-one l = (l.bytes.items ≡ l.initial.bytes.items ++ flat_map cell.spell (take l.one-index l.cells)) × IsTrue (list_all cell.valid (take l.one-index l.cells))
