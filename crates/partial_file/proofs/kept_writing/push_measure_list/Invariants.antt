use Rattle.std.proofs.Common.{◌≡◌, ◌++◌, IsTrue, take}
use Rattle.std.specs.List.{flat_map, list_all}
use Rattle.partial_file.specs.PartialAnswerBytes.{kept}
use Rattle.partial_file.proofs.kept_writing.push_measure_list.Given as goal

abbrev pub invariant-loop-measure : goal.invariant-loop-measure
invariant-loop-measure l = (l.bytes.items ≡ l.initial.bytes.items ++ flat_map kept.spell (take l.measure-index l.measures)) × IsTrue (list_all kept.valid (take l.measure-index l.measures))
