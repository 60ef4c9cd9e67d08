use Rattle.std.proofs.Common.{◌≡◌, ◌++◌, [], take}
use Rattle.std.specs.List.{flat_map}
use Rattle.partial_file.specs.PartialAnswerBytes.{run}
use Rattle.partial_file.proofs.run_writing.push_run_list.Given as goal

abbrev pub invariant-loop-one : goal.invariant-loop-one
invariant-loop-one l = l.bytes.items ≡ l.initial.bytes.items ++ flat_map (run []).spell (take l.one-index l.all)
