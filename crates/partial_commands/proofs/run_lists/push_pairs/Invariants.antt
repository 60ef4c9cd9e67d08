-- The lists of the runs before this one are there.
use Rattle.std.proofs.Common.{◌≡◌, ◌++◌, codes, map, take}
use Rattle.answer_formats.specs.Formats.{separated}
use Rattle.partial_commands.specs.Coverage.{run_pair}
use Rattle.partial_commands.proofs.run_lists.push_pairs.Given as goal

abbrev pub invariant-loop-index : goal.invariant-loop-index
invariant-loop-index l = l.out.items ≡ l.initial.out.items ++ separated (codes ",") (take l.index (map run_pair l.runs))
