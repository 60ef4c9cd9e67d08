-- The objects before this one are there.
use Rattle.std.proofs.Common.{◌≡◌, ◌++◌, codes, take, map}
use Rattle.answer_formats.specs.Formats.{separated}
use Rattle.replica_reports.specs.ColumnTexts.{line_object}
use Rattle.replica_reports.proofs.columns_json.push_each.Given as goal

abbrev pub invariant-loop-index : goal.invariant-loop-index
invariant-loop-index l = l.out.items ≡ l.initial.out.items ++ separated (codes ",") (take l.index (map (line_object l.texts l.keys) l.lines))
