-- The members before this one are there.
use Rattle.std.proofs.Common.{◌≡◌, ◌++◌, codes, take}
use Rattle.answer_formats.specs.Formats.{separated}
use Rattle.replica_reports.specs.ColumnTexts.{line_members}
use Rattle.replica_reports.proofs.columns_json.push_members.Given as goal

abbrev pub invariant-loop-index : goal.invariant-loop-index
invariant-loop-index l = l.out.items ≡ l.initial.out.items ++ separated (codes ",") (take l.index (line_members l.texts 0 l.keys l.line))
