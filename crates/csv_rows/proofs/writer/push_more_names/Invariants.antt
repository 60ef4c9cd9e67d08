use Rattle.std.proofs.Common.{◌≡◌, ◌++◌, take}
use Rattle.std.specs.List.{flat_map}
use Rattle.csv_rows.specs.Written.{name_at}
use Rattle.csv_rows.proofs.RowTexts.{comma}
use Rattle.csv_rows.proofs.writer.push_more_names.Given as goal

abbrev pub invariant-loop-place : goal.invariant-loop-place
invariant-loop-place l = l.out.items ≡ l.initial.out.items ++ flat_map (comma (name_at l.columns)) (take l.place-index l.places)
