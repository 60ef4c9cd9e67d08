-- The texts before this one are there.
use Rattle.std.proofs.Common.{◌≡◌, take, map}
use Rattle.std.specs.String.{string_bytes}
use Rattle.replica_reports.proofs.columns_text.Line.of_texts.Given as goal

abbrev pub invariant-loop-text : goal.invariant-loop-text
invariant-loop-text l = map string_bytes l.cells.items ≡ map (λ text. text.now) (take l.text-index l.texts)
