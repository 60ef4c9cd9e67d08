-- The cells of the columns so far.
use Rattle.std.proofs.Common.{◌≡◌, map, take}
use Rattle.query_eval.specs.Keys.{key_cell}
use Rattle.query_eval.proofs.grouping.slices.read_key.Given as goal

abbrev pub invariant-loop-column : goal.invariant-loop-column
invariant-loop-column l = l.key ≡ map (λ column. key_cell column l.row) (take l.column-index l.columns)
