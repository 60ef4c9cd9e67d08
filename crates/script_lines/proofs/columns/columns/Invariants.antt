use Rattle.std.proofs.Common.{◌≡◌, map, option_map}
use Rattle.table_model.specs.Pieces.{pieces}
use Rattle.script_lines.specs.Line.{columns_of, words_left, left_len}
use Rattle.script_lines.proofs.RowLaws.{after_all}
use Rattle.script_lines.proofs.columns.columns.Given as goal

abbrev pub invariant-loop-rest : goal.invariant-loop-rest
invariant-loop-rest l = after_all (map (λ column. (column.0.now, column.1)) l.columns.items) (columns_of (words_left (option_map (λ rest. rest.now) l.rest))) ≡ columns_of (pieces 32 l.text)

abbrev pub decreases-loop-rest : goal.decreases-loop-rest
decreases-loop-rest l = left_len (option_map (λ rest. rest.now) l.rest)
