use Rattle.std.proofs.Common.{◌≡◌, ◌+◌, [], length, option_map}
use Rattle.csv_rows.specs.Field.{fields_left, left_len}
use Rattle.table_model.specs.Pieces.{pieces}
use Rattle.csv_rows.specs.Wording.{order_by}
use Rattle.csv_rows.proofs.order.Order.of_words.Given as goal

abbrev pub invariant-loop-rest : goal.invariant-loop-rest
invariant-loop-rest l = order_by l.columns (length l.fields.items + 1) l.fields.items (fields_left 44 (option_map (λ rest. rest.now) l.rest)) ≡ order_by l.columns 1 [] (pieces 44 l.words)

abbrev pub decreases-loop-rest : goal.decreases-loop-rest
decreases-loop-rest l = left_len (option_map (λ rest. rest.now) l.rest)
