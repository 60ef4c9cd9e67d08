use Rattle.std.proofs.Common.{◌≡◌, ◌+◌, [], length, option_map}
use Rattle.csv_rows.specs.Field.{fields_of, fields_left, left_len}
use Rattle.csv_rows.specs.CsvText.{order_from}
use Rattle.csv_rows.proofs.header.places_named.Given as goal

abbrev pub invariant-loop-rest : goal.invariant-loop-rest
invariant-loop-rest l = order_from l.columns (length l.places.items + 1) l.places.items (fields_left l.separator (option_map (λ rest. rest.now) l.rest)) ≡ order_from l.columns 1 [] (fields_of l.separator l.line)

abbrev pub decreases-loop-rest : goal.decreases-loop-rest
decreases-loop-rest l = left_len (option_map (λ rest. rest.now) l.rest)
