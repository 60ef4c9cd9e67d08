-- The numbers at the first rows are written.
use Rattle.std.proofs.Common.{◌≡◌, ◌+◌, ◌++◌, length, take, get_or, pos}
use Rattle.live_columns.proofs.Picked.{picked_below}
use Rattle.live_columns.proofs.cells.put_rows.Given as goal

abbrev pub invariant-loop-row : goal.invariant-loop-row
invariant-loop-row l =
    record {
      end : l.end ≡ l.at + length (picked_below l.row l.rows (λ n. get_or l.numbers n (pos 0)));
      put : take l.end l.values ≡ take l.at l.initial.values ++ picked_below l.row l.rows (λ n. get_or l.numbers n (pos 0));
    }
