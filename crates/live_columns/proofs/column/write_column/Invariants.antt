-- The cells at the first vectors are written.
use Rattle.std.proofs.Common.{◌≡◌, ◌<◌, ◌≤◌, ◌+◌, ◌^◌, ℕ, get_or, map, length, take, is_none}
use Rattle.live_columns.specs.Bits.{AreMarked, front_bit}
use Rattle.live_columns.specs.Chosen.{cells_in, rows_in}
use Rattle.live_columns.specs.Columns.{null_count, number_at}
use Rattle.live_columns.proofs.column.write_column.Given as goal

abbrev pub invariant-loop-kept : goal.invariant-loop-kept
invariant-loop-kept g l =
    let s = (g.C.Columns.seen l.initial.columns).state in
    let front = rows_in s (take l.kept-index l.chosen.vectors.items) in
    record {
      first : l.first ≡ length front;
      values : take l.first l.values ≡ map number_at (cells_in l.column front);
      valid : AreMarked (front_bit l.chosen.count) (map is_none (cells_in l.column front)) l.valid;
      bytes : (k : ℕ) → get_or l.valid k 0 < 2 ^ 8;
      nulls : l.nulls ≡ null_count (cells_in l.column front);
      table : (g.C.Columns.seen l.columns).table ≡ (g.C.Columns.seen l.initial.columns).table;
      state : (g.C.Columns.seen l.columns).state ≡ s;
      passes : (g.C.Columns.seen l.columns).passes ≤ (g.C.Columns.seen l.initial.columns).passes + l.kept-index;
    }
