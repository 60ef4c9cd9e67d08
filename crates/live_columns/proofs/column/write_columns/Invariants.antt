-- The first columns are written.
use Rattle.std.proofs.Common.{◌≡◌, ◌≤◌, ◌+◌, ◌*◌, ◌++◌, length, map, take, drop}
use Rattle.live_columns.specs.Chosen.{columns_in, rows_in}
use Rattle.live_columns.specs.Columns.{null_count, numbers_of, stride_of, validities}
use Rattle.live_columns.proofs.column.write_columns.Given as goal

abbrev pub invariant-loop-index : goal.invariant-loop-index
invariant-loop-index g l =
    let s = (g.C.Columns.seen l.initial.columns).state in
    let front = columns_in (take l.index l.places) (rows_in s l.chosen.vectors.items) in
    record {
      values : l.values ≡ numbers_of front ++ drop (l.index * l.chosen.count) l.initial.values;
      valid : l.valid ≡ validities front ++ drop (l.index * stride_of l.chosen.count) l.initial.valid;
      nulls : l.nulls ≡ map null_count front ++ drop l.index l.initial.nulls;
      table : (g.C.Columns.seen l.columns).table ≡ (g.C.Columns.seen l.initial.columns).table;
      state : (g.C.Columns.seen l.columns).state ≡ s;
      passes : (g.C.Columns.seen l.columns).passes ≤ (g.C.Columns.seen l.initial.columns).passes + l.index * length l.chosen.vectors.items;
    }
