-- The columns so far are read.
use Rattle.std.proofs.Common.{◌≡◌, ◌+◌, ◌≤◌, ◌<◌, ℕ, length, map, take}
use Rattle.table_model.specs.Group.{cell}
use Rattle.query_eval.specs.Keys.{key_cell}
use Rattle.query_eval.specs.Vector.{row_at, vector_at}
use Rattle.query_eval.proofs.grouping.key_columns.read_columns.Given as goal

abbrev pub invariant-loop-index : goal.invariant-loop-index
invariant-loop-index g l =
    let v = vector_at (g.C.Columns.seen l.initial.columns).state l.id.batch l.id.vector in
    record {
      size : length l.keys.items ≡ length l.places;
      cells : (n : ℕ) → n < 1024 → map (λ key. key_cell key n) (take l.index l.keys.items) ≡ map (cell (row_at v n)) (take l.index l.places);
      table : (g.C.Columns.seen l.columns).table ≡ (g.C.Columns.seen l.initial.columns).table;
      state : (g.C.Columns.seen l.columns).state ≡ (g.C.Columns.seen l.initial.columns).state;
      passes : (g.C.Columns.seen l.columns).passes ≤ (g.C.Columns.seen l.initial.columns).passes + l.index;
    }
