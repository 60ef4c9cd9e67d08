-- The numbers, the bits and the nulls of a vector are those of its cells at the rows that are kept.
use Rattle.std.proofs.Common.{◌≡◌, ◌+◌, ◌≤◌, ℕ, ℤ, Bool, List, ◌++◌, map, length, take, count_by, is_none, sym, ap, subst, ◌∙◌, arith}
use Rattle.std.proofs.lemmas.List.{length-map}
use Rattle.table_model.specs.State.{Cells}
use Rattle.table_model.specs.declared.names.RowName.{RowName}
use Rattle.live_columns.specs.Bits.{AreMarked}
use Rattle.live_columns.specs.Chosen.{cells_in, kept_in}
use Rattle.live_columns.specs.Columns.{number_at}
use Rattle.live_columns.proofs.CellSteps.{flags-count, numbers-length, vector-flags, vector-numbers}
use Rattle.live_columns.proofs.column.write_vector.Goals as goal

pub put_rows-requires : goal.put_rows-requires
put_rows-requires g c =
    let s = (g.C.Columns.seen c.args.columns.now).state in
    record {
      room = omega (arith, c.requires.values, ap length (vector-numbers s c.args.column c.args.kept.now c.cells_into-nulls.new.numbers c.cells_into-nulls.ensures.numbers), numbers-length s c.args.column c.args.kept.now);
      size = c.requires.rows;
    }

pub clear_nulls-requires : goal.clear_nulls-requires
clear_nulls-requires g c =
    let s = (g.C.Columns.seen c.args.columns.now).state in
    let rows : List (RowName × Cells) = kept_in s c.args.kept.now in
    record {
      room =
          omega (
            arith,
            c.requires.values,
            c.requires.valid,
            ap length (vector-flags s c.args.column c.args.kept.now c.cells_into-nulls.result c.cells_into-nulls.ensures.nulls),
            length-map {B = Bool} (cells_in c.args.column rows) is_none,
            numbers-length s c.args.column c.args.kept.now,
            length-map {B = ℤ} (cells_in c.args.column rows) number_at,
          );
      size = c.requires.size;
    }

pub returns-clause-values : goal.returns-clause-values
returns-clause-values g c =
    let s = (g.C.Columns.seen c.args.columns.now).state in
    let is = vector-numbers s c.args.column c.args.kept.now c.cells_into-nulls.new.numbers c.cells_into-nulls.ensures.numbers in
    ap (λ (n : ℕ). take (c.args.first + n) c.put_rows.new.values) (sym (ap length is ∙ numbers-length s c.args.column c.args.kept.now))
    ∙ c.put_rows.ensures ∙ ap (λ (l : List ℤ). take c.args.first c.args.values.now ++ l) is

pub returns-clause-valid : goal.returns-clause-valid
returns-clause-valid g c = λ before cells first h.
    let s = (g.C.Columns.seen c.args.columns.now).state in
    subst (λ (l : List Bool). AreMarked before (cells ++ l) c.clear_nulls.new.valid) (vector-flags s c.args.column c.args.kept.now c.cells_into-nulls.result c.cells_into-nulls.ensures.nulls) (c.clear_nulls.ensures.marked before cells first h)

pub returns-clause-nulls : goal.returns-clause-nulls
returns-clause-nulls g c =
    let s = (g.C.Columns.seen c.args.columns.now).state in
    c.clear_nulls.ensures.count ∙ ap (count_by (λ b. b)) (vector-flags s c.args.column c.args.kept.now c.cells_into-nulls.result c.cells_into-nulls.ensures.nulls) ∙ flags-count (cells_in c.args.column (kept_in s c.args.kept.now))
