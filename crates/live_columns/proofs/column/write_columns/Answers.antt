-- One column more.
use Rattle.std.proofs.Common.{◌≡◌, ◌+◌, ◌-◌, ◌*◌, ◌<◌, ◌≤◌, ℕ, ℤ, List, [], ◌∷◌, ◌++◌, map, length, take, drop, get_or, Option, sym, ap, ◌∙◌, arith, length-take-le}
use Rattle.std.proofs.lemmas.List.{length-map}
use Rattle.table_model.specs.State.{State, Cells}
use Rattle.table_model.specs.declared.names.RowName.{RowName}
use Rattle.query_eval.specs.declared.filter.kept_rows.KeptVector.{KeptVector}
use Rattle.live_columns.specs.Chosen.{cells_in, columns_in, rows_in}
use Rattle.live_columns.specs.Columns.{null_count, number_at, numbers_of, stride_of, validities, validity}
use Rattle.live_columns.proofs.ColumnSteps.{columns-more, each-more, nulls-more, numbers-long, put-behind, set-behind, validities-long}
use Rattle.live_columns.proofs.column.write_columns.Goals as goal

next_place : (i n : ℕ) → (i + 1) * n ≡ i * n + n
next_place i n = omega arith

same_width : (a n : ℕ) → a + n - a ≡ n
same_width a n = omega arith

pub loop-index-preserved : goal.loop-index-preserved
loop-index-preserved g c =
    let s = (g.C.Columns.seen c.args.columns.now).state in
    let vectors : List KeptVector = c.args.chosen.now.vectors.items in
    let rows : List (RowName × Cells) = rows_in s vectors in
    let places : List ℕ = c.args.places.now in
    let i : ℕ = c.loop-index.index in
    let n : ℕ = c.args.chosen.now.count in
    let stride : ℕ = c.stride_of-stride.result in
    let inv = c.loop-index.invariant in
    let ensures = c.write_column-missing.ensures in
    let inside : i < length places = omega arith in
    let many : n ≡ length rows = c.requires.chosen.count in
    let taken : length (take i places) ≡ i = length-take-le {A = ℕ} i places (omega (arith, inside)) in
    let column : List (Option ℤ) = cells_in (get_or places i 0) rows in
    let front : List (List (Option ℤ)) = columns_in (take i places) rows in
    let more : columns_in (take (i + 1) places) rows ≡ front ++ column ∷ [] = columns-more places i rows inside in
    let now : cells_in (get_or places i 0) (rows_in (g.C.Columns.seen c.loop-index.columns).state vectors) ≡ column = ap (λ (x : State). cells_in (get_or places i 0) (rows_in x vectors)) inv.state in
    record {
      values =
          put-behind (i * n) n (i * n + n - i * n) ((i + 1) * n) (numbers_of front) c.args.values.now c.loop-index.values c.write_column-missing.new.values (same_width (i * n) n) (next_place i n) inv.values
          (numbers-long (take i places) rows ∙ ap (λ k. k * length rows) taken ∙ ap (λ k. i * k) (sym many))
          ∙ ap (λ l. (numbers_of front ++ l) ++ drop ((i + 1) * n) c.args.values.now) (ensures.values ∙ ap (map number_at) now)
          ∙ ap (λ l. l ++ drop ((i + 1) * n) c.args.values.now) (sym (each-more (map number_at) front (columns_in (take (i + 1) places) rows) column more));
      valid =
          put-behind (i * stride) stride (i * stride + stride - i * stride) ((i + 1) * stride_of n) (validities front) c.args.valid.now c.loop-index.valid c.write_column-missing.new.valid (same_width (i * stride) stride)
          (ap (λ k. (i + 1) * k) (sym c.stride_of-stride.ensures) ∙ next_place i stride) (inv.valid ∙ ap (λ k. validities front ++ drop (i * k) c.args.valid.now) (sym c.stride_of-stride.ensures))
          (validities-long (take i places) rows ∙ ap (λ k. k * stride_of (length rows)) taken ∙ ap (λ k. i * stride_of k) (sym many) ∙ ap (λ k. i * k) (sym c.stride_of-stride.ensures))
          ∙ ap (λ l. (validities front ++ l) ++ drop ((i + 1) * stride_of n) c.args.valid.now) (ensures.valid ∙ ap validity now)
          ∙ ap (λ l. l ++ drop ((i + 1) * stride_of n) c.args.valid.now) (sym (each-more validity front (columns_in (take (i + 1) places) rows) column more));
      nulls =
          set-behind i (map null_count front) c.args.nulls.now c.loop-index.nulls c.write_column-missing.result inv.nulls
          (length-map {B = ℕ} front null_count ∙ length-map {B = List (Option ℤ)} (take i places) _ ∙ taken) (omega (arith, inside, c.requires.nulls, c.loop-index.auto.nulls))
          ∙ ap (λ k. (map null_count front ++ k ∷ []) ++ drop (i + 1) c.args.nulls.now) (ensures.nulls ∙ ap null_count now)
          ∙ ap (λ l. l ++ drop (i + 1) c.args.nulls.now) (sym (nulls-more front (columns_in (take (i + 1) places) rows) column more));
      table = ensures.same.table ∙ inv.table;
      state = ensures.same.state ∙ inv.state;
      passes = omega (arith, inv.passes, ensures.passes, next_place i (length vectors));
    }
