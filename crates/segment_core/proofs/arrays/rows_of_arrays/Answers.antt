-- Each step makes one row more.
use Rattle.std.proofs.Common.{◌≡◌, ◌∷◌, ◌++◌, [], ℕ, map, take, drop, length, ap, sym, ◌∙◌, arith}
use Rattle.std.proofs.lemmas.List.{take_at, length-map}
use Rattle.std.proofs.lemmas.List.FromFn.{map-range_with_len_more}
use Rattle.std.specs.List.{range_with_len}
use Rattle.table_model.specs.State.{Batch, Cells}
use Rattle.segment_core.specs.Arrays.{ArrayForm, array_cell, array_row, array_rows}
use Rattle.segment_core.proofs.arrays.rows_of_arrays.Goals as goal

pub loop-row-preserved : goal.loop-row-preserved
loop-row-preserved c =
    let f : ℕ → Cells = array_row c.args.arrays.now in
    let n : ℕ = c.loop-row.row in
    let new : Cells = c.write_row.new.cells in
    let wide : length (f n) ≡ length c.args.arrays.now = length-map c.args.arrays.now (λ (a : ArrayForm). array_cell a n) in
    let made : new ≡ f n = c.write_row.ensures in
    let size : length new ≡ length c.args.arrays.now = ap length made ∙ wide in
    let same : length new ≡ c.loop-row.cells.len = size ∙ sym c.loop-row.invariant.count ∙ omega (arith, c.loop-row.cells.ok.0) in
    let left : take c.loop-row.cells.len (new ++ drop (length new) c.loop-row.cells.items) ≡ new = take_at new (drop (length new) c.loop-row.cells.items) c.loop-row.cells.len same in
    let pushed : c.as_slice.result.now ≡ f n = c.as_slice.ensures.value ∙ left ∙ made in
    record {
      count = ap length left ∙ size;
      made =
          (c.in_ok-push_row.ensures).ok
          ∙ ap (λ (rows : Batch). rows ++ c.as_slice.result.now ∷ []) c.loop-row.invariant.made
          ∙ ap (λ (cells : Cells). map f (range_with_len 0 n) ++ cells ∷ []) pushed
          ∙ sym (map-range_with_len_more f 0 n n (omega arith));
    }

pub returns : goal.returns
unfolding array_rows
returns c =
    let count : c.loop-row.row ≡ c.args.rows = let t = c.loop-row-test.false in let e = c.loop-row.auto.row-end in omega arith in
    c.loop-row.invariant.made ∙ ap (λ n. map (array_row c.args.arrays.now) (range_with_len 0 n)) count
