-- One slice more.
use Rattle.std.proofs.Common.{◌≡◌, ◌∙◌, ◌<◌, ℕ, true, map, ap, arith}
use Rattle.table_model.specs.Group.{key_of}
use Rattle.table_model.specs.State.{same_cells}
use Rattle.transpose_order.specs.Mask.{has}
use Rattle.query_eval.specs.Keys.{key_cell}
use Rattle.query_eval.specs.Vector.{row_at}
use Rattle.query_eval.proofs.SliceLemmas.{all_below, and_under, left_within, sliced_more, sliced_none}
use Rattle.query_eval.proofs.grouping.slices.slice_keys.Goals as goal

pub loop-init : goal.loop-init
loop-init c = record { index = λ h. h; sliced = λ by v shown i. sliced_none by v c.args.mask.now c.args.places.now.index.entries c.clear.new.self.items c.clear.ensures.items }

pub loop-preserved : goal.loop-preserved
loop-preserved c =
    let inv = c.loop.invariant in
    let row = c.next_true-row.result in
    let inside : row < 1024 = omega (arith, c.next_true-row.ensures.within, c.if-row-eq1024.false) in
    record {
      index = λ h. c.in_ok-slice.ensures.index (inv.index h);
      sliced = λ by v shown i.
          let kept : (n : ℕ) → n < 1024 → has c.loop.left n ≡ true → has c.args.mask.now n ≡ true = left_within by v c.loop.places.index.entries c.args.mask.now c.loop.left c.loop.slices.items (inv.sliced by v shown i).parted in
          let here : has c.loop.left row ≡ true = c.next_true-row.ensures.here inside in
          sliced_more by v c.args.mask.now c.loop.left c.and_not-left.result c.args.places.now.index.entries c.loop.places.index.entries c.slice_at.new.places.index.entries c.loop.slices.items c.push.new.self.items c.in_ok-slice.slice
          (map (λ column. key_cell column row) c.args.columns.now) row 1024 (inv.sliced by v shown i) inside here (shown row inside (kept row inside here)) (c.in_ok-slice.ensures.taken (inv.index i))
          (λ n l. all_below c.loop.left c.in_ok-slice.slice.rows n _ l (c.in_ok-slice.ensures.rows n l
          ∙ and_under (has c.loop.left n) (same_cells (map (λ column. key_cell column row) c.args.columns.now) (map (λ column. key_cell column n) c.args.columns.now)) (same_cells (map (λ column. key_cell column row) c.args.columns.now) (key_of by (row_at v n)))
          (λ on. ap (same_cells (map (λ column. key_cell column row) c.args.columns.now)) (shown n l (kept n l on)))))
          c.and_not-left.ensures c.in_ok-push.ensures.items;
    }
