-- The rows at which the comparison holds are among those looked at in both.
use Rattle.std.proofs.Common.{◌≡◌, ℕ, ◌<◌, ◌&&◌, List, ℤ, ap, ◌∙◌}
use Rattle.table_model.specs.Truth.{compared}
use Rattle.transpose_order.specs.Mask.{rows_of, has}
use Rattle.transpose_order.specs.MaskWords.{has-rows_of}
use Rattle.bit_interleave.specs.Range.{value_at}
use Rattle.fused_kernels.specs.Seen.{LanesSeen, looked_at}
use Rattle.fused_kernels.proofs.RangeLemmas.{rows_and, rows_and_not, both_masks}
use Rattle.fused_kernels.proofs.columns.compare_columns.Given as given
use Rattle.fused_kernels.proofs.columns.compare_columns.Goals as goal

found_here : (g : given.Over) (c : goal.After-and_not g) → (n : ℕ) → n < 1024 → has c.rows_where-found.result n ≡ compared c.args.op (value_at (g.A.Lanes.seen c.args.left.now).values n) (value_at (g.B.Lanes.seen c.args.right.now).values n)
found_here g c = λ n h.
    ap (λ m. has m n) c.rows_where-found.ensures ∙ has-rows_of (λ n. compared c.args.op (value_at c.decode_into.new.values n) (value_at c.decode_into-2.new.values n)) n h
    ∙ ap (λ (xs : List ℤ). compared c.args.op (value_at xs n) (value_at c.decode_into-2.new.values n)) c.decode_into.ensures.values
    ∙ ap (λ (xs : List ℤ). compared c.args.op (value_at (g.A.Lanes.seen c.args.left.now).values n) (value_at xs n)) c.decode_into-2.ensures.values

both_here : (g : given.Over) (c : goal.After-and_not g) → c.and-rows.result ≡ rows_of (λ n. looked_at (g.A.Lanes.seen c.args.left.now) c.args.mask.now n && looked_at (g.B.Lanes.seen c.args.right.now) c.args.mask.now n)
both_here g c =
    c.and-rows.ensures
    ∙ both_masks (looked_at (g.A.Lanes.seen c.args.left.now) c.args.mask.now) (looked_at (g.B.Lanes.seen c.args.right.now) c.args.mask.now) c.rows_to_look_at.result c.rows_to_look_at-2.result c.rows_to_look_at.ensures.rows c.rows_to_look_at-2.ensures.rows

pub returns-clause-yes : goal.returns-clause-yes
returns-clause-yes g c =
    let a : LanesSeen = g.A.Lanes.seen c.args.left.now in
    let b : LanesSeen = g.B.Lanes.seen c.args.right.now in
    let mask = c.args.mask.now in
    c.and.ensures
    ∙ rows_and (λ n. looked_at a mask n && looked_at b mask n) (λ n. compared c.args.op (value_at a.values n) (value_at b.values n)) c.and-rows.result c.rows_where-found.result (both_here g c) (found_here g c)

pub returns-clause-no : goal.returns-clause-no
returns-clause-no g c =
    let a : LanesSeen = g.A.Lanes.seen c.args.left.now in
    let b : LanesSeen = g.B.Lanes.seen c.args.right.now in
    let mask = c.args.mask.now in
    c.and_not.ensures
    ∙ rows_and_not (λ n. looked_at a mask n && looked_at b mask n) (λ n. compared c.args.op (value_at a.values n) (value_at b.values n)) c.and-rows.result c.rows_where-found.result (both_here g c) (found_here g c)
