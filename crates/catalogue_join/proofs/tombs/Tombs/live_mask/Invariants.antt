-- So far all rows are live but those that the ranges taken so far have.
use Rattle.std.proofs.Common.{◌≡◌, ◌+◌, ◌*◌, ltb, ◌&&◌, not, take}
use Rattle.transpose_order.specs.Mask.{rows_of}
use Rattle.catalogue_join.specs.Span.{among}
use Rattle.catalogue_join.specs.RowRange.{row_place, row_range_shape}
use Rattle.catalogue_join.proofs.tombs.Tombs.live_mask.Given as goal

abbrev pub invariant-loop-deleted : goal.invariant-loop-deleted
invariant-loop-deleted l = l.live ≡ rows_of (λ n. ltb n l.rows && not (among row_range_shape (take l.deleted-index l.deleted-items) (row_place l.fn.batch (1024 * l.vector + n))))
