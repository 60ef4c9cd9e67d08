-- Each range that overlaps the vector clears its rows, and no other range has a row of the vector.
use Rattle.std.proofs.Common.{◌∙◌, ◌+◌, ◌*◌, ◌<◌, ltb, ◌&&◌, not, length, refl, ap, rules, arith}
use Rattle.std.proofs.lemmas.List.{take_all}
use Rattle.transpose_order.specs.Mask.{rows_of}
use Rattle.catalogue_join.specs.Span.{among}
use Rattle.catalogue_join.specs.RowRange.{row_place, row_range_shape}
use Rattle.catalogue_join.specs.LiveMask.{is_live}
use Rattle.catalogue_join.proofs.LiveMasks.{no_range, overlap_meets, cleared_more, uncleared_is, live_is}
use Rattle.catalogue_join.proofs.tombs.Tombs.live_mask.Goals as goal

pub loop-deleted-init : goal.loop-deleted-init
loop-deleted-init c = c.first_rows-live.ensures ∙ uncleared_is c.args.rows (λ n. row_place c.args.batch (1024 * c.args.vector + n))

pub clear-requires-clause-begun : goal.clear-requires-clause-begun
clear-requires-clause-begun c =
    let number : c.args.batch.number.0 < 4294967296 = search rules in
    (overlap_meets c.self.inside.ranges c.overlapping-deleted-items.result.now c.args.batch (1024 * c.args.vector) c.loop-deleted.deleted-index c.overlapping-deleted-items.ensures (omega arith) number (omega arith)).begun

pub clear-requires-clause-not_empty : goal.clear-requires-clause-not_empty
clear-requires-clause-not_empty c =
    let number : c.args.batch.number.0 < 4294967296 = search rules in
    (overlap_meets c.self.inside.ranges c.overlapping-deleted-items.result.now c.args.batch (1024 * c.args.vector) c.loop-deleted.deleted-index c.overlapping-deleted-items.ensures (omega arith) number (omega arith)).not_empty

pub loop-deleted-preserved : goal.loop-deleted-preserved
loop-deleted-preserved c =
    let number : c.args.batch.number.0 < 4294967296 = search rules in
    let bound : c.loop-deleted.deleted-index < length c.overlapping-deleted-items.result.now = omega arith in
    let meets = overlap_meets c.self.inside.ranges c.overlapping-deleted-items.result.now c.args.batch (1024 * c.args.vector) c.loop-deleted.deleted-index c.overlapping-deleted-items.ensures bound number (omega arith) in
    cleared_more c.overlapping-deleted-items.result.now c.loop-deleted.deleted-index no_range c.args.batch (1024 * c.args.vector) c.args.rows c.loop-deleted.live c.clear.new.live bound (omega arith) meets c.loop-deleted.invariant c.clear.ensures

pub returns : goal.returns
returns c =
    let origin : c.args.batch.origin.0 < 4294967296 = search rules in
    let number : c.args.batch.number.0 < 4294967296 = search rules in
    let items = c.overlapping-deleted-items.result.now in
    let start = 1024 * c.args.vector in
    c.loop-deleted.invariant
    ∙ ap (λ xs. rows_of (λ n. ltb n c.args.rows && not (among row_range_shape xs (row_place c.args.batch (1024 * c.args.vector + n))))) (take_all c.loop-deleted.deleted-index items c.loop-deleted-test.false)
    ∙ live_is c.self.inside.ranges items (record { batch = c.args.batch; ordinal = 1024 * c.args.vector }, 1024 * c.args.vector + 1023) c.args.batch c.args.vector c.args.rows c.self.invariant c.overlapping-deleted-items.ensures c.requires.vector origin number refl refl
    ∙ ap (λ s. rows_of (is_live s c.args.batch c.args.vector c.args.rows)) c.self.view_is
