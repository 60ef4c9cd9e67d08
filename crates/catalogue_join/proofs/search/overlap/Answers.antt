-- Between the ranges that end before and those that begin after lie those that overlap.
use Rattle.catalogue_join.proofs.Spans.{overlap_is, overlap_ordered}
use Rattle.catalogue_join.proofs.search.overlap.Goals as goal

pub slice_bounds-result-count : goal.slice_bounds-result-count
slice_bounds-result-count g c =
    overlap_ordered g.S.Span.shape c.args.ranges.now c.args.range c.count_ended_before-first.result c.count_begun_by_end-end.result c.requires.rising c.requires.not_empty c.count_ended_before-first.ensures.within c.count_ended_before-first.ensures.before c.count_begun_by_end-end.ensures.later

pub slice_bounds-result-start : goal.slice_bounds-result-start
slice_bounds-result-start g c =
    overlap_ordered g.S.Span.shape c.args.ranges.now c.args.range c.count_ended_before-first.result c.count_begun_by_end-end.result c.requires.rising c.requires.not_empty c.count_ended_before-first.ensures.within c.count_ended_before-first.ensures.before c.count_begun_by_end-end.ensures.later

pub returns : goal.returns
returns g c =
    let before = c.count_ended_before-first.ensures in
    let behind = c.count_begun_by_end-end.ensures in
    overlap_is g.S.Span.shape c.args.ranges.now c.args.range c.count_ended_before-first.result c.count_begun_by_end-end.result c.requires.rising c.requires.not_empty before.within behind.within before.before before.later behind.reached behind.later
