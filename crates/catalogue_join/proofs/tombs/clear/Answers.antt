-- From the range's first row in the vector to its last.
use Rattle.std.proofs.Common.{◌∙◌, ◌+◌, ◌-◌, min, max, ltb, leb, ◌&&◌, cond, false, ap}
use Rattle.transpose_order.specs.Mask.{rows_of, has}
use Rattle.catalogue_join.proofs.LiveMasks.{cleared_is}
use Rattle.catalogue_join.proofs.tombs.clear.Goals as goal

pub returns : goal.returns
returns c =
    let old = c.args.live.now in
    let start = c.args.start in
    let from = c.max-from.ensures ∙ ap (λ x. max x start) c.from.ensures in
    let end = c.min-end.ensures ∙ ap (λ x. min (x + 1) (start + 1024)) c.from-2.ensures in
    c.set_range.ensures
    ∙ ap (λ x. rows_of (λ n. cond (leb (x - start) n && ltb n (c.min-end.result - start)) false (has old n))) from
    ∙ ap (λ x. rows_of (λ n. cond (leb (max c.args.deleted.0.ordinal start - start) n && ltb n (x - start)) false (has old n))) end
    ∙ cleared_is c.args.live.now c.args.deleted.0.ordinal c.args.deleted.1 c.args.start c.requires.begun c.requires.reached c.requires.not_empty
