-- The last range that begins early enough is the only one that can have the place.
use Rattle.std.proofs.Common.{◌-◌, ◌+◌, ◌<◌, ◌≤◌, length, subst, sym, arith}
use Rattle.std.proofs.lemmas.Bool.{leb-true, leb-false}
use Rattle.catalogue_join.proofs.Spans.{among_none, range_found, range_missed}
use Rattle.catalogue_join.proofs.search.range_at.Goals as goal

pub returns-then-count-eq0 : goal.returns-then-count-eq0
returns-then-count-eq0 g c =
    among_none g.S.Span.shape c.args.ranges.now (g.S.Span.shape.low c.args.at) c.args.at c.requires
    (λ some. c.count_begun-count.ensures.later 0 c.args.at (omega arith) some)

pub returns-then-reaches : goal.returns-then-reaches
returns-then-reaches g c =
    let shape = g.S.Span.shape in
    let s = c.index-ranges-count.result in
    let k = c.count_begun-count.result - 1 in
    let bound : k < length c.args.ranges.now = omega (arith, c.count_begun-count.ensures.within) in
    let from : shape.low s ≤ shape.low c.args.at = subst (λ x. shape.low x ≤ shape.low c.args.at) (sym c.index-ranges-count.is) (c.count_begun-count.ensures.begun k s (omega arith)) in
    range_found shape c.args.ranges.now k (shape.low c.args.at) s c.requires bound c.index-ranges-count.is from (leb-true (shape.low c.args.at) (shape.high s) cc)

pub returns-else-reaches : goal.returns-else-reaches
returns-else-reaches g c =
    let shape = g.S.Span.shape in
    let s = c.index-ranges-count.result in
    let k = c.count_begun-count.result - 1 in
    let bound : k < length c.args.ranges.now = omega (arith, c.count_begun-count.ensures.within) in
    let from : shape.low s ≤ shape.low c.args.at = subst (λ x. shape.low x ≤ shape.low c.args.at) (sym c.index-ranges-count.is) (c.count_begun-count.ensures.begun k s (omega arith)) in
    range_missed shape c.args.ranges.now k (shape.low c.args.at) s c.requires bound c.index-ranges-count.is from (leb-false (shape.low c.args.at) (shape.high s) cc)
    (λ more. c.count_begun-count.ensures.later (k + 1) s (omega arith) more)
