-- Ranges that rise are maximal, and no other list of maximal ranges has the same rows.
use Rattle.std.proofs.Common.{◌∙◌, sym, subst}
use Rattle.catalogue_join.specs.RowRange.{AreMaximal}
use Rattle.catalogue_join.proofs.RowSets.{maximal_from_rises, rises_from_maximal, same_ranges_of_rows}
use Rattle.catalogue_join.proofs.tombs.Tombs.ranges.Goals as goal

pub returns-clause-maximal : goal.returns-clause-maximal
returns-clause-maximal c = subst (λ rs. AreMaximal rs) (sym c.as_slice.ensures.ranges) (maximal_from_rises c.self.inside.ranges 0 c.self.invariant)

pub returns-clause-only : goal.returns-clause-only
returns-clause-only c ranges maximal is =
    same_ranges_of_rows ranges c.self.inside.ranges (rises_from_maximal ranges maximal) c.self.invariant (is ∙ sym c.self.view_is) ∙ sym c.as_slice.ensures.ranges
