-- The joined ranges have the rows of both sets.
use Rattle.catalogue_join.proofs.RowSets.{rows_in-joined}
use Rattle.catalogue_join.proofs.tombs.Tombs.joined.Goals as goal

pub returns : goal.returns
returns c =
    rw (← c.self.view_is, ← c.other.view_is)
    (rows_in-joined c.self.inside.ranges c.other.inside.ranges c.in_ok-joined.field-0 c.self.invariant c.other.invariant c.in_ok-joined.ensures.maximal c.in_ok-joined.ensures.places)
