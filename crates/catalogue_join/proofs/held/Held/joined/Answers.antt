-- The joined runs have the names of both sets.
use Rattle.catalogue_join.proofs.NameSets.{names_in-joined}
use Rattle.catalogue_join.proofs.held.Held.joined.Goals as goal

pub returns : goal.returns
returns c =
    rw (← c.self.view_is, ← c.other.view_is)
    (names_in-joined c.self.inside.runs c.other.inside.runs c.in_ok-joined.field-0 c.self.invariant c.other.invariant c.in_ok-joined.ensures.maximal c.in_ok-joined.ensures.places)
