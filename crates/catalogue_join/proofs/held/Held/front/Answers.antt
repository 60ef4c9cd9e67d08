-- The front is where the run of number 1 ends.
use Rattle.std.proofs.Common.{◌≡◌, ◌<◌, false, subst, rules}
use Rattle.catalogue_join.specs.Span.{among, IsRangeAt}
use Rattle.catalogue_join.specs.Run.{run_shape}
use Rattle.catalogue_join.specs.Held.{IsFront}
use Rattle.catalogue_join.proofs.NameSets.{front_found, front_missed}
use Rattle.catalogue_join.proofs.held.Held.front.Goals as goal

pub returns-in-Some : goal.returns-in-Some
returns-in-Some c =
    let origin : c.args.origin.0 < 4294967296 = search rules in
    let at = subst (λ x. IsRangeAt run_shape c.self.inside.runs (run_shape.low x) c.in-Some.from_one) c.run_of.ensures c.in-Some.ensures in
    subst (λ s. IsFront s c.args.origin c.in-Some.from_one.last.0) c.self.view_is (front_found c.self.inside.runs c.args.origin c.in-Some.from_one c.self.invariant origin at)

pub returns-in-None : goal.returns-in-None
returns-in-None c =
    let lacks = subst (λ x. among run_shape c.self.inside.runs (run_shape.low x) ≡ false) c.run_of.ensures c.in-None.ensures in
    subst (λ s. IsFront s c.args.origin 0) c.self.view_is (front_missed c.self.inside.runs c.args.origin c.self.invariant lacks)
