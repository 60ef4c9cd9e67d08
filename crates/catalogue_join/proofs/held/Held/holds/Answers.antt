-- The search for the name's place tells it.
use Rattle.std.proofs.Common.{◌≡◌, ◌∙◌, true, false, MatchOption, ap, subst, rules}
use Rattle.std.specs.FinSet as set
use Rattle.catalogue_join.specs.Span.{among, IsRangeAt}
use Rattle.catalogue_join.specs.Run.{run_shape}
use Rattle.catalogue_join.proofs.NameSets.{is_bounded, found_is, bounded_from}
use Rattle.catalogue_join.proofs.held.Held.holds.Goals as goal

pub returns : goal.returns
returns c =
    let name = c.args.name in
    let runs = c.self.inside.runs in
    let bounded : is_bounded name ≡ true = bounded_from name (search rules) (search rules) in
    let found = subst (λ x. MatchOption c.find.result (among run_shape runs (run_shape.low x) ≡ false) (IsRangeAt run_shape runs (run_shape.low x))) c.run_of.ensures c.find.ensures in
    c.is_some.ensures ∙ found_is runs name c.find.result c.self.invariant bounded found ∙ ap (λ s. set.contains s name) c.self.view_is
