-- The search for the row's place tells it.
use Rattle.std.proofs.Common.{◌≡◌, ◌∙◌, true, ap, rules}
use Rattle.std.specs.FinSet as set
use Rattle.catalogue_join.proofs.RowSets.{is_bounded, found_is, bounded_from}
use Rattle.catalogue_join.proofs.tombs.Tombs.holds.Goals as goal

pub returns : goal.returns
returns c =
    let row = c.args.row in
    let bounded : is_bounded row ≡ true = bounded_from row (search rules) (search rules) (search rules) in
    c.is_some.ensures ∙ found_is c.self.inside.ranges row c.find.result c.self.invariant bounded c.find.ensures ∙ ap (λ s. set.contains s row) c.self.view_is
