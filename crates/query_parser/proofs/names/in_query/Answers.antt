-- Part by part.
use Rattle.std.proofs.Common.{◌≡◌, ◌∙◌, refl}
use Rattle.query_parser.proofs.Visits.{places_more}
use Rattle.query_parser.proofs.names.in_query.Goals as goal

pub returns : goal.returns
returns c =
    let columns = c.new-names.ensures.columns in
    let grouping : c.new-names.result.grouping.now ≡ c.query.inside.grouping.items = c.new-names.ensures.grouping ∙ c.as_slice.ensures.value in
    let in_items = rw (columns, grouping, c.as_slice-2.ensures.value) at c.in_items-items.ensures in
    let in_filter = rw (columns, grouping) at c.in_clause-filter.ensures in
    let in_grouping = rw (columns, grouping, c.as_slice-3.ensures.value) at c.in_grouping-grouping.ensures in
    let in_having = rw (columns, grouping) at c.in_clause.ensures in
    rw (← c.query.view_is)
    (places_more _ _ _ _ _ _ _ _ refl (places_more _ _ _ _ _ _ _ _ refl (places_more _ _ _ _ _ _ _ _ refl in_items in_filter) in_grouping) in_having)
