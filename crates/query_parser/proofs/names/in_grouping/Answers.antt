-- One column more.
use Rattle.std.proofs.Common.{◌∙◌, sym}
use Rattle.query_parser.proofs.Visits.{places-none, places-one, places_more, columns_more}
use Rattle.query_parser.proofs.names.in_grouping.Goals as goal

pub loop-column-init : goal.loop-column-init
loop-column-init c = sym (places-none _ _ _)

pub loop-column-preserved : goal.loop-column-preserved
loop-column-preserved c =
    places_more _ _ _ _ _ _ _ _ (columns_more _ _ c.column-item.result c.loop-column-test.true c.column-item.is) c.loop-column.invariant (c.with-found.ensures ∙ sym (places-one _ _ _ _))
