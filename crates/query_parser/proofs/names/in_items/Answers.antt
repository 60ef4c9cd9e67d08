-- One item more.
use Rattle.std.proofs.Common.{sym}
use Rattle.query_parser.proofs.Visits.{places-none, places_more, items_more}
use Rattle.query_parser.proofs.names.in_items.Goals as goal

pub loop-item-init : goal.loop-item-init
loop-item-init c = sym (places-none _ _ _)

pub loop-item-preserved : goal.loop-item-preserved
loop-item-preserved c =
    places_more _ _ _ _ _ _ _ _ (items_more _ _ c.item-item.result c.loop-item-test.true c.item-item.is) c.loop-item.invariant c.in_value-found.ensures
