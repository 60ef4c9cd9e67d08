-- The places so far are those of the items so far.
use Rattle.std.proofs.Common.{◌≡◌, take}
use Rattle.query_parser.specs.Resolve.{places, in_items}
use Rattle.query_parser.proofs.names.in_items.Given as goal

abbrev pub invariant-loop-item : goal.invariant-loop-item
invariant-loop-item l = l.found ≡ places l.names.columns.now l.names.grouping.now l.initial.found (in_items (take l.item-index l.items))
