-- The places so far are those of the columns so far.
use Rattle.std.proofs.Common.{◌≡◌, take}
use Rattle.query_parser.specs.Resolve.{places, in_grouping}
use Rattle.query_parser.proofs.names.in_grouping.Given as goal

abbrev pub invariant-loop-column : goal.invariant-loop-column
invariant-loop-column l = l.found ≡ places l.names.columns.now l.names.grouping.now l.initial.found (in_grouping (take l.column-index l.columns))
