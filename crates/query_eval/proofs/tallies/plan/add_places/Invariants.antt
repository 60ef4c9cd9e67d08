-- The places of the columns so far are added.
use Rattle.std.proofs.Common.{◌≡◌, ◌++◌, map, take}
use Rattle.table_model.specs.Meaning.{place_of}
use Rattle.query_eval.proofs.tallies.plan.add_places.Given as goal

abbrev pub invariant-loop-column : goal.invariant-loop-column
invariant-loop-column l = l.out.items ≡ l.initial.out.items ++ map (λ column. place_of l.schema.columns column.name) (take l.column-index l.columns)
