use Rattle.std.proofs.Common.{◌≡◌, [], ◌∷◌, map, take, fold}
use Rattle.query_eval.specs.declared.tallies.aggregate.Aggregate.TheVariants.{Rows}
use Rattle.partial_answers.specs.Measures.{measure_of, with_measure}
use Rattle.partial_answers.proofs.measures.measures_of.Given as goal

abbrev pub invariant-loop-aggregate : goal.invariant-loop-aggregate
invariant-loop-aggregate l = l.measures.items ≡ fold with_measure (Rows ∷ []) (map measure_of (take l.aggregate-index l.aggregates))
