use Rattle.std.proofs.Common.{[], ◌∷◌, map, fold, ap, ◌∙◌, List}
use Rattle.std.proofs.lemmas.List.{take_all}
use Rattle.query_eval.specs.declared.tallies.aggregate.Aggregate.{Aggregate}
use Rattle.query_eval.specs.declared.tallies.aggregate.Aggregate.TheVariants.{Rows}
use Rattle.partial_answers.specs.Measures.{measure_of, with_measure, measures_of}
use Rattle.partial_answers.proofs.measures.measures_of.Goals as goal

pub returns : goal.returns
unfolding measures_of
returns c = c.loop-aggregate.invariant ∙ ap (λ (l : List Aggregate). fold with_measure (Rows ∷ []) (map measure_of l)) (take_all c.loop-aggregate.aggregate-index c.args.aggregates.now c.loop-aggregate-test.false)
