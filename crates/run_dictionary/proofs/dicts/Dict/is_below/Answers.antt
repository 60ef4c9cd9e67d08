-- There are as many distinct numbers as values.
use Rattle.std.proofs.Common.{arith}
use Rattle.run_dictionary.proofs.DistinctLemmas.{distinct_by_places}
use Rattle.run_dictionary.proofs.BelowLemmas.{dictionary_below}
use Rattle.run_dictionary.proofs.dicts.Dict.is_below.Goals as goal

pub returns : goal.returns
returns c = λ values long same.
    dictionary_below c.args.lane_width values c.args.bound c.most_values.result _ c.more_distinct.result c.requires (omega (arith, long)) (omega (arith, long)) (distinct_by_places c.args.numbers.now values c.told-numbers long same)
    c.most_values.ensures.enough c.most_values.ensures.many c.most_values.ensures.reached c.more_distinct.ensures
