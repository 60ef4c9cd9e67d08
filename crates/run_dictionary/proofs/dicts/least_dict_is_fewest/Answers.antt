-- Each distinct value has a place and a code of its own.
use Rattle.run_dictionary.proofs.DictLemmas.{fewest_values, width_holds_values}
use Rattle.run_dictionary.proofs.dicts.least_dict_is_fewest.Goals as goal

pub returns : goal.returns
returns c = λ form f. (fewest_values form f, width_holds_values form f)
