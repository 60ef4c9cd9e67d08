-- The distinct values ascend, and each code is a place among them.
use Rattle.run_dictionary.proofs.DictLemmas.{IsDictForm-least}
use Rattle.run_dictionary.proofs.dicts.least_dict_is_a_form.Goals as goal

pub returns : goal.returns
returns c = λ t values w l range. IsDictForm-least t values w l range
