-- Codes come back and are looked up.
use Rattle.run_dictionary.proofs.DictLemmas.{dict_values-least}
use Rattle.run_dictionary.proofs.dicts.least_dict_gives_back.Goals as goal

pub returns : goal.returns
returns c = λ t values l. dict_values-least t values l
