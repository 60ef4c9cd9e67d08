-- A lane and a step are those of their row.
use Rattle.run_dictionary.proofs.DictLemmas.{code_at-row_at}
use Rattle.run_dictionary.proofs.dicts.codes_stand_in_lanes.Goals as goal

pub returns : goal.returns
returns c = λ form lane step h l. code_at-row_at form lane step h l
