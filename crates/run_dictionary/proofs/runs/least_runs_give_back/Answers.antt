-- The run of a row has the row's value.
use Rattle.run_dictionary.proofs.RunLemmas.{run_values-least}
use Rattle.run_dictionary.proofs.runs.least_runs_give_back.Goals as goal

pub returns : goal.returns
returns c = λ t values l. run_values-least t values l
