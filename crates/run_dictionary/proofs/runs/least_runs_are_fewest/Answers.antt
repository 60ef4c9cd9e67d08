-- Each change of the values is a start of the form.
use Rattle.run_dictionary.proofs.RunLemmas.{length-least}
use Rattle.run_dictionary.proofs.runs.least_runs_are_fewest.Goals as goal

pub returns : goal.returns
returns c = λ form f. length-least form f
