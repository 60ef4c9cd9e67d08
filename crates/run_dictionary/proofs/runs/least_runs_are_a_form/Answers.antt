-- Runs that start where values change are counted and have the vector's values.
use Rattle.run_dictionary.proofs.RunLemmas.{IsRunForm-least}
use Rattle.run_dictionary.proofs.runs.least_runs_are_a_form.Goals as goal

pub returns : goal.returns
returns c = λ t values w l range. IsRunForm-least t values w l range
