-- The lines of a script that ask for steps are a run.
use Rattle.lanes_main.proofs.ScriptRuns.{scripts}
use Rattle.lanes_main.proofs.laws.script_laws.Goals as goal

pub returns : goal.returns
returns c = scripts
