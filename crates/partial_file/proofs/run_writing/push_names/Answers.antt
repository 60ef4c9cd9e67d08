use Rattle.partial_file.proofs.RunLists.{runs_are}
use Rattle.partial_file.proofs.run_writing.push_names.Goals as goal

pub returns-clause-put : goal.returns-clause-put
returns-clause-put c = rw (runs_are c.args.names.now c.runs.result.now c.runs.ensures.names c.runs.ensures.maximal) c.push_runs.ensures.put

pub returns-clause-valid : goal.returns-clause-valid
returns-clause-valid c = rw (runs_are c.args.names.now c.runs.result.now c.runs.ensures.names c.runs.ensures.maximal) c.push_runs.ensures.valid
