-- The runs of a set are its maximal runs.
use Rattle.partial_file.proofs.RunLists.{runs_are}
use Rattle.partial_commands.proofs.run_lists.push_run_pairs.Goals as goal

pub returns : goal.returns
returns c = rw (runs_are c.args.names.now c.runs.result.now c.runs.ensures.names c.runs.ensures.maximal) c.push_pair_list.ensures
