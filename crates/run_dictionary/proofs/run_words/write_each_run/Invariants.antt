-- The rows before the row are written.
use Rattle.run_dictionary.proofs.StepLemmas.{RunsWritten}
use Rattle.run_dictionary.proofs.run_words.write_each_run.Given as goal

abbrev pub invariant-loop-value : goal.invariant-loop-value
invariant-loop-value l = RunsWritten l.starts l.runs l.into l.row l.value-index
