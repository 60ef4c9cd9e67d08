use Rattle.std.proofs.Common.{length, []}
use Rattle.std.specs.List.{flat_map}
use Rattle.segment_core.specs.Format.{number}
use Rattle.partial_file.specs.PartialAnswerBytes.{run, runs}
use Rattle.partial_file.proofs.Spelled.{both_put, runs_spelled}
use Rattle.partial_file.proofs.Written.{runs_valid}
use Rattle.partial_file.proofs.run_writing.push_runs.Goals as goal

pub returns-clause-put : goal.returns-clause-put
returns-clause-put c =
    both_put c.args.bytes.now.items c.push_number.new.bytes.items c.push_run_list.new.bytes.items ((number 8).spell (length c.args.all.now)) (flat_map (run []).spell c.args.all.now) (runs.spell c.args.all.now)
    c.in_ok-push_number.ensures.put c.in_ok-push_run_list.ensures (runs_spelled c.args.all.now)

pub returns-clause-valid : goal.returns-clause-valid
returns-clause-valid c = runs_valid c.args.all.now c.in_ok-push_number.ensures.valid c.requires
