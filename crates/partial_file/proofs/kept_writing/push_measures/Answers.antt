use Rattle.std.proofs.Common.{length}
use Rattle.std.specs.List.{flat_map}
use Rattle.segment_core.specs.Format.{number}
use Rattle.partial_file.specs.PartialAnswerBytes.{counted, kept}
use Rattle.partial_file.proofs.Spelled.{both_put, measures_spelled}
use Rattle.partial_file.proofs.Written.{measures_valid}
use Rattle.partial_file.proofs.kept_writing.push_measures.Goals as goal

pub returns-clause-put : goal.returns-clause-put
returns-clause-put c =
    both_put c.args.bytes.now.items c.push_number.new.bytes.items c.push_measure_list.new.bytes.items ((number 8).spell (length c.args.measures.now)) (flat_map kept.spell c.args.measures.now) ((counted (λ _. kept)).spell c.args.measures.now)
    c.in_ok-push_number.ensures.put c.in_ok-push_measure_list.ensures.put (measures_spelled c.args.measures.now)

pub returns-clause-valid : goal.returns-clause-valid
returns-clause-valid c = measures_valid c.args.measures.now c.in_ok-push_number.ensures.valid c.in_ok-push_measure_list.ensures.valid
