use Rattle.std.proofs.Common.{length}
use Rattle.std.specs.List.{flat_map}
use Rattle.segment_core.specs.Format.{number, signed}
use Rattle.partial_file.specs.PartialAnswerBytes.{values}
use Rattle.partial_file.proofs.Spelled.{both_put, values_spelled}
use Rattle.partial_file.proofs.Written.{values_valid}
use Rattle.partial_file.proofs.kept_writing.push_values.Goals as goal

pub returns-clause-put : goal.returns-clause-put
returns-clause-put c =
    both_put c.args.bytes.now.items c.push_number.new.bytes.items c.push_value_list.new.bytes.items ((number 8).spell (length c.args.all.now)) (flat_map (signed 64).spell c.args.all.now) (values.spell c.args.all.now)
    c.in_ok-push_number.ensures.put c.in_ok-push_value_list.ensures.put (values_spelled c.args.all.now)

pub returns-clause-valid : goal.returns-clause-valid
returns-clause-valid c = values_valid c.args.all.now c.in_ok-push_number.ensures.valid c.requires c.in_ok-push_value_list.ensures.valid
