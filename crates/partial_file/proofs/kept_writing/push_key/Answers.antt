use Rattle.std.proofs.Common.{length}
use Rattle.std.specs.List.{flat_map}
use Rattle.segment_core.specs.Format.{number}
use Rattle.partial_file.specs.PartialAnswerBytes.{cell, key}
use Rattle.partial_file.proofs.Spelled.{both_put, key_spelled}
use Rattle.partial_file.proofs.Written.{key_valid}
use Rattle.partial_file.proofs.kept_writing.push_key.Goals as goal

pub returns-clause-put : goal.returns-clause-put
returns-clause-put c =
    both_put c.args.bytes.now.items c.push_number.new.bytes.items c.push_cell_list.new.bytes.items ((number 8).spell (length c.args.cells.now)) (flat_map cell.spell c.args.cells.now) (key.spell c.args.cells.now)
    c.in_ok-push_number.ensures.put c.in_ok-push_cell_list.ensures.put (key_spelled c.args.cells.now)

pub returns-clause-valid : goal.returns-clause-valid
returns-clause-valid c = key_valid c.args.cells.now c.in_ok-push_number.ensures.valid c.in_ok-push_cell_list.ensures.valid
