use Rattle.std.proofs.Common.{[]}
use Rattle.partial_file.specs.PartialAnswerBytes.{Entry, counted, group, kept, key}
use Rattle.partial_file.proofs.Spelled.{both_put, group_spelled}
use Rattle.partial_file.proofs.Written.{group_valid}
use Rattle.partial_file.proofs.group_writing.push_group.Goals as goal

pub returns-clause-put : goal.returns-clause-put
returns-clause-put c =
    let g : Entry = (c.args.key.now, c.args.measures.now) in
    both_put c.args.bytes.now.items c.push_key.new.bytes.items c.push_measures.new.bytes.items (key.spell c.args.key.now) ((counted (λ _. kept)).spell c.args.measures.now) ((group []).spell g)
    (rw c.cells.ensures at c.in_ok-push_key.ensures.put) c.in_ok-push_measures.ensures.put (group_spelled g)

pub returns-clause-valid : goal.returns-clause-valid
returns-clause-valid c = group_valid (c.args.key.now, c.args.measures.now) (rw c.cells.ensures at c.in_ok-push_key.ensures.valid) c.in_ok-push_measures.ensures.valid
