use Rattle.std.proofs.Common.{rules, ◌≡◌, []}
use Rattle.partial_file.specs.PartialAnswerBytes.{body_of}
use Rattle.partial_file.proofs.Spelled.{body_put}
use Rattle.partial_file.proofs.Written.{body_valid}
use Rattle.partial_file.proofs.partial_answer_writing.body_bytes.Goals as goal

pub returns-clause-put : goal.returns-clause-put
returns-clause-put c =
    let p = c.args.partial.now in
    let none : c.new-bytes.result.items ≡ [] = search rules in
    body_put c.new-bytes.result.items c.push_text.new.bytes.items c.push_names.new.bytes.items c.push_names-2.new.bytes.items c.push_groups.new.bytes.items (body_of p)
    none
    (rw (c.as_bytes.ensures.value, c.text.ensures) at c.in_ok-push_text.ensures.put)
    (rw c.held.ensures at c.in_ok-push_names.ensures.put)
    (rw c.strays.ensures at c.in_ok-push_names-2.ensures.put)
    (rw c.groups.ensures at c.in_ok-push_groups.ensures.put)

pub returns-clause-valid : goal.returns-clause-valid
returns-clause-valid c =
    body_valid (body_of c.args.partial.now)
    (rw (c.as_bytes.ensures.value, c.text.ensures) at c.in_ok-push_text.ensures.valid)
    (rw c.held.ensures at c.in_ok-push_names.ensures.valid)
    (rw c.strays.ensures at c.in_ok-push_names-2.ensures.valid)
    (rw c.groups.ensures at c.in_ok-push_groups.ensures.valid)
