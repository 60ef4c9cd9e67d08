use Rattle.partial_answers.specs.Refusing.{kept_kind}
use Rattle.segment_core.specs.Format.{number}
use Rattle.partial_file.specs.PartialAnswerBytes.{kept, kept_as}
use Rattle.partial_file.proofs.Spelled.{both_put, kept_spelled}
use Rattle.partial_file.proofs.Written.{kept_valid}
use Rattle.partial_file.proofs.kept_writing.push_kept.Goals as goal

pub returns-clause-put : goal.returns-clause-put
returns-clause-put c =
    both_put c.args.bytes.now.items c.push_number.new.bytes.items c.push_content.new.bytes.items ((number 1).spell (kept_kind c.args.measure.now)) ((kept_as (kept_kind c.args.measure.now)).spell c.args.measure.now) (kept.spell c.args.measure.now)
    (rw c.kind.ensures at c.in_ok-push_number.ensures.put) c.in_ok-push_content.ensures.put (kept_spelled c.args.measure.now)

pub returns-clause-valid : goal.returns-clause-valid
returns-clause-valid c = kept_valid c.args.measure.now c.in_ok-push_content.ensures.valid
