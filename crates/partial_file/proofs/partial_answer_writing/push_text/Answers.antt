use Rattle.std.proofs.Common.{length, arith}
use Rattle.segment_core.specs.Format.{number}
use Rattle.segment_core.proofs.FormatLaws.{bytes_at}
use Rattle.partial_file.specs.PartialAnswerBytes.{text}
use Rattle.partial_file.proofs.Spelled.{both_put, text_spelled}
use Rattle.partial_file.proofs.Written.{text_valid}
use Rattle.partial_file.proofs.partial_answer_writing.push_text.Goals as goal

pub returns-clause-put : goal.returns-clause-put
returns-clause-put c =
    both_put c.args.bytes.now.items c.push_number.new.bytes.items c.extend_from_slice.new.self.items ((number 8).spell (length c.args.query.now)) c.args.query.now (text.spell c.args.query.now)
    c.in_ok-push_number.ensures.put c.in_ok-extend_from_slice.ensures.items (text_spelled c.args.query.now)

pub returns-clause-valid : goal.returns-clause-valid
returns-clause-valid c = text_valid c.args.query.now c.in_ok-push_number.ensures.valid (bytes_at c.args.query.now (λ i. omega (arith, c.type_inv.query i))) c.requires
