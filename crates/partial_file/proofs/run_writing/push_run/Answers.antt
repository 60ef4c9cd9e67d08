use Rattle.std.proofs.Common.{[]}
use Rattle.segment_core.specs.Format.{number}
use Rattle.partial_file.specs.PartialAnswerBytes.{run}
use Rattle.partial_file.proofs.Spelled.{three_put, run_spelled}
use Rattle.partial_file.proofs.run_writing.push_run.Goals as goal

pub returns : goal.returns
returns c =
    let r = c.args.one in
    three_put c.args.bytes.now.items c.push_number.new.bytes.items c.push_number-2.new.bytes.items c.push_number-3.new.bytes.items ((number 4).spell r.first.origin.0) ((number 4).spell r.first.number.0) ((number 4).spell r.last.0) ((run []).spell r)
    c.in_ok-push_number.ensures.put c.in_ok-push_number-2.ensures.put c.in_ok-push_number-3.ensures.put (run_spelled r)
