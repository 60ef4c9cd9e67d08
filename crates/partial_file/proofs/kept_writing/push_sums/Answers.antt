use Rattle.std.proofs.Common.{rules, FitsSigned}
use Rattle.std.specs.Int.{w128}
use Rattle.std.proofs.lemmas.Int.{to_z-of_z}
use Rattle.segment_core.specs.Format.{number}
use Rattle.partial_file.specs.PartialAnswerBytes.{sum_parts, wide}
use Rattle.partial_file.proofs.Spelled.{both_put, sums_spelled}
use Rattle.partial_file.proofs.Written.{sums_valid}
use Rattle.partial_file.proofs.kept_writing.push_sums.Goals as goal

pub returns-clause-put : goal.returns-clause-put
returns-clause-put c =
    let fits : FitsSigned w128 c.args.sums.sum = search rules in
    both_put c.args.bytes.now.items c.push_number.new.bytes.items c.push_wide.new.bytes.items ((number 8).spell c.args.sums.count) (wide.spell c.args.sums.sum) (sum_parts.spell (c.args.sums.count, c.args.sums.sum))
    c.in_ok-push_number.ensures.put (rw (to_z-of_z w128 c.args.sums.sum fits) at c.in_ok-push_wide.ensures.put) (sums_spelled c.args.sums.count c.args.sums.sum)

pub returns-clause-valid : goal.returns-clause-valid
returns-clause-valid c =
    let fits : FitsSigned w128 c.args.sums.sum = search rules in
    sums_valid c.args.sums.count c.args.sums.sum c.in_ok-push_number.ensures.valid (rw (to_z-of_z w128 c.args.sums.sum fits) at c.in_ok-push_wide.ensures.valid)
