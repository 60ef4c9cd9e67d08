use Rattle.std.proofs.Common.{rules, FitsSigned}
use Rattle.std.specs.Int.{w128}
use Rattle.partial_file.proofs.Written.{wide_is_valid}
use Rattle.partial_file.proofs.number_writing.push_wide.Goals as goal

pub returns-clause-valid : goal.returns-clause-valid
returns-clause-valid c =
    let fits : FitsSigned w128 c.args.value = search rules in
    wide_is_valid c.args.value fits
