use Rattle.std.proofs.Common.{rules, FitsSigned}
use Rattle.std.specs.Int.{w64}
use Rattle.partial_file.proofs.Written.{narrow_is_valid}
use Rattle.partial_file.proofs.number_writing.push_narrow.Goals as goal

pub returns-clause-valid : goal.returns-clause-valid
returns-clause-valid c =
    let fits : FitsSigned w64 c.args.value = search rules in
    narrow_is_valid c.args.value fits
