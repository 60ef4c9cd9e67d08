use Rattle.std.proofs.Common.{rules, FitsSigned}
use Rattle.std.specs.Int.{w64}
use Rattle.std.proofs.lemmas.Int.{to_z-of_z}
use Rattle.partial_file.proofs.Spelled.{no_extreme_spelled, extreme_spelled}
use Rattle.partial_file.proofs.Written.{extreme_is_valid, no_extreme_is_valid}
use Rattle.partial_file.proofs.number_writing.push_extreme.Goals as goal

pub returns-in-None-clause-put : goal.returns-in-None-clause-put
returns-in-None-clause-put c = rw (c.in-None.is, no_extreme_spelled) c.push_number.ensures.put

pub returns-in-Some-clause-put : goal.returns-in-Some-clause-put
returns-in-Some-clause-put c =
    let fits : FitsSigned w64 c.in-Some.value = search rules in
    rw (c.in-Some.is, extreme_spelled c.in-Some.value) (rw (to_z-of_z w64 c.in-Some.value fits) at c.push_short.ensures)

pub returns-in-None-clause-valid : goal.returns-in-None-clause-valid
returns-in-None-clause-valid c = rw c.in-None.is no_extreme_is_valid

pub returns-in-Some-clause-valid : goal.returns-in-Some-clause-valid
returns-in-Some-clause-valid c =
    let fits : FitsSigned w64 c.in-Some.value = search rules in
    rw c.in-Some.is (extreme_is_valid c.in-Some.value fits)
