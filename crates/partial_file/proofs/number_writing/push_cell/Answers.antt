use Rattle.std.proofs.Common.{rules, FitsSigned}
use Rattle.std.specs.Int.{w128}
use Rattle.std.proofs.lemmas.Int.{to_z-of_z}
use Rattle.partial_file.proofs.Spelled.{null_spelled}
use Rattle.partial_file.proofs.Written.{cell_is_valid, null_is_valid}
use Rattle.partial_file.proofs.number_writing.push_cell.Goals as goal

pub returns-in-None-clause-put : goal.returns-in-None-clause-put
returns-in-None-clause-put c = rw (c.in-None.is, null_spelled) c.push_number.ensures.put

pub returns-in-Some-clause-put : goal.returns-in-Some-clause-put
returns-in-Some-clause-put c =
    let fits : FitsSigned w128 c.in-Some.value = search rules in
    rw c.in-Some.is (rw (to_z-of_z w128 c.in-Some.value fits) at c.push_value.ensures)

pub returns-in-None-clause-valid : goal.returns-in-None-clause-valid
returns-in-None-clause-valid c = rw c.in-None.is null_is_valid

pub returns-in-Some-clause-valid : goal.returns-in-Some-clause-valid
returns-in-Some-clause-valid c =
    let fits : FitsSigned w128 c.in-Some.value = search rules in
    rw c.in-Some.is (cell_is_valid c.in-Some.value fits)
