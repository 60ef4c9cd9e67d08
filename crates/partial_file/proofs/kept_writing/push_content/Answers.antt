use Rattle.partial_file.proofs.Written.{on_ok}
use Rattle.partial_file.proofs.kept_writing.push_content.Goals as goal

pub returns-in-Count-clause-put : goal.returns-in-Count-clause-put
returns-in-Count-clause-put c = rw c.in-Count.is c.push_number.ensures.put

pub returns-in-Count-clause-valid : goal.returns-in-Count-clause-valid
returns-in-Count-clause-valid c = rw c.in-Count.is (on_ok c.push_number.result c.push_number.ensures.valid)

pub returns-in-Sum-clause-put : goal.returns-in-Sum-clause-put
returns-in-Sum-clause-put c = rw c.in-Sum.is c.push_sums.ensures.put

pub returns-in-Sum-clause-valid : goal.returns-in-Sum-clause-valid
returns-in-Sum-clause-valid c = rw c.in-Sum.is c.push_sums.ensures.valid

pub returns-in-Least-clause-put : goal.returns-in-Least-clause-put
returns-in-Least-clause-put c = rw c.in-Least.is c.push_extreme.ensures.put

pub returns-in-Least-clause-valid : goal.returns-in-Least-clause-valid
returns-in-Least-clause-valid c = rw c.in-Least.is (on_ok c.push_extreme.result c.push_extreme.ensures.valid)

pub returns-in-Greatest-clause-put : goal.returns-in-Greatest-clause-put
returns-in-Greatest-clause-put c = rw c.in-Greatest.is c.push_extreme-in-Greatest.ensures.put

pub returns-in-Greatest-clause-valid : goal.returns-in-Greatest-clause-valid
returns-in-Greatest-clause-valid c = rw c.in-Greatest.is (on_ok c.push_extreme-in-Greatest.result c.push_extreme-in-Greatest.ensures.valid)

pub returns-in-Distinct-clause-put : goal.returns-in-Distinct-clause-put
returns-in-Distinct-clause-put c = rw (c.in-Distinct.is, ← c.as_slice.ensures.value) c.push_values.ensures.put

pub returns-in-Distinct-clause-valid : goal.returns-in-Distinct-clause-valid
returns-in-Distinct-clause-valid c = rw (c.in-Distinct.is, ← c.as_slice.ensures.value) c.push_values.ensures.valid
