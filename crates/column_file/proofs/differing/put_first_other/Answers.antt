use Rattle.std.proofs.Common.{length}
use Rattle.column_file.proofs.FirstOthers.{recoded_alike, recoded_refused}
use Rattle.column_file.proofs.differing.put_first_other.Goals as goal

pub returns-clause-differ : goal.returns-clause-differ
returns-clause-differ c =
    recoded_alike c.args.segment.now c.recode.new.self (length c.args.segment.now.rows) c.in-Some.column c.in-Some.vector c.in_ok-coding.coding c.vector.result.now c.recode.result c.keeps_its_vectors.ensures.form c.keeps_its_vectors.ensures.rows c.in-Some.ensures c.vector.ensures
    c.in_ok-coding.ensures c.recode.ensures.act c.recode.ensures.rows c.keeps_its_vectors.ensures.valid c.recode.ensures.valid

pub returns-clause-refused : goal.returns-clause-refused
returns-clause-refused c =
    recoded_refused c.args.segment.now c.recode.new.self c.in-Some.column c.in-Some.vector c.in_ok-coding.coding c.vector.result.now c.recode.result c.vector.ensures c.recode.ensures.act
