-- A null row has the count as its code.
use Rattle.fused_kernels.proofs.RowRunLemmas.{row_codes}
use Rattle.fused_kernels.proofs.row_codes.vector_codes_into.Goals as goal

pub returns-clause-codes : goal.returns-clause-codes
returns-clause-codes c =
    row_codes c.args.vector.now c.coded.result.now c.in_ok-count.count c.null_rows.result c.coded_codes.new.codes c.put_at.new.codes c.coded_codes.new.keys c.coded.ensures c.null_rows.ensures c.in_ok-count.ensures.codes c.put_at.ensures
