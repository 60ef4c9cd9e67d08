use Rattle.segment_core.proofs.CodeTests.{same_codes_test}
use Rattle.segment_core.proofs.vector_bytes.codes_fit.Goals as goal

pub returns-clause-value : goal.returns-clause-value
returns-clause-value c = same_codes_test c.args.width c.args.count c.args.codes.now c.codes_fit.result c.codes_fit.ensures.0 c.codes_fit.ensures.1
