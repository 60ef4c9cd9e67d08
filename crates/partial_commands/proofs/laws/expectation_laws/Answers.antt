use Rattle.partial_commands.proofs.Expectations.{expectation_laws}
use Rattle.partial_commands.proofs.laws.expectation_laws.Goals as goal

pub returns : goal.returns
returns c = expectation_laws
