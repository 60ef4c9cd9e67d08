use Rattle.covering_laws.proofs.Covering.{covering_laws_hold}
use Rattle.covering_laws.proofs.laws.covering_laws.Goals as goal

pub returns : goal.returns
returns c = covering_laws_hold
