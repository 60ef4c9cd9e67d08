use Rattle.file_protocol.proofs.Whole.{throughout}
use Rattle.file_protocol.proofs.laws.holding_then_replacing.Goals as goal

pub returns : goal.returns
returns c = throughout
