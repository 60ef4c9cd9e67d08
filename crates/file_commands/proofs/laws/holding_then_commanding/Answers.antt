use Rattle.file_commands.proofs.Throughout.{holding_then_commanding}
use Rattle.file_commands.proofs.laws.holding_then_commanding.Goals as goal

pub returns : goal.returns
returns c = holding_then_commanding
